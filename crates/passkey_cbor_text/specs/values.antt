pub mod Exact
pub mod Integers
pub mod JsonItem
pub mod Keys
pub mod NoItem
pub mod Ordered
pub mod Registries

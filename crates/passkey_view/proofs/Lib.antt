pub mod Prefixes
pub mod Placed
pub mod Keys
pub mod Walking
pub mod Parts

pub mod Cloning
pub mod Views
pub mod Gathering
pub mod Valuing
pub mod Counted

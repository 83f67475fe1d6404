pub mod Extensions
pub mod Entities

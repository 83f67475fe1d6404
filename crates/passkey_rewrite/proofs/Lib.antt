pub mod Trimming
pub mod Refusing

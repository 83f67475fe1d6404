pub mod Structures
pub mod ValuesBack

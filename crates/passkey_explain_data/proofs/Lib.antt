pub mod KeyVerdict
pub mod DataVerdict
pub mod DataPassing
pub mod DataLength
pub mod Statements

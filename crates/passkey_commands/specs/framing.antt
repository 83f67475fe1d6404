pub mod Command
pub mod Body

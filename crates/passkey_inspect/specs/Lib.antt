pub mod Frame
pub mod Kinds
pub mod LineByLine
pub mod Prints

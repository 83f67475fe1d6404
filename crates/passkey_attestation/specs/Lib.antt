pub mod AlgorithmIdentifier
pub mod Statements
pub mod Formats
pub mod Compound
pub mod Fault
pub mod Statement

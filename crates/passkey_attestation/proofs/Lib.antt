pub mod Statements
pub mod Back
pub mod Views
pub mod Coherent

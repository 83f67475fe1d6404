pub mod Copied
pub mod FaultsPassed
pub mod Texts
pub mod Plain
pub mod SimpleForms

pub mod Appended
pub mod Back
pub mod Taken

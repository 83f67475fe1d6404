pub mod Emptiness
pub mod Failing

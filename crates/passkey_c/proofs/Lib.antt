pub mod Writing
pub mod Explaining
pub mod Encoding
pub mod Asking

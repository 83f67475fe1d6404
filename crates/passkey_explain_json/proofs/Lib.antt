pub mod Explained
pub mod LeftOut
pub mod ClientData

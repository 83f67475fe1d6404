pub mod Explains
pub mod LeftOut
pub mod ClientDataBlame

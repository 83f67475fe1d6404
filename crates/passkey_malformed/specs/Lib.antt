pub mod Stops
pub mod Why
pub mod Rules
pub mod Breaks
pub mod Demands

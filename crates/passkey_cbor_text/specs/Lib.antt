pub mod diagnose
pub mod dump
pub mod values

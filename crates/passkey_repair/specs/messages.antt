pub mod Edit
pub mod Views
pub mod Repaired
pub mod Tables
pub mod Laws
pub mod Texts

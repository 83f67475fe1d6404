pub mod Places
pub mod Listing
pub mod Alike
pub mod Repairing
pub mod Removing

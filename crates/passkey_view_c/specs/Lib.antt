pub mod AuthData
pub mod Canonical
pub mod ClientData
pub mod Items
pub mod Writer

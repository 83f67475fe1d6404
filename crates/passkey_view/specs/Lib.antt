pub mod ClientData
pub mod DataView
pub mod ItemView
pub mod Member

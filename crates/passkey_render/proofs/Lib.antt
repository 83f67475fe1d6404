pub mod NoItems
pub mod Opening
pub mod Texts
mod Parts
mod Typing

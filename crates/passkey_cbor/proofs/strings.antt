pub mod Strings
pub mod Filling
pub mod Chunks
pub mod Lending
pub mod Naming
pub mod Joining
pub mod Pieces

pub mod DataParts
pub mod Json
pub mod KeyParts
pub mod NoItemText
pub mod Opened
pub mod Parts
pub mod Typed

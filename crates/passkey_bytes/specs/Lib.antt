pub mod Bytes
pub mod BytesLoan
pub mod Encoding
pub mod List
pub mod ListLoan
pub mod Map
pub mod SameMaps

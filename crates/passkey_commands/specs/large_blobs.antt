pub mod LbRequest
pub mod LbResponse
pub mod LargeBlob
pub mod Array
pub mod Authenticated

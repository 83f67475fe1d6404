pub mod Calls
pub mod MakeRequest
pub mod MakeResponse
pub mod GetRequest
pub mod GetResponse
pub mod GetInfo
pub mod Encodable

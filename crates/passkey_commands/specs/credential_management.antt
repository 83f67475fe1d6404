pub mod SubCommand
pub mod CredProtect
pub mod CmParameters
pub mod CmRequest
pub mod CmResponse

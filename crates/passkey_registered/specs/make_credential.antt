pub mod AttestationObject
pub mod McRequest
pub mod McResponse

pub mod client_pin
pub mod bio_enrollment
pub mod credential_management
pub mod large_blobs
pub mod config
pub mod framing

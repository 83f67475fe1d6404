pub mod Options
pub mod CredentialParameters
pub mod Information

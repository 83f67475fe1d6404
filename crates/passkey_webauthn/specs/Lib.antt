pub mod Names
pub mod CredentialType
pub mod Transport
pub mod NameLaws
pub mod NumberText
pub mod NumberState
pub mod Parameters

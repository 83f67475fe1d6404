pub mod ClientPin
pub mod BioEnrollment
pub mod CredentialManagement
pub mod LargeBlobs
pub mod ConfigLaws

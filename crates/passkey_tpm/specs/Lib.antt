pub mod Parts
pub mod HashAlgorithm
pub mod CertInfo
pub mod Scheme
pub mod PubArea
pub mod Laws
pub mod Texts

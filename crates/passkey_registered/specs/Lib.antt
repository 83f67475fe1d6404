pub mod Exact
pub mod Kept
pub mod Entities
pub mod get_assertion
pub mod make_credential
pub mod get_info
pub mod extensions
pub mod CanonicalForm

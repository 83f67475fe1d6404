pub mod Texts
pub mod AttestationObjects
pub mod Changes
pub mod Edits
pub mod Repairs
pub mod Laws
pub mod Tables
pub mod ByteOrderMark

pub mod Iana
pub mod IanaLaws
pub mod Table
pub mod TableLaws
pub mod Signed64

pub mod Texts
pub mod BytesTexts
mod Ascending
mod Encodings
mod Escapes
pub mod Gathering
pub mod Indexed
mod Ordering
pub mod Pairs

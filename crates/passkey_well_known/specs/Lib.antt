pub mod UrlKind
pub mod WellKnown

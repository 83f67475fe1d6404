pub mod messages
pub mod json

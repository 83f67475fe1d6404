pub mod heads
pub mod strings
pub mod items
pub mod skipping
pub mod building

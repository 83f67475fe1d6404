pub mod Walks
pub mod Skipping
pub mod After
pub mod Courses
pub mod Advancing

pub mod Preferences
pub mod Options

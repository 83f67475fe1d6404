pub mod options
pub mod credentials
pub mod client_data

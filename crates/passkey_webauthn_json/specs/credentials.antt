pub mod Credentials

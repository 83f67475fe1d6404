pub mod HmacSecret
pub mod Extensions
pub mod Passkey

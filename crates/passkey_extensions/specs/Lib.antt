pub mod HmacInput
pub mod Prf
pub mod MakeExtensions
pub mod GetExtensions
pub mod Entities

pub mod Signals
pub mod Names
pub mod Payment
pub mod PaymentData
pub mod ClientExtensions
pub mod Mediated
pub mod TopOrigin

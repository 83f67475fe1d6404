pub mod GaRequest
pub mod GaResponse

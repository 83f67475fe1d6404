pub mod SubCommand
pub mod PinRequest
pub mod PinResponse

pub mod SubCommand
pub mod CfgRequest
pub mod MinPinLengthParameters
pub mod VendorParameters

pub mod ClientDataType
pub mod MemberLists
pub mod ExtraData
pub mod ClientData
pub mod ClientDataText
pub mod ClientDataBytes
pub mod SimpleForm

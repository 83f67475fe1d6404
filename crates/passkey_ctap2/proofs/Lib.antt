pub mod Messages
pub mod MakeMessages
pub mod GetMessages
pub mod GetInfos
pub mod Groups

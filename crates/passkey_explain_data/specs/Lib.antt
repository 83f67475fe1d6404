pub mod Names
pub mod KeyBlame
pub mod Checked
pub mod DataBlame
pub mod DataLength
pub mod StatementBlame
pub mod Texts

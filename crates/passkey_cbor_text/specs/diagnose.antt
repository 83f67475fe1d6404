pub mod Quoted
pub mod FloatText
pub mod Diagnosis
pub mod BytesText

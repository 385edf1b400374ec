pub mod Numbering
pub mod Request

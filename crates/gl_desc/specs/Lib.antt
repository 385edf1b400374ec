pub mod Desc
pub mod Names

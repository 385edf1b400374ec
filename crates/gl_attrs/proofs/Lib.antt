pub mod Filling
pub mod Searching
pub mod Told

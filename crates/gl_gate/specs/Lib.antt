pub mod Values
pub mod Calls
pub mod Rests
pub mod Turns
pub mod Grown

pub mod Turns
pub mod Grown
pub mod Calls
pub mod Finish
pub mod Knocks

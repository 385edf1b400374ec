pub mod Found
pub mod Halving
pub mod Numbers

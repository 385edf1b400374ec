pub mod Asked
pub mod Back
pub mod Commands
pub mod Flags
pub mod Structures
pub mod To
pub mod Values
pub mod Words

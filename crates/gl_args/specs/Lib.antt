pub mod Counts
pub mod Cuts
pub mod Items
pub mod LookUps
pub mod Names
pub mod Options
pub mod Tools
pub mod Values

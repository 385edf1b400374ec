pub mod Told
pub mod Calls
pub mod Levels
pub mod OwnEntries
pub mod Maps

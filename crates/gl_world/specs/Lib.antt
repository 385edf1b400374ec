pub mod Ranks
pub mod History
pub mod Laws
pub mod Removal
pub mod Deeds
pub mod Worlds
pub mod Events

pub mod Histories
pub mod Phases
pub mod Removals
pub mod Deeds
pub mod Worlds
pub mod Happenings

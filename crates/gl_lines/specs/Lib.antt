pub mod Bytes
pub mod Finding
pub mod FoundLines
pub mod FoundSlot
pub mod OwnSlots
pub mod Texts

pub mod Buffers
pub mod FindingChips
pub mod FindingCosts
pub mod FindingPrints
pub mod FindingSlots
pub mod FoundEnds
pub mod FoundFew

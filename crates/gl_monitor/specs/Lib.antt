pub mod Costs
pub mod ItemText
pub mod Items
pub mod Monitor
pub mod WatchedSlots

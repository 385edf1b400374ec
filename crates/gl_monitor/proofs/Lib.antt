pub mod MonitorChips
pub mod MonitorCosts
pub mod MonitorNames
pub mod MonitorPrints
pub mod MonitorSlots
pub mod Staying
pub mod Turns

pub mod Chips
pub mod Costs
pub mod Entries
pub mod Gives
pub mod OpenSlots
pub mod Printing
pub mod Program

pub mod Earliest
pub mod Fire
pub mod Order
pub mod Timer

pub mod Pins
pub mod PinRange

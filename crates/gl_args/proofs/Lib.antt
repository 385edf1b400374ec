pub mod BareWords
pub mod ChipOptions
pub mod Divided
pub mod Fronts
pub mod LineCounts
pub mod SameOptions

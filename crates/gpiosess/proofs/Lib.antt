pub mod Printing
pub mod OneThing

pub mod Hogs

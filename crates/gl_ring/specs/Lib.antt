pub mod Run
pub mod Waiting
pub mod Edges

pub mod Gaps
pub mod Lasting
pub mod Naming
pub mod Order
pub mod Edges

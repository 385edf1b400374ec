pub mod BankRows
pub mod Banks
pub mod Found
pub mod Planning
pub mod Spelled

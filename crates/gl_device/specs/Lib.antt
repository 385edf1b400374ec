pub mod Alone
pub mod Requests

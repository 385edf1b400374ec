pub mod ConfigFault
pub mod Setting

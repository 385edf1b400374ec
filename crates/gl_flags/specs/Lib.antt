pub mod FlagFault
pub mod LineFlags
pub mod Table

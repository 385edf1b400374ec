pub mod Adder
pub mod AdderLaws
pub mod House
pub mod HouseLaws
pub mod Noting
pub mod Bench

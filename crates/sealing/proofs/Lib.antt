pub mod Written
pub mod Whole
pub mod Checked
pub mod Demand
pub mod Widths
pub mod Unique

pub mod Histories
pub mod Run
pub mod WellFormed

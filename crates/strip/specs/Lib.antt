pub mod Good
pub mod History
pub mod Strips

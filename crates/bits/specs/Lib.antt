pub mod Bit
pub mod Granted

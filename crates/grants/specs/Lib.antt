pub mod Gain
pub mod Words

pub mod Digits
pub mod Text

pub mod Carrier
pub mod Word

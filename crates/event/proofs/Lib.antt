-- Laws of event words.
pub mod Carrier
pub mod Word

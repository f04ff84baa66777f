pub mod Put
pub mod Word
pub mod Words

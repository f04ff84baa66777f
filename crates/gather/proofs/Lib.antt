-- Laws of what is written word by word.
pub mod Written

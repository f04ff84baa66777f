-- Laws of a word inserted.
pub mod Among
pub mod Inserted

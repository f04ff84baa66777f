-- Laws that the proofs of this crate's functions, and other crates, cite.
pub mod Put
pub mod Word
pub mod Words
pub mod Written

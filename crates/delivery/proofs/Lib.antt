-- Laws that the proofs of several functions, and other crates, cite.
pub mod Agree
pub mod Answer
pub mod Once

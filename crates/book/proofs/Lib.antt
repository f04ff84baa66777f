-- Laws of books: what the proofs of this crate's functions, and other crates, cite. Promise.antt states what the promises say together.
pub mod Accepted
pub mod Format
pub mod Once
pub mod Promise
pub mod Reading
pub mod Turns
pub mod Writing

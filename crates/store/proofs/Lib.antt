-- Laws that the proofs of both functions, and other crates, cite.
pub mod Entry
pub mod Same
pub mod Store

-- What the proofs of other crates cite.
pub mod Range

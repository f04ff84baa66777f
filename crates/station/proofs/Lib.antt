-- Laws that the proofs of other crates cite.
pub mod Once
pub mod Positions
pub mod Scan

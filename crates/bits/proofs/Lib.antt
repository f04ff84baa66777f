-- Laws that the proofs of other crates cite.
pub mod Bit
pub mod Next
pub mod Ones

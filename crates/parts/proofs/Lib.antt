-- Laws that the proofs of several functions, and other crates, cite.
pub mod Fault
pub mod Filled
pub mod Granted
pub mod Head
pub mod Listed
pub mod Longest
pub mod Parts
pub mod Summed

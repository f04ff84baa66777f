-- Laws that the proofs of other crates cite.
pub mod Accepted
pub mod Cases
pub mod Clear
pub mod Close
pub mod Fits
pub mod Fresh
pub mod Held
pub mod Once
pub mod Quiet
pub mod Request
pub mod View

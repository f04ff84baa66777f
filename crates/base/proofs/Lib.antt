-- Laws that the proofs of other crates cite.
pub mod First
pub mod Front
pub mod HowMany
pub mod Keep
pub mod Part
pub mod Rules
pub mod Table
pub mod Truth

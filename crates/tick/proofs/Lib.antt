-- What the proofs of other crates cite. Promise.antt states what the promise of the tick part says.
pub mod Part
pub mod Promise

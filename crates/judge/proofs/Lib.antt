-- Laws of the judge.
pub mod Checked
pub mod Promise

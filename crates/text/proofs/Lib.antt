-- What the promises of this crate's calls fix, and that a number is printed so.
pub mod Once
pub mod Printed

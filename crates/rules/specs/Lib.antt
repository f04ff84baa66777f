pub mod Kind
pub mod Kinds
pub mod Ranges
pub mod Refusal
pub mod Refusals

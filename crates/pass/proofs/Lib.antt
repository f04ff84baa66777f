-- Laws of a turn.
pub mod Turn

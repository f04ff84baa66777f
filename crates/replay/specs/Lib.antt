pub mod Calls
pub mod Replay

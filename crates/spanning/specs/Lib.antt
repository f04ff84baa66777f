pub mod Spans
pub mod SpansOf
pub mod Steps
pub mod Told

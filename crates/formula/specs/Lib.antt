pub mod Answer
pub mod Formula
pub mod Judged
pub mod Numbers
pub mod Since
pub mod Ticks
pub mod Verdict

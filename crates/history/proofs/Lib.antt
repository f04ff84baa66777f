-- Laws of runs: the gate answers by the published formula over the events that it accepted. Gate.antt states them.
pub mod Agreed
pub mod Answers
pub mod Carried
pub mod Closes
pub mod Gate
pub mod Histories
pub mod Later
pub mod Requests
pub mod Runs
pub mod Sides
pub mod Strips

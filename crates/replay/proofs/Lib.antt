-- What the proofs of other crates cite. Replaying.antt ends with what the replay is.
pub mod Amid
pub mod Carriers
pub mod Jump
pub mod Led
pub mod Replaying

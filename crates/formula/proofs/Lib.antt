-- The laws of the formula: what each test means, how it moves from one tick to the next, and how long a grant holds.
pub mod Held
pub mod Judged
pub mod Meaning
pub mod Move
pub mod Says

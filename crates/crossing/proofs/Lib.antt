-- What the numbers name.
pub mod Parts

pub mod Entry
pub mod Store

-- Laws of what the keeper holds and saves. Promise.antt states what is saved.
pub mod Follows
pub mod Formed
pub mod Lasts
pub mod Loaded
pub mod Once
pub mod Order
pub mod Ordered
pub mod Promise
pub mod Steps

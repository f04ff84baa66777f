pub mod Agree
pub mod Answer
pub mod Delivery

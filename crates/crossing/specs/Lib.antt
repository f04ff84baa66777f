pub mod Delivered
pub mod Part
pub mod Read

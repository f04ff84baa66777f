pub mod Delivery
pub mod Fault
pub mod Granted
pub mod Listed
pub mod Ready

pub mod First
pub mod HowMany
pub mod Keep
pub mod Part
pub mod Table

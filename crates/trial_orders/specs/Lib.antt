pub mod Draws
pub mod Orders
pub mod Questions
pub mod References

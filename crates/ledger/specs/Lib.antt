pub mod Figures
pub mod Lines
pub mod Requests
pub mod Choices
pub mod Runs
pub mod Held

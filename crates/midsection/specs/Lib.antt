pub mod Fractions
pub mod Midsection
pub mod Notes
pub mod Reading
pub mod Steps
pub mod Verticals

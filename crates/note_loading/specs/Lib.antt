pub mod Endings
pub mod Figures
pub mod Loading
pub mod Visits

pub mod Figures
pub mod Phases
pub mod Refusals
pub mod Told
pub mod Trials

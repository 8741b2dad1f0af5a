pub mod Decisions
pub mod Faults
pub mod Grades
pub mod Kinds
pub mod Lawful
pub mod Same
pub mod Single
pub mod Texts

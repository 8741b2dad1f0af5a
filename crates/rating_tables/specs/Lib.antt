pub mod Lines
pub mod RatedDischarge
pub mod Rdb
pub mod RowEquality
pub mod Table

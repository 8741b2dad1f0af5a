pub mod AxisLemmas
pub mod ColumnLemmas
pub mod CurveLemmas
pub mod EscapeLemmas
pub mod StepLemmas
pub mod ThinLemmas

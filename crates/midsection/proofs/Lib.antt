pub mod DischargeLemmas
pub mod NotesLemmas
pub mod ProductLemmas
pub mod RecordLemmas
pub mod SectionLemmas
pub mod StepLemmas

pub mod Sheets
pub mod Payloads
pub mod Parsing
pub mod Drafts
pub mod Frames

pub mod Commands
pub mod Laws
pub mod Reading
pub mod Words

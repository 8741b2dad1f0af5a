pub mod Connections
pub mod Insides
pub mod Places
pub mod Replays
pub mod StopLemmas

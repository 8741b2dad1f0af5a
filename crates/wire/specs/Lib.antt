pub mod Found
pub mod Framing
pub mod Incoming
pub mod Looking
pub mod Messages
pub mod ReplyHead

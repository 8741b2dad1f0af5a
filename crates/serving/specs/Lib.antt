pub mod Connections
pub mod Crews
pub mod Failing
pub mod Serving
pub mod Taking

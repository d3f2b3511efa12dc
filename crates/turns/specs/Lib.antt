pub mod Turns
pub mod Under
pub mod Settings
pub mod Adds

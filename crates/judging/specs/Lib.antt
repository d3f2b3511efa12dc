pub mod Errors
pub mod Front
pub mod Names
pub mod Parts
pub mod Setting
pub mod State
pub mod Warnings

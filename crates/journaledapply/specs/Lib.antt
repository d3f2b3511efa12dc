pub mod Journaled

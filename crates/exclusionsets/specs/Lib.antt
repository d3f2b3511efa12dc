pub mod Exclusions
pub mod ExclusionText
pub mod Words
pub mod WordsWritten

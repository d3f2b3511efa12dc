pub mod ExclusionsLaws
pub mod ExclusionTextLaws
pub mod WordsWrittenLaws

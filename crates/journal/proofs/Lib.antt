pub mod NumberLaws
pub mod FormLaws
pub mod ReadingLaws
pub mod EntryLaws
pub mod WritingLaws
pub mod LengthLaws
pub mod ExactLaws
pub mod ExamplesProof

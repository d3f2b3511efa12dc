pub mod WordingLaws
pub mod ContactLaws

pub mod KeyEntryLaws
pub mod JournalingLaws
pub mod StepLaws
pub mod WholeLaws

pub mod KeyNumberLaws
pub mod SpreadLaws
pub mod MarksLaws
pub mod LackingLaws
pub mod NotingLaws
pub mod MergingLaws
pub mod ReadyLaws
pub mod UpdateLaws

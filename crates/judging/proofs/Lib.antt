pub mod CodeSums
pub mod FillerLaws
pub mod FrontLaws
pub mod JudgeLaws
pub mod NamesLaws
pub mod OwnKeyLaws

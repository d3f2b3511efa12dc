pub mod FindLaws
pub mod LimitLaws
pub mod KeysLaws
pub mod ManyLaws
pub mod WalkLaws
pub mod AnswersLaws
pub mod LookupProof

pub mod AnyLaws
pub mod MappedLaws
pub mod SweepLaws
pub mod CodesLaws
pub mod MarksLaws
pub mod MarkedLaws
pub mod PartLaws

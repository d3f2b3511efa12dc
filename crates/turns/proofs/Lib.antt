pub mod TurnsLaws
pub mod UnderLaws
pub mod IndexLaws
pub mod RunLaws
pub mod NewLaws
pub mod AddLaws
pub mod AppendLaws

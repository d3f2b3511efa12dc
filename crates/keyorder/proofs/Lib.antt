pub mod DigitOrder
pub mod RankLaws
pub mod NumbersLaws
pub mod OrderLaws
pub mod TaggedLaws
pub mod RunLaws

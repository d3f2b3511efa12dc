pub mod ControlLaws
pub mod RefusalsLaws
pub mod TotalsLaws
pub mod StatedLaws
pub mod PassesLaws

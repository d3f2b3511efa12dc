pub mod HalvingLaws
pub mod KeyRowLaws
pub mod MovedLaws
pub mod PassLaws
pub mod RefusalsLaws
pub mod RowsLaws
pub mod SearchLaws
pub mod SoundLaws

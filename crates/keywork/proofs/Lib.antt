pub mod JudgedLaws
pub mod PackedLaws
pub mod WorkedLaws
pub mod GatherLaws
pub mod SpreadLaws
pub mod BatchOrderLaws
pub mod KeyWorkLaws

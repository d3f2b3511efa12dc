pub mod CountsLaws
pub mod RejectsLaws
pub mod WritingLaws
pub mod RejectColumns
pub mod ControlColumns

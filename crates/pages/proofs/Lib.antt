pub mod FormsLaws
pub mod LineColumns
pub mod LimitLaws
pub mod CaseLinesLaws
pub mod PageLaws
pub mod PrintingLaws
pub mod OutcomeLaws
pub mod PagesProof

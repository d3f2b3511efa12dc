pub mod TableLaws
pub mod CodesLaws
pub mod CodesListProof

pub mod DetailTotalsLaws
pub mod TheoremProof

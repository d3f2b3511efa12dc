pub mod ConvertLaws
pub mod ConvertProof

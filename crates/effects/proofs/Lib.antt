pub mod OutcomeLaws
pub mod TwoBatchesProof
pub mod PartsLaws
pub mod SeveralProof
pub mod TwoIntoOneProof

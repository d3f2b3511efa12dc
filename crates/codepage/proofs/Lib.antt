pub mod TablesLaws
pub mod AcceptedLaws
pub mod CodePageLaws
pub mod FrontLaws
pub mod ConversionLaws
pub mod ThereAndBackProof

pub mod RowPartsLaws
pub mod SentLaws
pub mod ReachedLaws
pub mod NoneLeadsLaws
pub mod WrittenLeadsLaws
pub mod LeadsProof
pub mod CallProof
pub mod WholeBatchProof

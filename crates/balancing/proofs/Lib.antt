pub mod BalanceProof
pub mod CallProof
pub mod SumLaws
pub mod TableProof
pub mod UnderLaws

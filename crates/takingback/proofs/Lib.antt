pub mod LeftLaws
pub mod TakenBackProof
pub mod JournaledBatchProof

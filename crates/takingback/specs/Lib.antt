pub mod TakenBack
pub mod JournaledBatch

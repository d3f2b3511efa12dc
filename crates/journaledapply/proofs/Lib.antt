pub mod JournaledLaws

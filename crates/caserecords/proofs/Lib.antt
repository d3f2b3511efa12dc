pub mod RecordsToLaws

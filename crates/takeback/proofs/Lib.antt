pub mod TakenLaws
pub mod TestLaws
pub mod PlaceLaws
pub mod RestoringLaws
pub mod TestingLaws
pub mod TakeBackLaws
pub mod TakesBackProof
pub mod ExamplesProof

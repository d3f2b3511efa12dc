pub mod TwoBatches
pub mod Several
pub mod TwoIntoOne

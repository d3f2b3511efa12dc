pub mod Balances
pub mod Table
pub mod Theorem
pub mod Under

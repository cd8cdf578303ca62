pub mod Verdicts
pub mod Orders

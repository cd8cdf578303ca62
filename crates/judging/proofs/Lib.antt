-- Laws of the verdict.
pub mod Meeting
pub mod Kept
pub mod Demand
pub mod Judged
pub mod Place

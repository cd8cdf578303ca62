pub mod Keeps
pub mod Lows
pub mod NoOrder
pub mod Ordering
pub mod OrderOrCycle
pub mod Answers

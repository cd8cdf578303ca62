-- Laws of what is read and of what is refused.
pub mod Named
pub mod Sourced
pub mod Numbered
pub mod Loose
pub mod Counted
pub mod Lined
pub mod Sound
pub mod InOrder

-- Laws of the pen's loops.
mod Putting
mod Digits
pub mod Settled

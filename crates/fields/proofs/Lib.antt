-- Laws of the loops.
mod Bytes
mod Lexing
pub mod Settled

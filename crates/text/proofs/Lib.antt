-- Laws of the whole text: checks, the walk, the packing; and what the contract of `read` settles.
pub mod Checks
pub mod Going
pub mod Noticing
pub mod Packing
pub mod Answers
pub mod Settled

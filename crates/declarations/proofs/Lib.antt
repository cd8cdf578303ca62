-- Laws of the loop over the lines.
mod Noting
pub mod Settled

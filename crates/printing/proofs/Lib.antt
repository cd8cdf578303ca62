-- Laws of the printed lines.
mod Fielded
mod Declares
mod Listing
mod Whole
pub mod Settled

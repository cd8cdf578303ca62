-- Laws of the listing.
mod Counted
mod Composed
pub mod Greatest
pub mod Settled

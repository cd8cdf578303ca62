-- Laws of waiting counts and of what is placed; and what the contract of `place_all` settles.
pub mod Hits
pub mod Rows
pub mod Lowering
pub mod Noted
pub mod Blocked
pub mod Gives
pub mod Filled
pub mod Marked
pub mod Told
pub mod Threads
pub mod Stage
pub mod Found
pub mod Refused
pub mod Queued
pub mod Zeros
pub mod Settled

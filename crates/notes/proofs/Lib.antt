-- Laws of the notes: ranks, slots, names found and added; and what the contract of `note` settles.
pub mod Ordered
pub mod Ranks
pub mod Slots
pub mod Kept
pub mod Putting
pub mod Named
pub mod Found
pub mod Added
pub mod Becoming
pub mod Declaring
pub mod Settled

-- The text that the lister prints.
pub mod Listing
pub mod Examples
pub mod Longest

-- What the lister prints.
pub mod Printed
pub mod Entries
pub mod Computed
pub mod Lengths
pub mod Listed
pub mod Indexed
pub mod Places

-- What the contracts of the functions that tests and desktop programs call settle.
pub mod Settled

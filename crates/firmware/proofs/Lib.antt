-- What the contracts of the functions that C calls on the box settle.
pub mod Settled

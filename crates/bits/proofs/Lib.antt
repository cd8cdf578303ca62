-- When two sets are the same; and what the contracts settle.
pub mod Sets
pub mod Settled

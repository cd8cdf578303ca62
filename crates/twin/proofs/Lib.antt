-- Laws of the run of an order.
pub mod Midway
pub mod Solved
pub mod Moved
pub mod Demand
pub mod Integers

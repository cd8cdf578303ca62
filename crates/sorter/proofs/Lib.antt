-- Laws of the walk, the cycle shown and the answers; and what the contract of `order` settles.
pub mod Before
pub mod Closed
pub mod Passes
pub mod Trails
pub mod Turning
pub mod Showing
pub mod Joined
pub mod Demand
pub mod Settled

pub mod Rules
pub mod Run
pub mod Equations
pub mod Computed
pub mod Demand
pub mod Integers
pub mod Examples

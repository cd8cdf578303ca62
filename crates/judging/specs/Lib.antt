pub mod Conditions
pub mod Passes
pub mod Verdict
pub mod Computed
pub mod Judged
pub mod Place

-- Laws of one line: its fields, refusals and ports; and what the contract of `line` settles.
pub mod Counted
pub mod Outcomes
pub mod Declared
pub mod Wired
pub mod Ported
pub mod Keywords
pub mod Settled

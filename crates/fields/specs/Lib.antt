-- Where the fields of a line stand.
pub mod Spans
pub mod Rows
pub mod Places
pub mod Before
pub mod Promise
pub mod Parts

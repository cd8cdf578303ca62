-- Laws of the scans over a whole text; and what their contracts settle.
pub mod Scanning
pub mod Settled

-- Laws of the judge: its scans, calls, runs and turns; and what its contracts settle.
pub mod Scanning
pub mod Lowest
pub mod Scanned
pub mod Calls
pub mod Numbers
pub mod Taking
pub mod Turns
pub mod InTurn
pub mod Settled

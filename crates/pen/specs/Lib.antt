-- What the pen leaves in a lent buffer.
pub mod Put
pub mod Decimal
pub mod Chain

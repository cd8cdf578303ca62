-- What the contracts of the symbols of the archive settle: as those of `desk` do.
pub mod Settled

-- What the contracts of the symbols of the archive settle: as those of `firmware` do.
pub mod Settled

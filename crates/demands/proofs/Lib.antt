-- What C is told, over the contracts of the exports.
pub mod Told

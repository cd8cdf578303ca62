pub mod Layout
pub mod Compared
pub mod Ranks
pub mod Listed
pub mod Notes
pub mod Noted

pub mod Walked
pub mod Packs

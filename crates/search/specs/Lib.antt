pub mod Truth
pub mod Sets
pub mod Least
pub mod Every
pub mod Count
pub mod Front
pub mod Settling

pub mod Given
pub mod Demands
pub mod Coded

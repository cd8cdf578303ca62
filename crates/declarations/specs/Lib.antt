-- The lines that declare units, outputs and inputs.
pub mod Noted
pub mod Turn
pub mod Begins
pub mod Standing

-- Laws of names in a text, compared and sought; and what the contracts settle.
pub mod Walk
pub mod Stretches
pub mod Settled

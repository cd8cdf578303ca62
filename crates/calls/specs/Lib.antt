pub mod Number
pub mod Precedence
pub mod Computed
pub mod Numbers
pub mod Hits
pub mod Given

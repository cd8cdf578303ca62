-- Laws of the procedure, the walk and what is shown.
pub mod Walked
pub mod Sorted
pub mod Remains
pub mod Again
pub mod Shown

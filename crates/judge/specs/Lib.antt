pub mod Marks
pub mod Refused
pub mod Opened
pub mod Taken
pub mod CallByCall
pub mod Records
pub mod Computed

pub mod Number
pub mod Print

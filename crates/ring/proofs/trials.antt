-- The examples are so.
pub mod Checked
pub mod Script

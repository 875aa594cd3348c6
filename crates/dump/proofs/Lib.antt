pub mod InputLaws
pub mod Longest
pub mod LineLaws
pub mod Trials

pub mod StoreLaws
pub mod WordLaws
pub mod RunLaws
pub mod ScanLaws
pub mod TakeLaws

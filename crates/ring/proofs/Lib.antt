pub mod Lists
pub mod seen
pub mod runs
pub mod places
pub mod trials

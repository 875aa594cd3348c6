-- Examples. Nobody has to believe them.
pub mod Script

-- Document 01's and 02's trials of a visit's quantities, computed from the definitions. Nobody has to believe them. They are part of the one table
-- of the crate above.
pub mod Sample
pub mod Marks
pub mod Shares

-- An abstract station, its ring, and its theorem, by which `ring` proves demand 3. Nobody has to believe them: of this crate only the words
-- of Lists stand in demand 3 itself.
pub mod Frame
pub mod Station
pub mod Visit
pub mod Run
pub mod History
pub mod Demand

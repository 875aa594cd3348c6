-- Document 01's and 02's trials and their edges, computed from the definitions. Nobody has to believe them.
pub mod Sample
pub mod ArrivalTrials
pub mod RequestTrials
pub mod Trials

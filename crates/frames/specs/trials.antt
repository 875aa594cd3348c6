-- Document 01's trials of frames and their edges, computed from the definitions. Nobody has to believe them.
pub mod Trials

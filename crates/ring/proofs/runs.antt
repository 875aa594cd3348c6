-- A list of calls: what is proved of it from ordering's theorem, over structs and over bytes.
pub mod Going
pub mod Matches
pub mod Start
pub mod Split
pub mod Theorem
pub mod Demand
pub mod Listed
pub mod Wholes
pub mod AlwaysWhole
pub mod Accepting
pub mod NewestSeen
pub mod Newest
pub mod LentRun
pub mod OverBytes
pub mod Panel
pub mod Promise

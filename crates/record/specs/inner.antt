-- The code's own view of a record: a head, over contents that are lent. Nobody has to believe it: the contracts of the calls don't cite it.
pub mod Head
pub mod Places

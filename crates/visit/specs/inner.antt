-- What the code of a visit hands from one step to the next. Nobody has to believe it: the contracts of hearing a message and of accepting a
-- token don't cite it.
pub mod Places
pub mod Steps

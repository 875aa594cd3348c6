-- What the code of the calls uses between them. Nobody has to believe it: the contracts of the calls don't cite it.
pub mod Value

-- A ring's stations by place in lent bytes: the laws behind the functions for programs.
pub mod PlaceLaws
pub mod MemberLaws
pub mod CutLaws
pub mod FoundingLaws
pub mod ArriveLaws
pub mod HearingLaws

-- Each call as ordering sees it.
pub mod View
pub mod Law
pub mod StoreLaws
pub mod SeenLaws
pub mod QuietLaw
pub mod FrameLaws
pub mod ResendLaw
pub mod HeardLog
pub mod HearLaw
pub mod VisitStore
pub mod VisitMarks
pub mod VisitToken
pub mod VisitWritten
pub mod VisitLaw
pub mod CallLaw
pub mod HistorySeen

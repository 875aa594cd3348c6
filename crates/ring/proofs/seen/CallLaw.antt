-- The law of every call.
use Rattle.ring.specs.Calls.{post, arrival, resending}
use Rattle.ring.proofs.seen.Law.{Law}
use Rattle.ring.proofs.seen.QuietLaw.{sight-post}
use Rattle.ring.proofs.seen.ResendLaw.{sight-resend}
use Rattle.ring.proofs.seen.HearLaw.{sight-arrival}
use Rattle.ring.proofs.seen.VisitLaw.{sight-visit}

pub sight : Law
sight r (post place service content) h = sight-post r place service content
sight r (arrival place frame frames deliveries) h = sight-arrival r place frame frames deliveries h (sight-visit r place frame frames deliveries)
sight r (resending place frames) h = sight-resend r place frames

-- What a value that follows the layout tells, as facts about numbers.
use Prim.Native.Nat.{ℕ, ◌≤◌}
use mathlib.Core.Path.{◌≡◌, refl, sym, ◌∙◌}
use mathlib.Core.Bool.{Bool, true, false, and-false}
use mathlib.Core.List.{List}
use borrow.Author.Tests.{leb-true, eqb-true}
use native.Mathlib.Omega.{arith}
use lib.ListN.{length, take, drop}
use lib.Dec.{leb, eqb}
use Rattle.words.specs.Scan.{all_within, all_zero}
use Rattle.frames.specs.Number.{most_number, is_number, most_id, is_id}
use Rattle.frames.specs.Layout.{most_service, most_content, most_round, most_backlog, most_requests}
use Rattle.frames.specs.Header.{header_follows}
use Rattle.frames.specs.Message.{message_follows}
use Rattle.frames.specs.Token.{blocker_follows, request_numbers, requests_follow, token_follows}
use Rattle.frames.specs.declared.header.Header.{Header}
use Rattle.frames.specs.declared.message.Message.{Message}
use Rattle.frames.specs.declared.token.Token.{Token}

-- ---- a conjunct of a conjunction that holds

different : true ≡ false → ⊥
different e = let z : ◌≡◌ {A = ℕ} 0 1 = cc in omega arith

pub part : {b x : Bool} → x ≡ true → (b ≡ false → x ≡ false) → b ≡ true
part {b = true} e f = refl
part {b = false} e f = absurd (different (sym e ∙ f refl))

-- ---- from 1 to a bound

pub record Within (most n : ℕ) : Type 0 where
  pub low : 1 ≤ n
  pub high : n ≤ most

number-within : (n : ℕ) → is_number n ≡ true → Within most_number n
number-within n e =
    record {
      low = leb-true 1 n (part e (λ (f : leb 1 n ≡ false). rw f));
      high = leb-true n most_number (part e (λ (f : leb n most_number ≡ false). simp (f, and-false)));
    }

id-within : (n : ℕ) → is_id n ≡ true → Within most_id n
id-within n e =
    record {
      low = leb-true 1 n (part e (λ (f : leb 1 n ≡ false). rw f));
      high = leb-true n most_id (part e (λ (f : leb n most_id ≡ false). simp (f, and-false)));
    }

-- ---- header, message, token

pub record HeaderFacts (h : Header) : Type 0 where
  pub ring : Within most_number h.ring.0
  pub representative : Within most_id h.representative

pub header-facts : (h : Header) → header_follows h ≡ true → HeaderFacts h
unfolding header_follows
header-facts h e =
    record {
      ring = number-within h.ring.0 (part e (λ (f : is_number h.ring.0 ≡ false). rw f));
      representative = id-within h.representative (part e (λ (f : is_id h.representative ≡ false). simp (f, and-false)));
    }

pub record MessageFacts (m : Message) (content : List ℕ) : Type 0 where
  pub header : header_follows m.header ≡ true
  pub sender : Within most_id m.sender
  pub number : Within most_number m.number.0
  pub service : m.service ≤ most_service
  pub short : length content ≤ most_content

pub message-facts : (m : Message) (content : List ℕ) → message_follows m content ≡ true → MessageFacts m content
unfolding message_follows
message-facts m content e =
    record {
      header = part e (λ (f : header_follows m.header ≡ false). rw f);
      sender = id-within m.sender (part e (λ (f : is_id m.sender ≡ false). simp (f, and-false)));
      number = number-within m.number.0 (part e (λ (f : is_number m.number.0 ≡ false). simp (f, and-false)));
      service = leb-true m.service most_service (part e (λ (f : leb m.service most_service ≡ false). simp (f, and-false)));
      short = leb-true (length content) most_content (part e (λ (f : leb (length content) most_content ≡ false). simp (f, and-false)));
    }

pub record RequestFacts (n : ℕ) (requests : List ℕ) (highest : ℕ) : Type 0 where
  pub places : length requests ≡ most_requests
  pub few : n ≤ most_requests
  pub known : all_within 1 highest (take n requests) ≡ true
  pub rest : all_zero (drop n requests) ≡ true

pub request-facts : (n : ℕ) (requests : List ℕ) (highest : ℕ) → requests_follow n requests highest ≡ true → RequestFacts n requests highest
unfolding requests_follow
request-facts n requests highest e =
    record {
      places = eqb-true (length requests) most_requests (part e (λ (f : eqb (length requests) most_requests ≡ false). rw f));
      few = leb-true n most_requests (part e (λ (f : leb n most_requests ≡ false). simp (f, and-false)));
      known = part e (λ (f : all_within 1 highest (take n requests) ≡ false). simp (f, and-false));
      rest = part e (λ (f : all_zero (drop n requests) ≡ false). simp (f, and-false));
    }

pub record TokenFacts (t : Token) : Type 0 where
  pub header : header_follows t.header ≡ true
  pub addressee : Within most_id t.addressee
  pub number : Within most_number t.number.0
  pub highest : t.highest.0 ≤ most_number
  pub aru : t.aru.0 ≤ t.highest.0
  pub blocker : blocker_follows t.blocker t.aru.0 t.highest.0 ≡ true
  pub round : t.round ≤ most_round
  pub backlog : t.backlog ≤ most_backlog
  pub requests : RequestFacts t.count (request_numbers t) t.highest.0

pub token-facts : (t : Token) → token_follows t ≡ true → TokenFacts t
unfolding token_follows
token-facts t e =
    record {
      header = part e (λ (f : header_follows t.header ≡ false). rw f);
      addressee = id-within t.addressee (part e (λ (f : is_id t.addressee ≡ false). simp (f, and-false)));
      number = number-within t.number.0 (part e (λ (f : is_number t.number.0 ≡ false). simp (f, and-false)));
      highest = leb-true t.highest.0 most_number (part e (λ (f : leb t.highest.0 most_number ≡ false). simp (f, and-false)));
      aru = leb-true t.aru.0 t.highest.0 (part e (λ (f : leb t.aru.0 t.highest.0 ≡ false). simp (f, and-false)));
      blocker = part e (λ (f : blocker_follows t.blocker t.aru.0 t.highest.0 ≡ false). simp (f, and-false));
      round = leb-true t.round most_round (part e (λ (f : leb t.round most_round ≡ false). simp (f, and-false)));
      backlog = leb-true t.backlog most_backlog (part e (λ (f : leb t.backlog most_backlog ≡ false). simp (f, and-false)));
      requests = request-facts t.count (request_numbers t) t.highest.0 (part e (λ (f : requests_follow t.count (request_numbers t) t.highest.0 ≡ false). simp (f, and-false)));
    }

-- The panel's byte is right after every list of calls: records stay whole.
use Prim.Native.Nat.{ℕ}
use mathlib.Core.Path.{◌≡◌, refl, sym, ◌∙◌}
use mathlib.Core.Bool.{true}
use mathlib.Core.List.{List}
use native.Mathlib.Omega.{arith}
use lib.ListN.{length}
use Rattle.words.specs.Word.{word_at}
use Rattle.words.proofs.WordLaws.{byte_at}
use Rattle.record.specs.Layout.{record_size, panel_at}
use Rattle.record.specs.Bytes.{record_of}
use Rattle.record.specs.Lent.{lent, bytes_whole}
use Rattle.record.proofs.LentLaws.{lent_of}
use Rattle.record.proofs.WholeFacts.{whole-good}
use Rattle.station.proofs.LentLaws.{whole_long}
use Rattle.ring.specs.Panel.{bytes_after, ShowsUndelivered, PanelRight}
use Rattle.ring.proofs.runs.OverBytes.{always-whole-over-bytes}

panel-read : (s : List ℕ) → (record_of s).panel ≡ word_at 1 s panel_at
unfolding record_of
panel-read s = refl

shown : (s : List ℕ) → bytes_whole s ≡ true → ShowsUndelivered s
shown s w =
    let long : length s ≡ record_size = whole_long s w in
    byte_at s panel_at (omega (arith, long)) ∙ sym (panel-read s) ∙ rw (lent_of s long) at (whole-good (lent s) w).panel

pub panel-right : PanelRight
panel-right list ring buffers rooms f calls can p h = shown (bytes_after list ring buffers rooms calls p) (always-whole-over-bytes list ring buffers rooms f calls can p h)

-- The collection's program (document 01, "The plate") "reads a chart from standard input and writes its plate": what it prints for a chart
-- that no refusal applies to is one of the plates that the demands speak of.
use Rattle.std.specs.Prelude.{ℕ, ◌≡◌, refl, List, take, drop, Ok}
use Rattle.std.proofs.Common.{sym, ap, subst, ◌∙◌, take_at}
use Rattle.refusal.specs.declared.Misdrawn.{Misdrawn}
use Rattle.rows.specs.declared.Chart.{Chart}
use Rattle.chart.specs.Meaning.{arena_of}
use Rattle.chart.specs.Examined.{examined}
use Rattle.chart.specs.Exact.{accepted-exactly}
use Rattle.chart.specs.Refusals.{Applies}
use Rattle.chart.specs.Text.{positions_of, moves_of}
use Rattle.writing.specs.Writing.{plate_of}
use Rattle.checking.specs.Checking.{checked}
use Rattle.response.specs.Response.{response, response_by, Responded}
use Rattle.demands.specs.Sanctioned.{Sanctioned, by_checking}
use Rattle.demands.specs.SanctionedLaws.{written-is-accepted}

-- the first r bytes of the buffer, where the program answered r
pub printed-is-sanctioned : {text out out' : List ℕ} {r : ℕ} → Responded text out out' r → ((s : Misdrawn) → Applies text s → ⊥) → Sanctioned text (take r out')
unfolding response response_by
printed-is-sanctioned {text} {out} {out'} {r} is none =
    let chart : Chart = record { positions = positions_of text; moves = moves_of text } in
    let taken = (accepted-exactly text chart).1 (none, refl) in
    by_checking (subst (λ (p : List ℕ). checked text p ≡ Ok tt) (sym (printed ∙ plate chart taken)) (written-is-accepted text chart taken))
  where
    plate : (chart : Chart) → examined text ≡ Ok chart → response text ≡ plate_of (arena_of text)
    plate chart taken = rw taken

    printed : take r out' ≡ response text
    printed = ap (take r) is.bytes ∙ take_at (response text) (drop r out) r (sym is.size)

-- A plate that Writing makes is one that Checking accepts, so the demands are shown of accepted plates.
use Rattle.std.specs.Prelude.{ℕ, ◌+◌, ◌*◌, ◌≡◌, refl, Bool, true, false, cond, List, length, take, drop, leb, Result, Ok, Err}
use Rattle.std.proofs.Common.{arith, sym, ap, subst, ◌∙◌, take_at}
use Rattle.game.specs.Arena.{size}
use Rattle.game.specs.Table.{round_value, round_step}
use Rattle.chart.specs.Meaning.{arena_of}
use Rattle.chart.specs.Examined.{examined}
use Rattle.chart.specs.Accepted.{accepted-size}
use Rattle.rows.specs.declared.Chart.{Chart}
use Rattle.valuing.specs.Columns.{first-line-counted}
use Rattle.writing.specs.Writing.{plate_of, rounds_first_line, written, written_by, WrittenIs}
use Rattle.writing.specs.WritingLaws.{plate-length}
use Rattle.refusal.specs.declared.Refusal.TheVariants.{Short}
use Rattle.checking.specs.Checking.{checked}
use Rattle.checking.specs.Plates.{rounds-plate-is-accepted}
use Rattle.refusal.specs.declared.Misdrawn.{Misdrawn}
use Rattle.demands.specs.Sanctioned.{Sanctioned, by_writing, by_checking}

-- where Writing answered a length, it took the chart, and the length is the plate's
pub record Took (text : List ℕ) (k : ℕ) : Type 0 where
  pub chart : Chart
  pub taken : examined text ≡ Ok chart
  pub length-is : k ≡ (chart.positions + 1) * 22

pub writing-took : (text : List ℕ) (room k : ℕ) → Ok k ≡ written text room → Took text k
unfolding written written_by
writing-took text room k e = go (examined text) refl e
  where
    both : (chart : Chart) → examined text ≡ Ok chart → (b : Bool) → Ok k ≡ cond b (Ok ((chart.positions + 1) * 22)) (Err Short) → Took text k
    both chart t true e = record { chart = chart; taken = t; length-is = cc }
    both chart t false e = let z : ◌≡◌ {A = ℕ} 0 1 = cc in absurd (omega arith)

    go : (x : Result Chart Misdrawn) → examined text ≡ x → Ok k ≡ written_by x room → Took text k
    go (Err r) t e = let z : ◌≡◌ {A = ℕ} 0 1 = cc in absurd (omega arith)
    go (Ok chart) t e = both chart t (leb ((chart.positions + 1) * 22) room) e

-- the plate in the buffer is the arena's
pub written-plate : {text out out' : List ℕ} {k : ℕ} → WrittenIs text out out' (Ok k) → take k out' ≡ plate_of (arena_of text)
written-plate {text} {out} {k} w =
    let t = writing-took text (length out) k w.answer in
    let n = accepted-size text t.chart t.taken in
    let l = t.length-is in
    ap (take k) (w.taken k refl) ∙ take_at (plate_of (arena_of text)) (drop k out) k (plate-length (arena_of text) ∙ omega (arith, n, l))

-- Checking accepts the plate that Writing makes
pub written-is-accepted : (text : List ℕ) (chart : Chart) → examined text ≡ Ok chart → checked text (plate_of (arena_of text)) ≡ Ok tt
unfolding plate_of
written-is-accepted text chart taken =
    let a = arena_of text in rounds-plate-is-accepted text chart taken (rounds_first_line a) (first-line-counted (size a) (round_value a) (round_step a))

pub sanctioned-is-accepted : (text plate : List ℕ) → Sanctioned text plate → checked text plate ≡ Ok tt
sanctioned-is-accepted text plate (by_checking e) = e
sanctioned-is-accepted text plate (by_writing {out = out} {k = k} w e) =
    let t = writing-took text (length out) k w.answer in
    subst (λ (p : List ℕ). checked text p ≡ Ok tt) (sym (e ∙ written-plate w)) (written-is-accepted text t.chart t.taken)

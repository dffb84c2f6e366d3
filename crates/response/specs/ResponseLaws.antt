-- The response by what Writing answered, into a buffer with room for every plate.
use Rattle.std.specs.Prelude.{ℕ, ◌+◌, ◌*◌, ◌%◌, ◌≤◌, List, [], ◌∷◌, ◌++◌, length, drop, Result, Ok, Err}
use Rattle.std.proofs.Common.{arith, ap, ◌∙◌, le-leb}
use Rattle.std.proofs.Math.Path.{◌≡◌, refl, sym}
use Rattle.game.specs.Arena.{size}
use Rattle.line.specs.LineLaws.{line-length}
use Rattle.line.specs.Made.{LineMade}
use Rattle.line.specs.MadeLaws.{made-line}
use Rattle.line.specs.declared.Entry.TheVariants.{Number}
use Rattle.chart.specs.Meaning.{arena_of}
use Rattle.chart.specs.Examined.{examined}
use Rattle.chart.specs.Accepted.{accepted-size, accepted-chartable}
use Rattle.refusal.specs.Numbers.{numbers_of}
use Rattle.refusal.specs.declared.Refusal.{Refusal}
use Rattle.refusal.specs.declared.Refusal.TheVariants.{Chart as OfChart}
use Rattle.writing.specs.Writing.{written, written_by, WrittenIs}
use Rattle.writing.specs.WritingLaws.{plate-length}
use Rattle.rows.specs.declared.Chart.{Chart}
use Rattle.refusal.specs.declared.Misdrawn.{Misdrawn}
use Rattle.response.specs.Response.{refusal_text, response, response_by, Responded}

module _ (text out : List ℕ) (room : 11286 ≤ length out) where
  -- what Writing answered tells what the chart's examination found
  pub responded-plate : (k : ℕ) (out' : List ℕ) → WrittenIs text out out' (Ok k) → Responded text out out' k
  unfolding response response_by written written_by
  responded-plate k out' w = go (examined text) refl w.answer
    where
      go : (x : Result Chart Misdrawn) → examined text ≡ x → Ok k ≡ written_by x (length out) → Responded text out out' k
      go (Err r) e f = let z : ◌≡◌ {A = ℕ} 0 1 = cc in absurd (omega arith)
      go (Ok chart) e f =
          let s = accepted-size text chart e in
          let few = (accepted-chartable text chart e).few-positions in
          let g : Ok k ≡ Ok ((chart.positions + 1) * 22) = f ∙ rw (le-leb ((chart.positions + 1) * 22) (length out) (omega arith)) in
          let n : k ≡ (chart.positions + 1) * 22 = cc in
          record {
            size = rw e (n ∙ sym (plate-length (arena_of text) ∙ omega (arith, s)));
            bytes = rw e (w.taken k refl);
          }

  pub responded-line : (x : Refusal) (out' out'' : List ℕ) → WrittenIs text out out' (Err x) →
      LineMade out' out'' 82 (Number (numbers_of x).number ∷ Number ((numbers_of x).line % 100000) ∷ []) → Responded text out out'' 12
  unfolding response response_by written written_by
  responded-line x out' out'' w made = go (examined text) refl w.answer
    where
      same : out' ≡ out
      same = w.refused x refl

      line : out'' ≡ refusal_text x ++ drop 12 out'
      line = made-line out' 82 _ (omega (arith, ap length same)) out'' made

      go : (e : Result Chart Misdrawn) → examined text ≡ e → Err x ≡ written_by e (length out) → Responded text out out'' 12
      go (Err r) e f =
          let g : x ≡ OfChart r = cc in
          record { size = rw e (sym (line-length 82 _)); bytes = rw e (rw (g, same) at line) }
      go (Ok chart) e f =
          let s = accepted-size text chart e in
          let few = (accepted-chartable text chart e).few-positions in
          let g : Err x ≡ Ok ((chart.positions + 1) * 22) = f ∙ rw (le-leb ((chart.positions + 1) * 22) (length out) (omega arith)) in
          let z : ◌≡◌ {A = ℕ} 0 1 = cc in
          absurd (omega arith)

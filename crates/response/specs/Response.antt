-- What the collection's program writes (document 01, "The plate"): "reads a chart from standard input and writes its plate, or on
-- refusal the single line `R`, number, line, in the chart's columns".
use Rattle.std.specs.Prelude.{ℕ, ◌%◌, ◌≤◌, ◌≡◌, List, [], ◌∷◌, ◌++◌, length, drop, Result, Ok, Err}
use Rattle.std.proofs.Common.{arith, ap, ◌∙◌, length-append}
use Rattle.line.specs.Text.{line_text}
use Rattle.line.specs.declared.Entry.TheVariants.{Number}
use Rattle.game.specs.Arena.{Arena}
use Rattle.chart.specs.Meaning.{arena_of}
use Rattle.chart.specs.Examined.{examined}
use Rattle.refusal.specs.Numbers.{numbers_of}
use Rattle.refusal.specs.declared.Refusal.{Refusal}
use Rattle.refusal.specs.declared.Refusal.TheVariants.{Chart as OfChart}
use Rattle.rows.specs.declared.Chart.{Chart}
use Rattle.refusal.specs.declared.Misdrawn.{Misdrawn}
use Rattle.writing.specs.Writing.{plate_of}

-- "the single line `R`, number, line"; the line is below 100,000 (specs/RefusalLine.antt: a chart has 4,609 lines at most)
abbrev pub refusal_text : Refusal → List ℕ
refusal_text x = line_text 82 (Number (numbers_of x).number ∷ Number ((numbers_of x).line % 100000) ∷ [])

unfoldable pub response_by : Result Chart Misdrawn → Arena → List ℕ
response_by (Err r) a = refusal_text (OfChart r)
response_by (Ok chart) a = plate_of a

unfoldable pub response : List ℕ → List ℕ
response text = response_by (examined text) (arena_of text)

-- the bytes of the response at the start of the buffer, and the rest as it was
pub record Responded (text out out' : List ℕ) (r : ℕ) : Type 0 where
  pub size : r ≡ length (response text)
  pub bytes : out' ≡ response text ++ drop r out

-- the response is within the buffer
pub responded-fits : {text out out' : List ℕ} {r : ℕ} → Responded text out out' r → r ≤ length out'
responded-fits {text} {out} {r} h =
    let e = h.size in
    let f = ap length h.bytes ∙ length-append (response text) (drop r out) in
    omega arith

-- "Charts that differ only in blank against 0 have the same plate" (document 02, order 1), of every job: two such charts, with everything
-- else that is lent the same, get the same answer and leave the same bytes, numbers and records.
use Rattle.std.specs.Prelude.{ℕ, ◌≡◌, List, ⊤, Option, Result}
use Rattle.comparing.specs.declared.Difference.{Difference}
use Rattle.chart.specs.Meaning.{arena_of}
use Rattle.chart.specs.Examined.{examined}
use Rattle.chart.specs.Blanks.{OnlyBlanksDiffer}
use Rattle.valuing.specs.Valuing.{ValuedIs}
use Rattle.writing.specs.Writing.{WrittenIs}
use Rattle.reading.specs.Reading.{ReadingIs}
use Rattle.checking.specs.Checking.{checked}
use Rattle.weighing.specs.Weighing.{WeighedIs}
use Rattle.listing.specs.Listing.{ListedIs}
use Rattle.ruin.specs.Ruin.{RuinedIs}
use Rattle.indexing.specs.Indexing.{indexed}
use Rattle.comparing.specs.Compared.{ComparedIs}
use Rattle.run.specs.Running.{started, reported}
use Rattle.run.specs.declared.Run.{Run}
use Rattle.house.specs.Housing.{HouseIs}
use Rattle.rows.specs.declared.FirstLine.{FirstLine}
use Rattle.refusal.specs.declared.Refusal.{Refusal}
use Rattle.response.specs.Response.{Responded}

-- what the jobs' answers take from a chart's text: its examination, with the refusal and its line, and the arena that it means
pub record SameChart (text other : List ℕ) : Type 0 where
  pub examination : examined text ≡ examined other
  pub arena : arena_of text ≡ arena_of other

-- each job on two texts, by what it ensures
pub record SameAnswers (text other : List ℕ) : Type 0 where
  pub valuing : {values values₁ values₂ choices choices₁ choices₂ steps steps₁ steps₂ : List ℕ} {r s : Result ℕ Refusal}
      → ValuedIs text values values₁ choices choices₁ steps steps₁ r → ValuedIs other values values₂ choices choices₂ steps steps₂ s
      → (r ≡ s) × (values₁ ≡ values₂) × (choices₁ ≡ choices₂) × (steps₁ ≡ steps₂)
  pub writing : {out out₁ out₂ : List ℕ} {r s : Result ℕ Refusal} → WrittenIs text out out₁ r → WrittenIs other out out₂ s → (r ≡ s) × (out₁ ≡ out₂)
  pub reading : {plate values values₁ values₂ choices choices₁ choices₂ steps steps₁ steps₂ : List ℕ} {r s : Result FirstLine Refusal}
      → ReadingIs text plate values values₁ choices choices₁ steps steps₁ r → ReadingIs other plate values values₂ choices choices₂ steps steps₂ s
      → (r ≡ s) × (values₁ ≡ values₂) × (choices₁ ≡ choices₂) × (steps₁ ≡ steps₂)
  pub checking : (plate : List ℕ) → checked text plate ≡ checked other plate
  pub weighing : {choices worths worths₁ worths₂ : List ℕ} {r s : Result ⊤ Refusal}
      → WeighedIs text choices worths worths₁ r → WeighedIs other choices worths worths₂ s → (r ≡ s) × (worths₁ ≡ worths₂)
  pub comparing : {plate choices : List ℕ} {r s : Result (Option Difference) Refusal} → ComparedIs text plate choices r → ComparedIs other plate choices s → r ≡ s
  pub listing : {out out₁ out₂ : List ℕ} {r s : Result ℕ Refusal} → ListedIs text out out₁ r → ListedIs other out out₂ s → (r ≡ s) × (out₁ ≡ out₂)
  pub ruin : {choices out out₁ out₂ : List ℕ} {position : ℕ} {r s : Result ℕ Refusal}
      → RuinedIs text choices position out out₁ r → RuinedIs other choices position out out₂ s → (r ≡ s) × (out₁ ≡ out₂)
  -- "a blank mark counts as 0" (document 02, order 9)
  pub indexing : indexed text ≡ indexed other
  pub start : (plate : List ℕ) (position : ℕ) → started text plate position ≡ started other plate position
  pub report : (run : Run) (plate : List ℕ) (to : ℕ) → reported run text plate to ≡ reported run other plate to
  pub house : {runs after₁ after₂ : List Run} {reports plate : List ℕ} {r s : Result ℕ (ℕ × Refusal)}
      → HouseIs runs reports text plate after₁ r → HouseIs runs reports other plate after₂ s → (r ≡ s) × (after₁ ≡ after₂)
  -- what the collection's program prints
  pub program : {out out₁ out₂ : List ℕ} {r s : ℕ} → Responded text out out₁ r → Responded other out out₂ s → (r ≡ s) × (out₁ ≡ out₂)

-- the request
abbrev pub BlankMarks : Type 0
BlankMarks = (text other : List ℕ) → OnlyBlanksDiffer text other → SameChart text other × SameAnswers text other

-- What each exported function answers: all that the library's job of its name promises, and that job's answer in numbers.
use Rattle.std.specs.Prelude.{ℕ, ◌≡◌, List, ⊤, Option, Result}
use Rattle.comparing.specs.declared.Difference.{Difference}
use Rattle.valuing.specs.Valuing.{ValuedIs}
use Rattle.weighing.specs.Weighing.{WeighedIs}
use Rattle.reading.specs.Reading.{ReadingIs}
use Rattle.writing.specs.Writing.{WrittenIs}
use Rattle.comparing.specs.Compared.{ComparedIs}
use Rattle.listing.specs.Listing.{ListedIs}
use Rattle.ruin.specs.Ruin.{RuinedIs}
use Rattle.generating.specs.Generating.{GeneratedIs}
use Rattle.refusal.specs.declared.Numbers.{Numbers}
use Rattle.house.specs.Housing.{HouseIs}
use Rattle.run.specs.declared.Run.{Run}
use Rattle.answers.specs.Numbers.{compared_numbers, count_numbers, housed_numbers, reading_numbers, refusal_numbers, valued_numbers}
use Rattle.answers.specs.declared.ValuedNumbers.{ValuedNumbers}
use Rattle.answers.specs.declared.CountNumbers.{CountNumbers}
use Rattle.answers.specs.declared.ReadingNumbers.{ReadingNumbers}
use Rattle.answers.specs.declared.ComparedNumbers.{ComparedNumbers}
use Rattle.rows.specs.declared.FirstLine.{FirstLine}
use Rattle.refusal.specs.declared.Refusal.{Refusal}
use Rattle.answers.specs.declared.HouseNumbers.{HouseNumbers}

pub record ValuedAs (text values values' choices choices' steps steps' : List ℕ) (r : ValuedNumbers) : Type 0 where
  pub answer : Result ℕ Refusal
  pub job : ValuedIs text values values' choices choices' steps steps' answer
  pub numbers : r ≡ valued_numbers answer

pub record WrittenAs (text out out' : List ℕ) (r : CountNumbers) : Type 0 where
  pub answer : Result ℕ Refusal
  pub job : WrittenIs text out out' answer
  pub numbers : r ≡ count_numbers answer

pub record ReadAs (text plate values values' choices choices' steps steps' : List ℕ) (r : ReadingNumbers) : Type 0 where
  pub answer : Result FirstLine Refusal
  pub job : ReadingIs text plate values values' choices choices' steps steps' answer
  pub numbers : r ≡ reading_numbers answer

pub record WeighedAs (text choices worths worths' : List ℕ) (r : Numbers) : Type 0 where
  pub answer : Result ⊤ Refusal
  pub job : WeighedIs text choices worths worths' answer
  pub numbers : r ≡ refusal_numbers answer

pub record ComparedAs (text plate choices : List ℕ) (r : ComparedNumbers) : Type 0 where
  pub answer : Result (Option Difference) Refusal
  pub job : ComparedIs text plate choices answer
  pub numbers : r ≡ compared_numbers answer

pub record ListedAs (text out out' : List ℕ) (r : CountNumbers) : Type 0 where
  pub answer : Result ℕ Refusal
  pub job : ListedIs text out out' answer
  pub numbers : r ≡ count_numbers answer

pub record RuinedAs (text choices : List ℕ) (position : ℕ) (out out' : List ℕ) (r : CountNumbers) : Type 0 where
  pub answer : Result ℕ Refusal
  pub job : RuinedIs text choices position out out' answer
  pub numbers : r ≡ count_numbers answer

pub record GeneratedAs (n i : ℕ) (out out' : List ℕ) (r : CountNumbers) : Type 0 where
  pub answer : Result ℕ Refusal
  pub job : GeneratedIs n i out out' answer
  pub numbers : r ≡ count_numbers answer

pub record HousedAs (runs : List Run) (reports text plate : List ℕ) (after : List Run) (r : HouseNumbers) : Type 0 where
  pub answer : Result ℕ (ℕ × Refusal)
  pub job : HouseIs runs reports text plate after answer
  pub numbers : r ≡ housed_numbers answer

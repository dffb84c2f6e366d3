-- A run and its reports, each with texts of its own (document 02, order 5): "From then on a user may lend any texts at any report, and present
-- value plus disturbances seen is still at least the starting value after all accepted reports."
use Rattle.std.specs.Prelude.{ℕ, ◌+◌, ◌<◌, ◌≡◌, List, [], ◌∷◌, T, Result, Ok, Err}
use Rattle.rows.specs.Numbers.{value_of}
use Rattle.game.specs.Value.{fin, ◌≼◌, ◌≺◌, ◌⊕◌}
use Rattle.game.specs.Arena.{size, unsafe}
use Rattle.chart.specs.Meaning.{arena_of}
use Rattle.plate.specs.Read.{value_in_plate, choice_in_plate}
use Rattle.checking.specs.Answers.{AcceptedIs}
use Rattle.moves.specs.Moves.{move_kind}
use Rattle.moves.specs.declared.Kind.{Kind}
use Rattle.moves.specs.declared.Kind.TheVariants.{Meant, Disturbance, Neither}
use Rattle.run.specs.Running.{reported}
use Rattle.run.specs.declared.Run.{Run}
use Rattle.run.specs.declared.Advice.{Advice}
use Rattle.refusal.specs.declared.Refusal.{Refusal}
use Rattle.run.specs.declared.Reported.{Reported}

-- the two texts that are lent to a start or a report
pub record Texts : Type 0 where
  pub chart : List ℕ
  pub plate : List ℕ

-- a report: its texts, and the position that the machine went to
pub record Report : Type 0 where
  pub texts : Texts
  pub to : ℕ

-- what a run answers to it
abbrev pub answered : Run → Report → Reported
answered run r = reported run r.texts.chart r.texts.plate r.to

-- what the move is, by the report's own texts
abbrev pub kind_of : Run → Report → Kind
kind_of run r = move_kind (arena_of r.texts.chart) (choice_in_plate r.texts.plate run.position) run.position r.to

-- the texts that the run stands on: those of a report that was taken; a refused one leaves them as they were
unfoldable pub stands_on : Result Advice Refusal → (lent before : Texts) → Texts
stands_on (Ok advice) lent before = lent
stands_on (Err x) lent before = before

-- the disturbances seen by a report: one if it was taken as a disturbance
unfoldable pub disturbing : Result Advice Refusal → Kind → ℕ
disturbing (Ok advice) Disturbance = 1
disturbing (Ok advice) Meant = 0
disturbing (Ok advice) Neither = 0
disturbing (Err x) k = 0

-- after reports, the oldest first: the run,
unfoldable pub run_after : Run → List Report → Run
run_after run [] = run
run_after run (r ∷ rs) = run_after (answered run r).run rs

-- the texts that it stands on, at first those of the start,
unfoldable pub texts_after : Run → Texts → List Report → Texts
texts_after run before [] = before
texts_after run before (r ∷ rs) = texts_after (answered run r).run (stands_on (answered run r).answer r.texts before) rs

-- and how many of the accepted ones were disturbances, with those before
unfoldable pub seen_after : Run → ℕ → List Report → ℕ
seen_after run before [] = before
seen_after run before (r ∷ rs) = seen_after (answered run r).run (before + disturbing (answered run r).answer (kind_of run r)) rs

-- What holds of a run that began at `position` of `first`, stands on `last`, and has had `seen` disturbances
pub record Sustained (first : Texts) (position : ℕ) (last : Texts) (seen : ℕ) (run : Run) : Type 0 where
  -- the texts are a chart with a plate that is right for it, and the position is on the chart
  pub accepted : AcceptedIs last.chart last.plate
  pub inside : run.position < size (arena_of last.chart)
  -- the held value is the value that the last accepted report's plate gives for the position
  pub holds : value_of run.value ≡ value_in_plate last.plate run.position
  pub counts : run.seen ≡ seen
  -- the run keeps the value at its start
  pub began : value_of run.initial ≡ value_in_plate first.plate position
  -- "present value plus disturbances seen is still at least the starting value", over values, where "ever" is above each number
  pub sums : value_of run.initial ≼ value_of run.value ⊕ run.seen
  -- so while less was seen than that, the position is safe on the chart that the run stands on
  pub safe : fin run.seen ≺ value_of run.initial → T (unsafe (arena_of last.chart) run.position) → ⊥

-- A run and its reports where the texts stay the same (document 01, "The run"): the play that the accepted reports are, and what holds of
-- it and of the run.
use Rattle.std.specs.Prelude.{ℕ, ◌≡◌, List, [], ◌∷◌, map, Result, Ok, Err}
use Rattle.rows.specs.Numbers.{value_of}
use Rattle.game.specs.Value.{fin, ◌≼◌, ◌≺◌, ◌⊕◌}
use Rattle.game.specs.Play.{Trail, meant, disturbed, last, cost, Play, Unsafe, Legal, positional}
use Rattle.chart.specs.Meaning.{arena_of}
use Rattle.plate.specs.Read.{value_in_plate, choice_in_plate}
use Rattle.moves.specs.Moves.{move_kind}
use Rattle.refusal.specs.declared.Refusal.TheVariants.{Fault, Held}
use Rattle.run.specs.Running.{reported}
use Rattle.run.specs.AnyTexts.{Report, Texts}
use Rattle.moves.specs.declared.Kind.{Kind}
use Rattle.moves.specs.declared.Kind.TheVariants.{Meant, Disturbance, Neither}
use Rattle.run.specs.declared.Advice.{Advice}
use Rattle.refusal.specs.declared.Refusal.{Refusal}
use Rattle.run.specs.declared.Run.{Run}

-- an accepted report adds its move to the trail, as what it is; a refused one adds nothing
unfoldable pub grown : Result Advice Refusal → Kind → ℕ → Trail → Trail
grown (Ok advice) Meant to t = meant t to
grown (Ok advice) Disturbance to t = disturbed t to
grown (Ok advice) Neither to t = t
grown (Err x) k to t = t

-- reports that are all lent the same texts, of the positions that the machine went to
abbrev pub with_texts : Texts → List ℕ → List Report
with_texts texts tos = map (λ (to : ℕ). record { texts = texts; to = to }) tos

module _ (text plate : List ℕ) where
  unfoldable pub trail_with : Run → ℕ → Trail → Trail
  trail_with run to t = grown (reported run text plate to).answer (move_kind (arena_of text) (choice_in_plate plate run.position) run.position to) to t

  -- the trail of the reports that were accepted, the oldest first
  unfoldable pub trail_after : Run → Trail → List ℕ → Trail
  trail_after run t [] = t
  trail_after run t (to ∷ tos) = trail_after (reported run text plate to).run (trail_with run to t) tos

  -- a run that began at `position` and the trail of its accepted reports
  pub record Follows (legal : Legal (arena_of text) (choice_in_plate plate)) (position : ℕ) (run : Run) (t : Trail) : Type 0 where
    -- they are a play of the plate's controller, which stands where the run does and costs what was seen
    pub play : Play (arena_of text) (positional (arena_of text) (choice_in_plate plate) legal) position t
    pub stands : run.position ≡ last position t
    pub counts : run.seen ≡ cost (arena_of text) position t
    -- the run keeps the value at its start
    pub began : value_of run.initial ≡ value_in_plate plate position
    -- "present value plus disturbances seen is at least the starting value"
    pub holds : value_of run.initial ≼ value_in_plate plate run.position ⊕ run.seen
    -- and while less was seen than that, every position so far was safe
    pub safe : fin run.seen ≺ value_of run.initial → Unsafe (arena_of text) position t → ⊥
    -- a report with these texts is turned away neither by 14 nor by 18
    pub sound : (to v c : ℕ) → (reported run text plate to).answer ≡ Err (Fault v c) → ⊥
    pub held : (to : ℕ) → (reported run text plate to).answer ≡ Err Held → ⊥

-- The proof of what is said of positions of rest: each sentence is that of R in a definition below, carried to the jobs by their own theorems.
use Rattle.std.specs.Prelude.{ℕ, ◌≡◌, refl, List, Ok}
use Rattle.std.proofs.Common.{sym, subst, ◌∙◌, ⊎_elim}
use Rattle.rows.specs.Numbers.{row_value}
use Rattle.game.specs.Value.{Value}
use Rattle.game.specs.Arena.{Owner, nobody, owner_at, Disturbance}
use Rattle.game.specs.Play.{LegalAs}
use Rattle.game.proofs.PlayLaws.{nobody-is-not-controller}
use Rattle.game.proofs.RestLaws.{rest-is-ever}
use Rattle.chart.specs.Meaning.{arena_of}
use Rattle.chart.specs.Accepted.{accepted-chartable}
use Rattle.plate.specs.Read.{choice_in_plate}
use Rattle.checking.specs.Plates.{accepted-plate-is-right}
use Rattle.moves.specs.Moves.{KindSays, move_kind}
use Rattle.moves.specs.MoveLaws.{kind-exactly}
use Rattle.moves.specs.declared.Kind.{Kind}
use Rattle.moves.specs.declared.Kind.TheVariants.{Meant as MeantMove, Disturbance as Disturbed}
use Rattle.run.proofs.AnswersExact.{report-exactly}
use Rattle.run.specs.Running.{reported}
use Rattle.run.specs.declared.Run.{Run}
use Rattle.run.specs.declared.Advice.{Advice}
use Rattle.demands.specs.SanctionedLaws.{sanctioned-is-accepted}
use Rattle.demands.proofs.GoodMovesHold.{good-moves}
use Rattle.demands.specs.Rest.{PositionsOfRest}

module _ (text : List ℕ) (v : ℕ) (rests : owner_at (arena_of text) v ≡ nobody) where
  -- a legal choice at R is the dash
  dash : (x : Value) → LegalAs (owner_at (arena_of text) v) (arena_of text) v x → LegalAs nobody (arena_of text) v x
  dash x legal = subst (λ (o : Owner). LegalAs o (arena_of text) v x) rests legal

  -- what a move of this kind from R says
  says : (choice : Value) (to : ℕ) (k : Kind) → move_kind (arena_of text) choice v to ≡ k → KindSays nobody (arena_of text) choice v to k
  says choice to k e = subst (λ (o : Owner). KindSays o (arena_of text) choice v to k) rests ((kind-exactly (arena_of text) choice v to k).0 e)

  runs-there : (run : Run) (plate : List ℕ) (to : ℕ) (advice : Advice) → run.position ≡ v → (reported run text plate to).answer ≡ Ok advice → Disturbance (arena_of text) v to
  runs-there run plate to advice at e =
      let is = (report-exactly run text plate to (reported run text plate to).run (Ok advice)).0 (λ i. record { run = (reported run text plate to).run; answer = e i }) in
      ⊎_elim
      (λ m. absurd (says _ to MeantMove (here MeantMove m.0.kind)))
      (λ d. says _ to Disturbed (here Disturbed d.0.kind))
      is.0
    where
      here : (k : Kind) → move_kind (arena_of text) (choice_in_plate plate run.position) run.position to ≡ k → move_kind (arena_of text) (choice_in_plate plate run.position) v to ≡ k
      here k e = subst (λ (u : ℕ). move_kind (arena_of text) (choice_in_plate plate run.position) u to ≡ k) at e

pub positions-of-rest : PositionsOfRest
positions-of-rest text chart taken v inside rests =
    record {
      undisturbed = rest-is-ever (arena_of text) v rests (accepted-chartable text chart taken).well-formed inside;
      choice = λ plate s. dash text v rests (choice_in_plate plate v) ((accepted-plate-is-right text plate (sanctioned-is-accepted text plate s)).legal v inside);
      weighed = λ {choices} is. dash text v rests (row_value choices v) ((is.taken refl).legal v inside);
      runs = runs-there text v rests;
      unlisted = λ is w on. nobody-is-not-controller (sym rests ∙ (((good-moves _ _ _ _ is).listed v w).0 on).own);
    }

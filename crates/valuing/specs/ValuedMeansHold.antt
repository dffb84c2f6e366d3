-- The numbers that Valuing gives mean what document 01 says: read as values they are the rounds' columns, which the theory of the rounds
-- shows to be the values and pairs, and the best choices of these values.
use Rattle.std.specs.Prelude.{ℕ, ◌≡◌, refl, Bool, true, false, cond, ◌&&◌, List, length, leb, Result, Ok, Err}
use Rattle.std.proofs.Common.{arith, sym, ap, subst, subst₂, ◌∙◌}
use Rattle.rows.specs.FirstLine.{first_line_of}
use Rattle.rows.specs.Numbers.{row_value, Agree}
use Rattle.rows.specs.declared.Chart.{Chart}
use Rattle.rows.specs.declared.FirstLine.{FirstLine}
use Rattle.game.specs.Value.{Value, fin, ever, ◌≼◌}
use Rattle.game.proofs.ValueLaws.{fin-is-not-ever}
use Rattle.game.specs.Arena.{Arena, Owner, controller, environment, nobody, WellFormed, size, owner_at, Meant}
use Rattle.game.proofs.PlayLaws.{meant-inside}
use Rattle.game.specs.Worth.{IsValue}
use Rattle.game.specs.Table.{Placement, unplaced, placed, placement_at, table, placed_value, placed_step, round_value, round_step}
use Rattle.game.proofs.TableIsRounds.{rows-are-the-rounds, rows-have-the-never-placed}
use Rattle.game.proofs.RoundValues.{rounds-give-the-values}
use Rattle.game.proofs.BestLaws.{best-is-the-choice}
use Rattle.game.specs.Choice.{IsBest, IsChoiceAs}
use Rattle.game.specs.FirstLine.{pair_count}
use Rattle.chart.specs.Meaning.{arena_of}
use Rattle.chart.specs.Examined.{examined}
use Rattle.chart.specs.Accepted.{accepted-chartable}
use Rattle.refusal.specs.declared.Refusal.TheVariants.{Short}
use Rattle.valuing.specs.Valuing.{valued, valued_by, ValuedIs}
use Rattle.valuing.specs.Columns.{value-column, choice-column, step-column, first-line-column}
use Rattle.refusal.specs.declared.Misdrawn.{Misdrawn}
use Rattle.valuing.specs.ValuedMeans.{PairIs, ValuedMeans}

-- The pairs: a value is finite exactly where the step is

both-finite : (p : Placement) (k : ℕ) → placed_value p ≡ fin k → placed_step p ≡ ever → ⊥
unfolding placed_value placed_step
both-finite unplaced k e f = fin-is-not-ever k (sym e)
both-finite (placed j s) k e f = fin-is-not-ever s f

both-ever : (p : Placement) (s : ℕ) → placed_value p ≡ ever → placed_step p ≡ fin s → ⊥
unfolding placed_value placed_step
both-ever unplaced s e f = fin-is-not-ever s (sym f)
both-ever (placed j t) s e f = fin-is-not-ever j e

pub pair_is : (a : Arena) → WellFormed a → (v : ℕ) (x s : Value) → x ≡ round_value a v → s ≡ round_step a v → PairIs a v x s
unfolding round_value round_step
pair_is a wf v (fin k) (fin s) e f = (rows-are-the-rounds a wf k s v).1 (sym e, sym f)
pair_is a wf v (fin k) ever e f = both-finite (placement_at (table a) v) k (sym e) (sym f)
pair_is a wf v ever (fin s) e f = both-ever (placement_at (table a) v) s (sym e) (sym f)
pair_is a wf v ever ever e f = (rows-have-the-never-placed a wf v).1 (sym e, sym f)

-- The choice looks at the values of positions only

module _ (a : Arena) (wf : WellFormed a) (f g : ℕ → Value) (same : Agree (size a) f g) where
  at : {v u : ℕ} → Meant a v u → f u ≡ g u
  at {v} {u} m = same u (meant-inside a wf v u m)

  best-carries : (v w : ℕ) → IsBest a f v w → IsBest a g v w
  best-carries v w is =
      let here = at is.target in
      record {
        target = is.target;
        greatest = λ u m. subst₂ ◌≼◌ (at m) here (is.greatest u m);
        lowest = λ u m e. is.lowest u m (at m ∙ e ∙ sym here);
      }

  choice-carries : (o : Owner) (v : ℕ) (x : Value) → IsChoiceAs o a f v x → IsChoiceAs o a g v x
  choice-carries controller v x (w, e, is) = (w, e, best-carries v w is)
  choice-carries environment v x e = e
  choice-carries nobody v x e = e

-- what an answer with rounds says: the chart was accepted, and the rounds are counted
pub record Took (text : List ℕ) (k : ℕ) : Type 0 where
  pub chart : Chart
  pub taken : examined text ≡ Ok chart
  pub counted : k ≡ pair_count (round_value (arena_of text)) (round_step (arena_of text)) (size (arena_of text))

pub valuing-took : (text : List ℕ) (values choices steps k : ℕ) → Ok k ≡ valued text values choices steps → Took text k
unfolding valued valued_by
valuing-took text values choices steps k e = go (examined text) refl e
  where
    a : Arena
    a = arena_of text

    both : (chart : Chart) → examined text ≡ Ok chart → (b : Bool) → Ok k ≡ cond b (Ok (pair_count (round_value a) (round_step a) (size a))) (Err Short) → Took text k
    both chart t true e = record { chart = chart; taken = t; counted = cc }
    both chart t false e = let z : ◌≡◌ {A = ℕ} 0 1 = cc in absurd (omega arith)

    go : (x : Result Chart Misdrawn) → examined text ≡ x → Ok k ≡ valued_by x (arena_of text) values choices steps → Took text k
    go (Err r) t e = let z : ◌≡◌ {A = ℕ} 0 1 = cc in absurd (omega arith)
    go (Ok chart) t e = both chart t (leb chart.positions values && (leb chart.positions choices && leb chart.positions steps)) e

pub valued-means : {text values values' choices choices' steps steps' : List ℕ} {k : ℕ} → ValuedIs text values values' choices choices' steps steps' (Ok k)
    → ValuedMeans text values' choices' steps' k
unfolding first_line_of
valued-means {text} {values} {values'} {choices} {choices'} {steps} {steps'} {k} is =
    let a = arena_of text in
    let t = valuing-took text (length values) (length choices) (length steps) k is.answer in
    let wf = (accepted-chartable text t.chart t.taken).well-formed in
    let few = (accepted-chartable text t.chart t.taken).few-positions in
    let rows = is.taken k refl in
    let value-at = value-column a wf few rows in
    record {
      value = λ v l. subst (IsValue a v) (sym (value-at v l)) (rounds-give-the-values a wf v l);
      choice = λ v l.
          choice-carries a wf (round_value a) (row_value values') (λ u m. sym (value-at u m)) (owner_at a v) v (row_value choices' v)
          (subst (IsChoiceAs (owner_at a v) a (round_value a) v) (sym (choice-column a wf few rows v l)) (best-is-the-choice a (round_value a) wf v l));
      pair = λ v l. pair_is a wf v (row_value values' v) (row_value steps' v) (value-at v l) (step-column a wf few rows v l);
      counted = t.counted ∙ sym (ap (λ (h : FirstLine). h.rounds) (first-line-column a wf few rows));
    }

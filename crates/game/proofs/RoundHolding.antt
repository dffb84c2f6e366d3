-- Holding, of the rounds: the positions of value below x are those placed before the rounds of x, and that table is
-- settled. So no position joins those of smaller value, and a disturbance is taken by the next value at the latest.
use Rattle.std.specs.Prelude.{ℕ, suc, ◌<◌, ◌≡◌, refl, ◌⊎◌, ◌↔◌, length, T}
use Rattle.std.proofs.Common.{arith, sym, ap, ◌∙◌, subst, inl, inr}
use Rattle.game.specs.Value.{Value, fin, ever, ◌≼◌, ◌≺◌, ◌⊕◌}
use Rattle.game.specs.Arena.{Arena, Owner, controller, environment, nobody, WellFormed, size, owner_at, Meant, Disturbance}
use Rattle.game.specs.Play.{disturbance_cost}
use Rattle.game.specs.Rounds.{Joins, JoinsAs}
use Rattle.game.specs.Choice.{IsChoiceAs}
use Rattle.game.specs.Certificate.{MeantHold}
use Rattle.game.specs.Table.{unplaced, Table, placement_at, has_value, begins, table_before, table, round_value, round_step}
use Rattle.game.specs.Best.{best_at}
use Rattle.game.proofs.ValueLaws.{fin-injective, fin≺, ⊕cancel, smaller, ≺fin, fin≺ever, ≼ever, ≼-or-≺, ≺irrefl, ≼≺trans, ⊕ever, smaller-is-finite}
use Rattle.game.proofs.PlayLaws.{disturbance-costs-one, disturbance-leaves}
use Rattle.game.proofs.MoveTests.{some-disturbance}
use Rattle.game.proofs.PlacementLaws.{is-placed, placed-or-not, placed-where, value-of-placed, placed-of-value}
use Rattle.game.proofs.TableLaws.{extends-placed}
use Rattle.game.proofs.RoundTables.{before-length, before-later, before-from, taken-is-placed}
use Rattle.game.proofs.Stable.{Settled, after-before, before-table, table-has-the-taken, table-settled}
use Rattle.game.proofs.TableIsRounds.{PlacedIn, ready-joins, joins-map, value_taken}
use Rattle.game.proofs.RoundBounds.{settled_before}

-- the table before the rounds of value x
abbrev table_below : Arena → Value → Table
table_below a (fin k) = table_before a k
table_below a ever = table a

-- it has placed exactly the positions of value below x
below-is-placed : (a : Arena) (x : Value) (w : ℕ) → round_value a w ≺ x → PlacedIn (table_below a x) w
unfolding round_value
below-is-placed a x w h = go x h (smaller-is-finite (round_value a w) x h)
  where
    go : (x : Value) → round_value a w ≺ x → (j : ℕ) × (round_value a w ≡ fin j) → PlacedIn (table_below a x) w
    go (fin k) h (j, e) =
        let p = placed-of-value (placement_at (table a) w) j e in
        let s = p.0 in
        let now = taken-is-placed a (table_before a j) j s w ((table-has-the-taken a j s w).1 p.1) in
        let l = ≺fin j k (subst (λ (y : Value). y ≺ fin k) e h) in
        is-placed ((before-later a (suc j) k l).keeps w j s ((after-before a j s).keeps w j s now))
    go ever h (j, e) = is-placed (placed-of-value (placement_at (table a) w) j e).1

placed-is-below : (a : Arena) (x : Value) (w : ℕ) → PlacedIn (table_below a x) w → round_value a w ≺ x
unfolding round_value
placed-is-below a (fin k) w h =
    let p = placed-where (placement_at (table_before a k) w) h in
    let e = value-of-placed ((before-table a k).keeps w p.0 p.1 p.2) in
    subst (λ (y : Value). y ≺ fin k) (sym e) (fin≺ p.0 k (before-from a k w p.0 p.1 p.2).smaller)
placed-is-below a ever w h =
    let p = placed-where (placement_at (table a) w) h in
    subst (λ (y : Value). y ≺ ever) (sym (value-of-placed p.2)) (fin≺ever p.0)

-- a disturbance into value j passes the test of round (j + 1, 0), and every position that passes it has one
value-as-taken : (a : Arena) (w j : ℕ) → (round_value a w ≡ fin j) ↔ T (has_value j (placement_at (table_before a (suc j)) w))
unfolding round_value
value-as-taken a w j = (
  λ e. let p = placed-of-value (placement_at (table a) w) j e in (value_taken a j w).1 (p.0, (table-has-the-taken a j p.0 w).1 p.1),
  λ h. let t = (value_taken a j w).0 h in value-of-placed ((table-has-the-taken a j t.0 w).0 t.1),
)

begins-by-disturbance : (a : Arena) (v w j : ℕ) → Disturbance a v w → round_value a w ≡ fin j → T (begins a (suc j) (table_before a (suc j)) v)
unfolding begins
begins-by-disturbance a v w j d e = (some-disturbance a v (λ u. has_value j (placement_at (table_before a (suc j)) u))).1 (w, d, (value-as-taken a w j).0 e)

pub disturbance-of-begins : (a : Arena) (v j : ℕ) → T (begins a (suc j) (table_before a (suc j)) v) → (w : ℕ) × Disturbance a v w × (round_value a w ≡ fin j)
unfolding begins
disturbance-of-begins a v j h =
    let r = (some-disturbance a v (λ u. has_value j (placement_at (table_before a (suc j)) u))).0 h in
    (r.0, r.1, (value-as-taken a r.0 j).1 r.2)

two : (j : ℕ) → fin (suc (suc j)) ≡ fin j ⊕ 1 ⊕ 1
unfolding ◌⊕◌
two j = ap fin (omega arith)

module _ (a : Arena) (wf : WellFormed a) where
  below-settled : (x : Value) → Settled a (table_below a x)
  below-settled (fin k) = settled_before a wf k
  below-settled ever = table-settled a

  below_length : (x : Value) → length (table_below a x) ≡ size a
  unfolding table
  below_length (fin k) = before-length a k
  below_length ever = before-length a (size a)

  -- a position that joins those of value below x is one of them
  below-is-closed : (x : Value) (v : ℕ) → Joins a (λ w. round_value a w ≺ x) v → round_value a v ≺ x
  below-is-closed x v j = go (placed-or-not (placement_at (table_below a x) v))
    where
      joins : JoinsAs (owner_at a v) a (PlacedIn (table_below a x)) v
      joins = (joins-map a (λ w. round_value a w ≺ x) (PlacedIn (table_below a x)) (below-is-placed a x) v j).1

      go : PlacedIn (table_below a x) v ⊎ (placement_at (table_below a x) v ≡ unplaced) → round_value a v ≺ x
      go (inl h) = placed-is-below a x v h
      go (inr e) =
          absurd (below-settled x v (record { inside = rw (below_length x) j.0; free = e; passes = (ready-joins a (table_below a x) v).1 joins }))

  -- so no position joins those of smaller value
  pub no-joining-below : (v : ℕ) → v < size a → JoinsAs (owner_at a v) a (λ w. round_value a w ≺ round_value a v) v → ⊥
  no-joining-below v h j = ≺irrefl (round_value a v) (below-is-closed (round_value a v) v (h, j))

  -- a disturbance into value j has been taken by round (j + 1, 0) at the latest
  pub disturbance-held : (v w : ℕ) → Disturbance a v w → round_value a v ≼ round_value a w ⊕ disturbance_cost a v w
  disturbance-held v w d = rw (disturbance-costs-one a v w) (look (round_value a w) refl)
    where
      taken : (j : ℕ) → round_value a w ≡ fin j → PlacedIn (table_before a (suc j)) v ⊎ (placement_at (table_before a (suc j)) v ≡ unplaced)
          → PlacedIn (table_before a (suc (suc j))) v
      taken j e (inl h) = extends-placed (before-later a (suc j) (suc (suc j)) (omega arith)) v h
      taken j e (inr free) =
          extends-placed (after-before a (suc j) 0) v
          (is-placed (taken-is-placed a (table_before a (suc j)) (suc j) 0 v
          (record { inside = rw (before-length a (suc j)) (disturbance-leaves a wf v w d); free = free; passes = begins-by-disturbance a v w j d e })))

      look : (x : Value) → round_value a w ≡ x → round_value a v ≼ x ⊕ 1
      look ever e = rw (⊕ever 1) (≼ever (round_value a v))
      look (fin j) e =
          let below = placed-is-below a (fin (suc (suc j))) v (taken j e (placed-or-not (placement_at (table_before a (suc j)) v))) in
          ⊕cancel (round_value a v) (fin j ⊕ 1) 1 (subst (λ (x : Value). round_value a v ⊕ 1 ≼ x) (two j) ((smaller (round_value a v) (suc (suc j))).1 below))

  abbrev pub Held : Owner → ℕ → Type 0
  Held o v = MeantHold a (round_value a) (best_at a (round_value a)) (round_step a) o v

  pub holds_as : (o : Owner) (v : ℕ) → (JoinsAs o a (λ w. round_value a w ≺ round_value a v) v → ⊥) → IsChoiceAs o a (round_value a) v (best_at a (round_value a) v) → Held o v
  holds_as controller v none c = λ w e. go w e (≼-or-≺ (round_value a v) (round_value a w))
    where
      go : (w : ℕ) → best_at a (round_value a) v ≡ fin w → (round_value a v ≼ round_value a w) ⊎ (round_value a w ≺ round_value a v) → round_value a v ≼ round_value a w
      go w e (inl h) = h
      go w e (inr h) =
          absurd (none λ u m. ≼≺trans (round_value a u) (round_value a w) (round_value a v)
          (subst (λ (x : ℕ). round_value a u ≼ round_value a x) (fin-injective c.0 w (sym c.1 ∙ e)) (c.2.greatest u m)) h)
  holds_as environment v none c = λ w m. go w m (≼-or-≺ (round_value a v) (round_value a w))
    where
      go : (w : ℕ) → Meant a v w → (round_value a v ≼ round_value a w) ⊎ (round_value a w ≺ round_value a v) → round_value a v ≼ round_value a w
      go w m (inl h) = h
      go w m (inr h) = absurd (none (w, m, h))
  holds_as nobody v none c = tt

-- What the moves of a position show in the code's rows is what the moves of the arena show: each flag is a test of the targets
-- of its disturbances and one of its meant targets.
use Rattle.std.specs.Prelude.{ℕ, ◌≤◌, ◌<◌, ◌≡◌, refl, ◌⊎◌, Bool, true, cond, not, ◌&&◌, ◌||◌, List, [], ◌∷◌, get_or, ltb}
use Rattle.std.proofs.Math.Decide.{ℕ_discrete}
use Rattle.std.proofs.Common.{arith, sym, ◌∙◌, inl, inr, eq-eqb, ne_eqb}
use Rattle.std.proofs.Math.Bool.{false, and-false, or-false}
use Rattle.std.proofs.Math.Dec.{eqb}
use Rattle.game.specs.Value.{fin, value_le, value_eq, ◌⊕◌}
use Rattle.game.specs.Arena.{Arena, Move, move_at, no_move}
use Rattle.game.specs.Play.{disturbance_cost}
use Rattle.game.proofs.PlayLaws.{disturbance-counts, disturbance-cost-small}
use Rattle.game.specs.Table.{some_move, meant_from, disturbance_from}
use Rattle.game.specs.Fault.{earlier}
use Rattle.game.proofs.Members.{at-member}
use Rattle.rows.specs.Rows.{RowsOf}
use Rattle.rows.specs.RowsLaws.{lines_of, to_inside}
use Rattle.rows.specs.NumberLaws.{below-number, finite_number, same-values, smaller-number}
use Rattle.conditions.specs.Position.{shown, shown_meant, shown_disturbance, earlier_target}
use Rattle.verdict.specs.Sheet.{Formed, Sheet, choice_at, line_at, some_shows, step_at, target_at, value_at}
use Rattle.verdict.specs.Costs.{Roomy, below-with-cost, within-with-cost}
use Rattle.conditions.specs.declared.Target.{Target}
use Rattle.conditions.specs.declared.Seen.{Seen}

some_or : (p q : Move → Bool) (ms : List Move) → some_move (λ x. p x || q x) ms ≡ (some_move p ms || some_move q ms)
unfolding some_move
some_or p q [] = refl
some_or p q (x ∷ ms) = rw (some_or p q ms) (go (p x) (q x) (some_move p ms) (some_move q ms))
  where
    go : (a b c d : Bool) → cond (a || b) true (c || d) ≡ (cond a true c || cond b true d)
    go true b c d = refl
    go false true true d = refl
    go false true false d = refl
    go false false c d = refl

-- some disturbance of v, some meant move of v has a target that passes the test
abbrev pub some_disturbance : Arena → ℕ → (ℕ → Bool) → Bool
some_disturbance a v q = some_move (λ x. disturbance_from v x && q x.to) a.moves

abbrev pub some_meant : Arena → ℕ → (ℕ → Bool) → Bool
some_meant a v q = some_move (λ x. meant_from v x && q x.to) a.moves

module _ (a : Arena) (n m : ℕ) (s : Sheet) (d : RowsOf a n m s.owners s.marks s.costs s.froms s.tos) (formed : Formed n s.values s.steps)
    (v : ℕ) (inside : v < n) where
  word : {x : ℕ} → (x ≡ 65535) ⊎ (x < 512) → x ≤ 65535
  word (inl e) = omega arith
  word (inr l) = omega arith

  roomy : {x : ℕ} → (x ≡ 65535) ⊎ (x < 512) → Roomy x
  roomy (inl e) = inl e
  roomy (inr l) = inr (omega arith)

  -- a target w with its value and step
  abbrev pub target : ℕ → ℕ → Target
  target cost w = record { cost = cost; to = w; value = get_or s.values w 0; step = get_or s.steps w 0 }

  -- a move to w by the numbers, and by the values that they stand for
  module _ (w : ℕ) (l : w < n) where
    pub earlier-number : (cost : ℕ) → earlier_target (line_at s v) (target cost w) ≡ earlier a (value_at s) (choice_at s) (step_at s) w v
    unfolding earlier_target earlier
    earlier-number cost =
        rw (
          smaller-number (get_or s.values w 0) (get_or s.values v 0) (word (formed.value w l)) (word (formed.value v inside)),
          ← same-values (get_or s.values w 0) (get_or s.values v 0),
          smaller-number (get_or s.steps w 0) (get_or s.steps v 0) (word (formed.step w l)) (word (formed.step v inside)),
        )

    pub chosen-number : eqb (get_or s.choices v 0) w ≡ value_eq (choice_at s v) (fin w)
    chosen-number = sym (same-values (get_or s.choices v 0) w) ∙ rw (finite_number w (λ z. omega (arith, d.few-positions)))

    pub low-number : ltb (get_or s.values w 0) (get_or s.values v 0) ≡ not (value_le (value_at s v) (value_at s w))
    low-number = below-number (get_or s.values w 0) (get_or s.values v 0) (word (formed.value w l)) (word (formed.value v inside))

    pub disturbed-low-number :
        (shown_disturbance (line_at s v) (target (disturbance_cost a v w) w)).low ≡ not (value_le (value_at s v) (value_at s w ⊕ disturbance_cost a v w))
    disturbed-low-number =
        below-with-cost (get_or s.values w 0) (get_or s.values v 0) (disturbance_cost a v w) (roomy (formed.value w l)) (word (formed.value v inside))
        (disturbance-cost-small a v w)

    pub disturbed-ruin-number : (get_or s.values v 0 ≡ 65535 → ⊥) →
        (shown_disturbance (line_at s v) (target (disturbance_cost a v w) w)).ruin ≡ value_le (value_at s w ⊕ disturbance_cost a v w) (value_at s v)
    disturbed-ruin-number finite = go (formed.value v inside)
      where
        go : (get_or s.values v 0 ≡ 65535) ⊎ (get_or s.values v 0 < 512)
            → (shown_disturbance (line_at s v) (target (disturbance_cost a v w) w)).ruin ≡ value_le (value_at s w ⊕ disturbance_cost a v w) (value_at s v)
        go (inl e) = absurd (finite e)
        go (inr k) =
            within-with-cost (get_or s.values w 0) (get_or s.values v 0) (disturbance_cost a v w) (roomy (formed.value w l)) (omega arith)
            (disturbance-cost-small a v w)

  -- a flag of what all moves of v show: some disturbance passes the test that one shows by it, or some meant move passes its own
  pub flag_is : (field : Seen → Bool) (p q : ℕ → Bool)
      → ((w : ℕ) → w < n → field (shown_disturbance (line_at s v) (target (disturbance_cost a v w) w)) ≡ q w)
      → ((w cost : ℕ) → w < n → field (shown_meant (line_at s v) (target cost w)) ≡ p w)
      → some_shows field s m v ≡ (some_disturbance a v q || some_meant a v p)
  unfolding shown meant_from disturbance_from
  flag_is field p q disturbance meant =
      lines_of a n m s.owners s.marks s.costs s.froms s.tos d v (λ j. field (shown (line_at s v) (target_at s j)))
      (λ x. disturbance_from v x && q x.to || meant_from v x && p x.to) (λ j l f. at j l f (ℕ_discrete (move_at a j).cost 0)) other
      ∙ some_or (λ x. disturbance_from v x && q x.to) (λ x. meant_from v x && p x.to) a.moves
    where
      other : (x : Move) → eqb x.from v ≡ false → (disturbance_from v x && q x.to || meant_from v x && p x.to) ≡ false
      other x e = rw (e, and-false (not (eqb x.cost 0)), and-false (eqb x.cost 0))

      at : (j : ℕ) → j < m → (move_at a j).from ≡ v → Dec ((move_at a j).cost ≡ 0)
          → field (shown (line_at s v) (target_at s j)) ≡ (disturbance_from v (move_at a j) && q (move_at a j).to || meant_from v (move_at a j) && p (move_at a j).to)
      at j l f (yes z) =
          rw (d.cost j l, d.to j l, z, f, eq-eqb v v refl) (meant (move_at a j).to 0 (to_inside a n m s.owners s.marks s.costs s.froms s.tos d j l))
      at j l f (no z) =
          let mem = at-member no_move a.moves j (rw d.moves l) in
          let counts : (move_at a j).cost ≡ disturbance_cost a v (move_at a j).to = sym (rw f at (disturbance-counts a d.well (move_at a j) mem z)) in
          rw (d.cost j l, d.to j l, ne_eqb (move_at a j).cost 0 z, f, eq-eqb v v refl, or-false)
          (rw counts (disturbance (move_at a j).to (to_inside a n m s.owners s.marks s.costs s.froms s.tos d j l)))

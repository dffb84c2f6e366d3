-- Rows that hold some chart hold one that can be told from them. So that there is one, as a fact with one proof at most, is enough to have it.
use Rattle.std.specs.Prelude.{ℕ, zero, suc, ◌<◌, ◌≡◌, refl, List, get_or, map, Bool, true, T}
use Rattle.std.specs.List.{range_with_len}
use Rattle.std.specs.Coded.{Coded-set, coded_ℕ, le_prop}
use Rattle.std.proofs.Common.{arith, sym, subst, ◌∙◌}
use Rattle.std.proofs.Math.Path.{ap₂}
use Rattle.std.proofs.Math.Logic.{∥∥₁_elim, ∥∥₁_map}
use Rattle.std.proofs.Math.Dec.{T_prop}
use Rattle.std.proofs.lemmas.List.{same_lists, get_or_default}
use Rattle.std.proofs.lemmas.List.FromFn.{get_or-map-range_with_len, length-map-range_with_len}
use Rattle.game.specs.Arena.{Arena, Position, Move, Owner, controller, environment, nobody, size, owner_at, position_at, move_at, nowhere, no_move, Meant, has_meant}
use Rattle.game.proofs.MoveTests.{some-meant}
use Rattle.rows.specs.Rows.{RowsOf, ChartRows, owner_number}

-- the owner that a number stands for
unfoldable pub owner_of : ℕ → Owner
owner_of zero = controller
owner_of (suc zero) = environment
owner_of (suc (suc k)) = nobody

owner_back : (o : Owner) → owner_of (owner_number o) ≡ o
unfolding owner_of
owner_back controller = refl
owner_back environment = refl
owner_back nobody = refl

abbrev position_on : (owners marks : List ℕ) → ℕ → Position
position_on owners marks v = record { owner = owner_of (get_or owners v 0); mark = get_or marks v 0 }

abbrev move_on : (costs froms tos : List ℕ) → ℕ → Move
move_on costs froms tos i = record { cost = get_or costs i 0; from = get_or froms i 0; to = get_or tos i 0 }

-- the arena that the rows spell
unfoldable pub held_arena : (n m : ℕ) (owners marks costs froms tos : List ℕ) → Arena
held_arena n m owners marks costs froms tos =
    record { positions = map (position_on owners marks) (range_with_len 0 n); moves = map (move_on costs froms tos) (range_with_len 0 m) }

module _ {n m : ℕ} {owners marks costs froms tos : List ℕ} where
  module _ (a : Arena) (d : RowsOf a n m owners marks costs froms tos) where
    same_positions : a.positions ≡ map (position_on owners marks) (range_with_len 0 n)
    same_positions =
        same_lists a.positions _ (d.positions ∙ sym (length-map-range_with_len (position_on owners marks) 0 n)) λ k e l.
        let inside : k < n = subst (λ (i : ℕ). k < i) d.positions l in
        let here : position_at a k ≡ position_on owners marks k = rw (d.owner k inside, d.mark k inside, owner_back (owner_at a k)) refl in
        get_or_default a.positions k e nowhere l ∙ here ∙ sym (get_or-map-range_with_len (position_on owners marks) 0 n k k e inside (omega arith))

    same_moves : a.moves ≡ map (move_on costs froms tos) (range_with_len 0 m)
    same_moves =
        same_lists a.moves _ (d.moves ∙ sym (length-map-range_with_len (move_on costs froms tos) 0 m)) λ k e l.
        let inside : k < m = subst (λ (i : ℕ). k < i) d.moves l in
        let here : move_at a k ≡ move_on costs froms tos k = rw (d.cost k inside, d.from k inside, d.to k inside) refl in
        get_or_default a.moves k e no_move l ∙ here ∙ sym (get_or-map-range_with_len (move_on costs froms tos) 0 m k k e inside (omega arith))

    pub held-same : a ≡ held_arena n m owners marks costs froms tos
    unfolding held_arena
    held-same = ap₂ (λ (p : List Position) (q : List Move). record { positions = p; moves = q }) same_positions same_moves

  pub held : ∥ ChartRows n m owners marks costs froms tos ∥₁ → RowsOf (held_arena n m owners marks costs froms tos) n m owners marks costs froms tos
  held some = rows
    where
      a : Arena
      a = held_arena n m owners marks costs froms tos

      fact : ∥ RowsOf a n m owners marks costs froms tos ∥₁
      fact = ∥∥₁_map some (λ h. subst (λ (x : Arena). RowsOf x n m owners marks costs froms tos) (held-same h.0 h.1) h.1)

      target : (v : ℕ) → v < size a → T (has_meant (owner_at a v)) → (w : ℕ) × Meant a v w
      target v l h =
          let any : ℕ → Bool = λ w. true in
          let found = some-meant a v any in
          let w = found.0 (∥∥₁_elim fact (T_prop _) (λ d. let x = d.well.meant v l h in found.1 (x.0, x.1, tt))) in
          (w.0, w.1)

      rows : RowsOf a n m owners marks costs froms tos
      rows =
          record {
            well = record {
              kind = λ x mem. ∥∥₁_elim fact le_prop (λ d. d.well.kind x mem);
              from-position = λ x mem. ∥∥₁_elim fact le_prop (λ d. d.well.from-position x mem);
              to-position = λ x mem. ∥∥₁_elim fact le_prop (λ d. d.well.to-position x mem);
              disturbed = λ v w mem. ∥∥₁_elim fact (T_prop _) (λ d. d.well.disturbed v w mem);
              resting = λ v w mem. ∥∥₁_elim fact (T_prop _) (λ d. d.well.resting v w mem);
              meant = target;
            };
            positions = ∥∥₁_elim fact (Coded-set coded_ℕ _ _) (λ d. d.positions);
            moves = ∥∥₁_elim fact (Coded-set coded_ℕ _ _) (λ d. d.moves);
            few-positions = ∥∥₁_elim fact le_prop (λ d. d.few-positions);
            few-moves = ∥∥₁_elim fact le_prop (λ d. d.few-moves);
            owner = λ v l. ∥∥₁_elim fact (Coded-set coded_ℕ _ _) (λ d. d.owner v l);
            mark = λ v l. ∥∥₁_elim fact (Coded-set coded_ℕ _ _) (λ d. d.mark v l);
            cost = λ i l. ∥∥₁_elim fact (Coded-set coded_ℕ _ _) (λ d. d.cost i l);
            from = λ i l. ∥∥₁_elim fact (Coded-set coded_ℕ _ _) (λ d. d.from i l);
            to = λ i l. ∥∥₁_elim fact (Coded-set coded_ℕ _ _) (λ d. d.to i l);
            owners-row = ∥∥₁_elim fact le_prop (λ d. d.owners-row);
            marks-row = ∥∥₁_elim fact le_prop (λ d. d.marks-row);
            costs-row = ∥∥₁_elim fact le_prop (λ d. d.costs-row);
            froms-row = ∥∥₁_elim fact le_prop (λ d. d.froms-row);
            tos-row = ∥∥₁_elim fact le_prop (λ d. d.tos-row);
          }

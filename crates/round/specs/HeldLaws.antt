-- What a round's functions leave in their rows is what the definitions want: the flags are the tests of the rounds,
-- and a round's placing is `place`.
use Rattle.std.specs.Prelude.{ℕ, suc, ◌<◌, ◌≡◌, cond, ◌&&◌, List, get_or}
use Rattle.std.proofs.Common.{arith, sym, subst, ◌∙◌}
use Rattle.std.proofs.Math.Path.{refl, ap}
use Rattle.std.proofs.Math.Bool.{Bool, true, false, not, and_comm, and-true, and-false, not-not}
use Rattle.std.proofs.Math.Dec.{T, eqb}
use borrow.Author.Tests.{eq-eqb, ne_eqb}
use Rattle.rows.specs.RowsLaws.{to_inside, lines_of}
use Rattle.rows.specs.Rows.{owner_number, RowsOf}
use Rattle.rows.specs.Numbers.{number_of, number_at, free}
use Rattle.rows.specs.Notes.{Noted, found}
use Rattle.search.specs.Below.{count-zero, bit, bit-one}
use Rattle.game.specs.Arena.{Arena, Move, Owner, controller, environment, nobody, owner_at, move_at}
use Rattle.game.specs.Table.{Table, Placement, unplaced, placed, placement_at, is_placed, has_value, placed_value, placed_step, place, some_move, meant_from, disturbance_from, ready, ready_as, begins}
use Rattle.game.proofs.MoveTests.{none-at-rest}
use Rattle.game.proofs.TableLaws.{Takes, place_at, place-length}
use Rattle.round.specs.Round.{taken, Placing, decides, disturbs, ready_flag}
use Rattle.round.specs.Held.{Holds, Flags}

-- A round

module _ (test : ℕ → Bool) (t : Table) (n k s : ℕ) (flags values steps values' steps' : List ℕ) (count : ℕ)
    (small : k < 65535) (flagged : Flags test n flags) (held : Holds t n values steps) (round : Placing n flags k s values steps values' steps' count) where
  -- the code's test is the definition's
  taken_is : (v : ℕ) → v < n → taken flags values v ≡ (not (is_placed (placement_at t v)) && test v)
  unfolding taken
  taken_is v l = rw (flagged v l, held.unplaced v l) (and_comm (test v) (not (is_placed (placement_at t v))))

  -- what the round leaves at v, by whether it takes v
  at : (v : ℕ) → v < n → (g : Placement → ℕ) (x y : ℕ) → x ≡ g (placed k s) → y ≡ g (placement_at t v)
      → cond (taken flags values v) x y ≡ g (placement_at (place test (placed k s) 0 t) v)
  at v l g x y e f =
      rw (taken_is v l, place_at test (placed k s) t v (rw held.full l)) (go (not (is_placed (placement_at t v)) && test v))
    where
      go : (b : Bool) → cond b x y ≡ g (cond b (placed k s) (placement_at t v))
      go true = e
      go false = f

  pub place-holds : Holds (place test (placed k s) 0 t) n values' steps'
  unfolding placed_value placed_step number_of is_placed
  place-holds =
      record {
        full = place-length test (placed k s) 0 t ∙ held.full;
        value = λ v l. round.value.row v l ∙ at v l (λ p. number_of (placed_value p)) k (get_or values v 0) refl (held.value v l);
        step = λ v l. round.step.row v l ∙ at v l (λ p. number_of (placed_step p)) s (get_or steps v 0) refl (held.step v l);
        unplaced = λ v l. rw (round.value.row v l) (shown v l);
      }
    where
      shown : (v : ℕ) → v < n → eqb (cond (taken flags values v) k (get_or values v 0)) 65535 ≡ not (is_placed (placement_at (place test (placed k s) 0 t) v))
      shown v l = rw (taken_is v l, place_at test (placed k s) t v (rw held.full l)) (go (not (is_placed (placement_at t v)) && test v))
        where
          go : (b : Bool) → eqb (cond b k (get_or values v 0)) 65535 ≡ not (is_placed (cond b (placed k s) (placement_at t v)))
          go true = ne_eqb k 65535 (λ e. omega arith)
          go false = held.unplaced v l

  -- a round that counts nothing takes nobody
  pub none-taken : count ≡ 0 → (v : ℕ) → Takes test t v → ⊥
  unfolding is_placed
  none-taken e v h =
      count-zero (taken flags values) n (sym round.counted ∙ e) v l
      (subst T (sym (taken_is v l)) (subst (λ (p : Placement). T (not (is_placed p) && test v)) (sym h.free) h.passes))
    where
      l : v < n
      l = rw held.full at h.inside

-- The flags

value-test : (k : ℕ) → k < 65535 → (x : Placement) → eqb (number_of (placed_value x)) k ≡ has_value k x
unfolding number_of placed_value has_value
value-test k small unplaced = ne_eqb 65535 k (λ e. omega arith)
value-test k small (placed j s) = refl

module _ (a : Arena) (n m : ℕ) (owners marks costs froms tos : List ℕ) (d : RowsOf a n m owners marks costs froms tos) where
  module _ (t : Table) (values steps : List ℕ) (held : Holds t n values steps) (v : ℕ) (inside : v < n) where
    -- a meant move of v decides it, by its owner
    settling : Owner → Move → Bool
    settling controller x = meant_from v x && not (is_placed (placement_at t x.to))
    settling environment x = meant_from v x && is_placed (placement_at t x.to)
    settling nobody x = meant_from v x && is_placed (placement_at t x.to)

    decided : (o : Owner) → owner_at a v ≡ o → found (number_at froms) (decides owners costs froms tos values) m v ≡ some_move (settling o) a.moves
    unfolding settling decides meant_from
    decided o own = lines_of a n m owners marks costs froms tos d v (decides owners costs froms tos values) (settling o) (same o own) (other o)
      where
        target : (j : ℕ) → j < m → free values (get_or tos j 0) ≡ not (is_placed (placement_at t (move_at a j).to))
        target j l = rw (d.to j l) (held.unplaced (move_at a j).to (to_inside a n m owners marks costs froms tos d j l))

        owned : (o : Owner) → owner_at a v ≡ o → (j : ℕ) → j < m → (move_at a j).from ≡ v → get_or owners (get_or froms j 0) 0 ≡ owner_number o
        owned o own j l z = rw (d.from j l, z, d.owner v inside, own)

        same : (o : Owner) → owner_at a v ≡ o → (j : ℕ) → j < m → (move_at a j).from ≡ v → decides owners costs froms tos values j ≡ settling o (move_at a j)
        same controller own j l z = rw (owned controller own j l z, target j l, d.cost j l, eq-eqb (move_at a j).from v z, and-true)
        same environment own j l z = rw (owned environment own j l z, target j l, d.cost j l, eq-eqb (move_at a j).from v z, and-true, not-not)
        same nobody own j l z = rw (owned nobody own j l z, target j l, d.cost j l, eq-eqb (move_at a j).from v z, and-true, not-not)

        other : (o : Owner) (x : Move) → eqb x.from v ≡ false → settling o x ≡ false
        other controller x e = rw (e, and-false)
        other environment x e = rw (e, and-false)
        other nobody x e = rw (e, and-false)

    -- the flags are those of the positions that are ready
    pub ready-flag : (flags : List ℕ) → Noted n (number_at froms) (decides owners costs froms tos values) (ready_flag owners) m flags → eqb (get_or flags v 0) 1 ≡ ready a t v
    unfolding ready_flag ready ready_as settling
    ready-flag flags noted = rw (noted.notes v inside, d.owner v inside) (go (owner_at a v) refl)
      where
        go : (o : Owner) → owner_at a v ≡ o
            → eqb (cond (eqb (owner_number o) 0) (bit (not (found (number_at froms) (decides owners costs froms tos values) m v))) (bit (found (number_at froms) (decides owners costs froms tos values) m v))) 1
            ≡ ready_as o a t v
        go controller own = bit-one _ ∙ ap not (decided controller own)
        go environment own = bit-one _ ∙ decided environment own
        go nobody own = bit-one _ ∙ decided nobody own ∙ none-at-rest a d.well v own (λ w. is_placed (placement_at t w))

    -- and those of the positions that a disturbance leads from into value k
    pub disturbed-flag : (k : ℕ) → k < 65535 → (flags : List ℕ) → Noted n (number_at froms) (disturbs costs tos values k) (λ v. bit) m flags → eqb (get_or flags v 0) 1 ≡ begins a (suc k) t v
    unfolding begins disturbs disturbance_from
    disturbed-flag k small flags noted = rw (noted.notes v inside) (bit-one _ ∙ lines_of a n m owners marks costs froms tos d v (disturbs costs tos values k) into same other)
      where
        into : Move → Bool
        into x = disturbance_from v x && has_value k (placement_at t x.to)

        same : (j : ℕ) → j < m → (move_at a j).from ≡ v → disturbs costs tos values k j ≡ into (move_at a j)
        same j l z = rw (d.cost j l, d.to j l, eq-eqb (move_at a j).from v z, and-true, held.value (move_at a j).to (to_inside a n m owners marks costs froms tos d j l), value-test k small)

        other : (x : Move) → eqb x.from v ≡ false → into x ≡ false
        other x e = rw (e, and-false)

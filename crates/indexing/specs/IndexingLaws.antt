-- The rows' index is the arena's: the squares of the rows' moves are the arena's tests, a set has no target past the last position, and so each
-- digit is the arena's. Then the job's answers.
use Prim.Native.Nat.{ℕ, ◌+◌, ◌-◌, ◌^◌, ◌≤◌, ◌<◌}
use Rattle.std.proofs.Common.{arith, ◌∙◌, true≢false, le-leb}
use Rattle.std.specs.Prelude.{◌≡◌, ◌&&◌, List, get_or, leb, Result, Ok, Err}
use Rattle.std.proofs.Math.Path.{refl, sym, ap, subst}
use Rattle.std.proofs.Math.Bool.{Bool, true, false, cond}
use Rattle.std.proofs.Math.Dec.{T, eqb, not_T}
use Rattle.std.proofs.lemmas.Bool.{lt-leb}
use Rattle.search.specs.Below.{some_below, some_same, some-hit, some-none}
use Rattle.game.specs.Arena.{Arena, Owner, controller, environment, nobody, size, owner_at, position_at, move_at, disturbance_move, has_meant}
use Rattle.game.specs.Table.{some_move}
use Rattle.game.proofs.MoveTests.{is_true, is_false}
use Rattle.rows.specs.Rows.{owner_number, RowsOf, Within}
use Rattle.rows.specs.RowsLaws.{some-lines}
use Rattle.rows.specs.declared.Chart.{Chart}
use Rattle.chart.specs.Meaning.{arena_of}
use Rattle.chart.specs.Examined.{examined}
use Rattle.refusal.specs.declared.Misdrawn.{Misdrawn}
use Rattle.refusal.specs.declared.Refusal.TheVariants.{Chart as OfChart, NotSmall}
use Rattle.numbering.specs.Numbering.{set_number, digit, digits, numeral, is_lane, is_move, joins, digit_at, index_of, Small}
use Rattle.numbering.proofs.SetLaws.{set_same, set-stays, set-some}
use Rattle.numbering.proofs.DigitLaws.{numeral-same}
use Rattle.numbering.proofs.ArenaLaws.{joins-exactly}
use Rattle.squares.specs.Held.{SquareIs, SomeInEach, cell, held_digit, held_index, joined_below}
use Rattle.refusal.specs.declared.Refusal.{Refusal}
use Rattle.indexing.specs.Indexing.{is_rest, is_small, indexed_arena, indexed_by, indexed, rests_below, RowsIndexed}

-- moves that join positions below n join positions below 3
pub within-three : {n m : ℕ} {costs froms tos : List ℕ} → n ≤ 3 → Within n m costs froms tos → Within 3 m costs froms tos
within-three few w = record {
  costs-row = w.costs-row;
  froms-row = w.froms-row;
  tos-row = w.tos-row;
  from-inside = λ i l. omega (arith, w.from-inside i l);
  to_inside = λ i l. omega (arith, w.to_inside i l);
}

module _ (a : Arena) (n m : ℕ) (owners marks costs froms tos : List ℕ) (d : RowsOf a n m owners marks costs froms tos) where
  -- the owners as tests
  rest-test : (v : ℕ) → v < n → eqb (get_or owners v 0) 2 ≡ is_rest (owner_at a v)
  unfolding is_rest
  rest-test v l = ap (λ (x : ℕ). eqb x 2) (d.owner v l) ∙ go (owner_at a v)
    where
      go : (o : Owner) → eqb (owner_number o) 2 ≡ is_rest o
      go controller = refl
      go environment = refl
      go nobody = refl

  lane_test : (v : ℕ) → v < n → eqb (get_or owners v 0) 1 ≡ is_lane (owner_at a v)
  unfolding is_lane
  lane_test v l = ap (λ (x : ℕ). eqb x 1) (d.owner v l) ∙ go (owner_at a v)
    where
      go : (o : Owner) → eqb (owner_number o) 1 ≡ is_lane o
      go controller = refl
      go environment = refl
      go nobody = refl

  -- some position rests, by the rows and by the arena
  rests-same : rests_below owners n ≡ some_below (λ v. is_rest (owner_at a v)) (size a)
  unfolding rests_below
  rests-same = some_same (λ v. eqb (get_or owners v 0) 2) (λ v. is_rest (owner_at a v)) n rest-test ∙ ap (some_below (λ v. is_rest (owner_at a v))) (sym d.positions)

  pub too_many : 3 < n → Err NotSmall ≡ indexed_arena a
  unfolding indexed_arena is_small
  too_many l = rw (lt-leb (size a) 3 (omega (arith, d.positions)))

  pub at_rest : rests_below owners n ≡ true → Err NotSmall ≡ indexed_arena a
  unfolding indexed_arena is_small
  at_rest r = rw (sym rests-same ∙ r) (go (leb (size a) 3))
    where
      go : (b : Bool) → Err NotSmall ≡ cond (b && false) (Ok (index_of a)) (Err NotSmall)
      go true = refl
      go false = refl

  -- the rows' moves as the arena's
  moves-same : (cost v w : ℕ) → joined_below cost costs froms tos m v w ≡ joins a cost v w
  unfolding joined_below joins is_move
  moves-same cost v w =
      subst (λ (k : ℕ). some_below test k ≡ some_move (is_move cost v w) a.moves) d.moves
      (some-lines test (is_move cost v w) a.moves (λ j l. same j (omega (arith, d.moves))))
    where
      test : ℕ → Bool
      test i = eqb (get_or costs i 0) cost && (eqb (get_or froms i 0) v && eqb (get_or tos i 0) w)

      same : (j : ℕ) → j < m → test j ≡ is_move cost v w (move_at a j)
      same j l = rw (d.cost j l, d.from j l, d.to j l)

  -- no move leads past the last position
  inside : (cost v w : ℕ) → n ≤ w → joins a cost v w ≡ false
  inside cost v w l = is_false (joins a cost v w) (not_T (joins a cost v w) (λ h. let k = d.well.to-position (disturbance_move cost v w) ((joins-exactly a cost v w).0 h) in omega (arith, d.positions)))

  -- where no owner rests, each has a meant move
  owned : rests_below owners n ≡ false → (v : ℕ) → v < n → T (has_meant (owner_at a v))
  unfolding rests_below is_rest
  owned calm v l = go (owner_at a v) (rest-test v l)
    where
      go : (o : Owner) → eqb (get_or owners v 0) 2 ≡ is_rest o → T (has_meant o)
      go controller e = tt
      go environment e = tt
      go nobody e = absurd (true≢false (sym (some-hit (λ u. eqb (get_or owners u 0) 2) n v l e) ∙ calm))

  module _ (few : n ≤ 3) (calm : rests_below owners n ≡ false) where
    set_is : (cost v : ℕ) → v < n → (square : List (List Bool)) → SquareIs square (joined_below cost costs froms tos m) → set_number (cell square v) 3 ≡ set_number (joins a cost v) n
    set_is cost v l square s =
        let e : n + (3 - n) ≡ 3 = omega arith in
        set_same (cell square v) (joins a cost v) 3 (λ w k. s v (omega arith) w k ∙ moves-same cost v w)
        ∙ ap (set_number (joins a cost v)) (sym e) ∙ set-stays (joins a cost v) n (3 - n) (λ w g h. inside cost v w g)

    module _ (meant disturbances : List (List Bool)) (p : SquareIs meant (joined_below 0 costs froms tos m)) (q : SquareIs disturbances (joined_below 1 costs froms tos m)) where
      digit-same : (v : ℕ) → v < n → held_digit n owners marks meant disturbances v ≡ digit_at a v
      unfolding held_digit digit_at
      digit-same v l =
          subst (λ (k : ℕ). held_digit n owners marks meant disturbances v ≡ digit (2 ^ k) (is_lane (owner_at a v)) (position_at a v).mark (set_number (joins a 0 v) k) (set_number (joins a 1 v) k)) (sym d.positions)
          (λ j. digit (2 ^ n) (lane_test v l j) (d.mark v l j) (set_is 0 v l meant p j) (set_is 1 v l disturbances q j))

      pub index_same : held_index n owners marks meant disturbances ≡ index_of a
      unfolding held_index index_of
      index_same =
          numeral-same (digits (2 ^ n)) (held_digit n owners marks meant disturbances) (digit_at a) n digit-same
          ∙ ap (λ (k : ℕ). numeral (digits (2 ^ k)) (digit_at a) k) (sym d.positions)

      pub is-small : Ok (held_index n owners marks meant disturbances) ≡ indexed_arena a
      unfolding indexed_arena is_small
      is-small = rw (le-leb (size a) 3 (omega (arith, d.positions)), sym rests-same ∙ calm) (ap Ok index_same)

    -- each position has a meant move
    pub some-meant : (meant : List (List Bool)) → SquareIs meant (joined_below 0 costs froms tos m) → SomeInEach n meant
    some-meant meant p v l =
        let w = d.well.meant v (omega (arith, d.positions)) (owned calm v l) in
        let t = d.well.to-position (disturbance_move 0 v w.0) w.1 in
        rw (set_is 0 v l meant p) (set-some (joins a 0 v) n w.0 (omega (arith, d.positions)) (is_true (joins a 0 v w.0) ((joins-exactly a 0 v w.0).1 w.1)))

-- The answers

module _ (text : List ℕ) where
  pub indexed-refused : {r : Misdrawn} → examined text ≡ Err r → Err (OfChart r) ≡ indexed text
  unfolding indexed indexed_by
  indexed-refused e = rw e

  pub indexed-rows : {chart : Chart} {n m : ℕ} {owners marks costs froms tos : List ℕ} {r : Result ℕ Refusal} → examined text ≡ Ok chart
      → RowsOf (arena_of text) n m owners marks costs froms tos → RowsIndexed n m owners marks costs froms tos r → r ≡ indexed text
  unfolding indexed indexed_by
  indexed-rows e d rows = rw e (rows.answer (arena_of text) d)

-- Small arenas

-- an arena that has a chart is small exactly by the test
pub small-test : (a : Arena) → Small a → is_small a ≡ true
unfolding is_small is_rest
small-test a small = rw (le-leb (size a) 3 small.few, some-none (λ v. is_rest (owner_at a v)) (size a) (λ v l. calm (owner_at a v) (small.without-rest v l)))
  where
    calm : (o : Owner) → (o ≡ nobody → ⊥) → is_rest o ≡ false
    calm controller h = refl
    calm environment h = refl
    calm nobody h = absurd (h refl)

pub small-indexed : (text : List ℕ) {chart : Chart} → examined text ≡ Ok chart → Small (arena_of text) → indexed text ≡ Ok (index_of (arena_of text))
unfolding indexed indexed_by indexed_arena
small-indexed text e small = rw (e, small-test (arena_of text) small)

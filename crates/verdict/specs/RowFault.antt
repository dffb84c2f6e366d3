-- The fault that the code's rows give at a position is the fault of the arena there. Each flag of the moves is a test of
-- the conditions; holding is compared only where condition 3 holds, and ruin only for a finite value.
use Rattle.std.specs.Prelude.{ℕ, ◌<◌, ◌≡◌, cond, ◌&&◌, ◌||◌, List, [], ◌∷◌, get_or, T}
use Rattle.std.proofs.Common.{arith, sym, subst, ◌∙◌}
use Rattle.std.proofs.Math.Path.{refl, ap}
use Rattle.std.proofs.Math.Bool.{Bool, true, false, not, and-false, or-false, not-not}
use Rattle.std.specs.Bool.{beq}
use Rattle.std.proofs.Math.Dec.{eqb}
use Rattle.std.proofs.lemmas.Bool.{eqb-false}
use Rattle.game.specs.Value.{Value, fin, ever, value_le, value_eq, ◌⊕◌}
use Rattle.game.proofs.ValueLaws.{value_eq-sound}
use Rattle.game.specs.Arena.{Arena, Move, Owner, controller, environment, nobody, owner_at, unsafe}
use Rattle.game.specs.Play.{disturbance_cost, target_of}
use Rattle.game.specs.Table.{some_move, every_move, meant_from, disturbance_from}
use Rattle.game.specs.Fault.{earlier, unsafe_zero, dashed, legal_as, meant_hold, disturbances_hold, holds, meant_ruin, disturbance_ruins, ruined, fault_at}
use Rattle.game.proofs.MoveTests.{none-at-rest}
use Rattle.rows.specs.Rows.{RowsOf, owner_number}
use Rattle.rows.specs.NumberLaws.{ever-number, finite_number, same-values}
use Rattle.conditions.specs.Position.{after_moves, before_moves, is_controller}
use Rattle.verdict.specs.Sheet.{Formed, Sheet, choice_at, line_at, row_fault, seen_below, some_shows, step_at, value_at}
use Rattle.verdict.specs.Shown.{chosen-number, disturbed-low-number, disturbed-ruin-number, earlier-number, flag_is, low-number, some_disturbance, some_meant}

-- Searches over moves

some-and : (p : Move → Bool) (b : Bool) (ms : List Move) → some_move (λ x. p x && b) ms ≡ (some_move p ms && b)
unfolding some_move
some-and p b [] = refl
some-and p b (x ∷ ms) = rw (some-and p b ms) (go (p x) b (some_move p ms))
  where
    go : (a b c : Bool) → cond (a && b) true (c && b) ≡ (cond a true c && b)
    go true true c = refl
    go true false c = and-false c
    go false b c = refl

-- a test that nothing passes
some-false : (p : Move → Bool) (ms : List Move) → some_move (λ x. p x && false) ms ≡ false
some-false p ms = some-and p false ms ∙ and-false (some_move p ms)

-- some fails where not every one passes
some-fails : (p q : Move → Bool) (ms : List Move) → some_move (λ x. p x && not (q x)) ms ≡ not (every_move (λ x. not (p x) || q x) ms)
unfolding every_move
some-fails p q ms = (λ i. some_move (λ x. go (p x) (q x) i) ms) ∙ sym (not-not (some_move (λ x. not (not (p x) || q x)) ms))
  where
    go : (b c : Bool) → (b && not c) ≡ not (not b || c)
    go true c = refl
    go false c = refl

-- The nest of tests, as the code has it and as the definition has it

-- u unsafe, z value 0, e value "ever", d step `-`, o the controller's, c choice `-`; then what the moves show
row_shape : (u z e d o c chosen low ruin late : Bool) → ℕ
row_shape u z e d o c chosen low ruin late =
    cond (eqb (cond (u && not z) 1 (cond (not (beq e d)) 2 (cond (not o && not c) 3 0))) 0)
    (cond (o && not chosen) 3 (cond low 4 (cond ((u || e) || (ruin || (o && not late))) 0 5)))
    (cond (u && not z) 1 (cond (not (beq e d)) 2 (cond (not o && not c) 3 0)))

-- then whether the choice is legal, holding is met, and ruin
fault_shape : (u z e d legal holds ruined : Bool) → ℕ
fault_shape u z e d legal holds ruined =
    cond (not (not u || z)) 1
    (cond (not (cond e d (not d))) 2
    (cond (not legal) 3
    (cond (not holds) 4
    (cond (not ((u || e) || ruined)) 5 0))))

-- condition 3, after the moves at O and before them elsewhere, and then what is left
third : (o c chosen legal : Bool) (x y : ℕ) → cond o chosen c ≡ legal → (legal ≡ true → x ≡ y)
    → cond (eqb (cond (not o && not c) 3 0) 0) (cond (o && not chosen) 3 x) (cond (not o && not c) 3 0) ≡ cond (not legal) 3 y
third true c true legal x y l f = rw (← l) (f (sym l))
third true c false legal x y l f = rw (← l)
third false true chosen legal x y l f = rw (← l) (f (sym l))
third false false chosen legal x y l f = rw (← l)

-- condition 5
fifth : (u e r r' : Bool) → (e ≡ false → r ≡ r') → ◌≡◌ {A = ℕ} (cond ((u || e) || r) 0 5) (cond (not ((u || e) || r')) 5 0)
fifth true e r r' is = refl
fifth false true r r' is = refl
fifth false false r true is = rw (is refl)
fifth false false r false is = rw (is refl)

same_shape : (u z e d o c chosen low ruin late legal holds r : Bool) → cond o chosen c ≡ legal → (legal ≡ true → low ≡ not holds)
    → (e ≡ false → (ruin || (o && not late)) ≡ r) → row_shape u z e d o c chosen low ruin late ≡ fault_shape u z e d legal holds r
unfolding row_shape fault_shape
same_shape u z e d o c chosen low ruin late legal holds r l h is = rw (first u z, second e d) (go (not (not u || z)) (not (cond e d (not d))))
  where
    first : (u z : Bool) → (u && not z) ≡ not (not u || z)
    first true z = refl
    first false z = refl

    second : (e d : Bool) → beq e d ≡ cond e d (not d)
    second true true = refl
    second true false = refl
    second false true = refl
    second false false = refl

    go : (p q : Bool) → ◌≡◌ {A = ℕ}
        (cond (eqb (cond p 1 (cond q 2 (cond (not o && not c) 3 0))) 0)
        (cond (o && not chosen) 3 (cond low 4 (cond ((u || e) || (ruin || (o && not late))) 0 5)))
        (cond p 1 (cond q 2 (cond (not o && not c) 3 0))))
        (cond p 1 (cond q 2 (cond (not legal) 3 (cond (not holds) 4 (cond (not ((u || e) || r)) 5 0)))))
    go true q = refl
    go false true = refl
    go false false =
        third o c chosen legal _ _ l (λ t. rw (h t) (ap (λ (k : ℕ). cond (not holds) 4 k) (fifth u e (ruin || (o && not late)) r is)))

module _ (a : Arena) (n m : ℕ) (s : Sheet) (d : RowsOf a n m s.owners s.marks s.costs s.froms s.tos) (formed : Formed n s.values s.steps)
    (v : ℕ) (inside : v < n) where
  -- the flags of what the moves show, as tests of the arena
  abbrev before : ℕ → Bool
  before w = earlier a (value_at s) (choice_at s) (step_at s) w v

  chosen_is : some_shows (λ x. x.chosen) s m v ≡ some_meant a v (λ w. value_eq (choice_at s v) (fin w))
  chosen_is =
      flag_is a n m s d formed v inside (λ x. x.chosen) (λ w. value_eq (choice_at s v) (fin w)) (λ w. false) (λ w l. refl)
      (λ w cost l. chosen-number a n m s d formed v inside w l)
      ∙ rw (some-false (disturbance_from v) a.moves)

  late_is : some_shows (λ x. x.late) s m v ≡ some_meant a v (λ w. not (before w))
  late_is =
      flag_is a n m s d formed v inside (λ x. x.late) (λ w. not (before w)) (λ w. false) (λ w l. refl)
      (λ w cost l. ap not (earlier-number a n m s d formed v inside w l cost))
      ∙ rw (some-false (disturbance_from v) a.moves)

  module _ (o : Owner) (own : owner_at a v ≡ o) where
    abbrev free : Bool
    free = not (eqb (owner_number o) 0)

    free-number : not (is_controller (line_at s v)) ≡ free
    free-number = ap (λ (x : ℕ). not (eqb x 0)) (d.owner v inside) ∙ ap (λ (x : Owner). not (eqb (owner_number x) 0)) own

    low-is : some_shows (λ x. x.low) s m v
        ≡ (some_disturbance a v (λ w. not (value_le (value_at s v) (value_at s w ⊕ disturbance_cost a v w)))
        || some_meant a v (λ w. (free || value_eq (choice_at s v) (fin w)) && not (value_le (value_at s v) (value_at s w))))
    low-is =
        flag_is a n m s d formed v inside (λ x. x.low) (λ w. (free || value_eq (choice_at s v) (fin w)) && not (value_le (value_at s v) (value_at s w)))
        (λ w. not (value_le (value_at s v) (value_at s w ⊕ disturbance_cost a v w)))
        (λ w l. disturbed-low-number a n m s d formed v inside w l)
        (λ w cost l i. (free-number i || chosen-number a n m s d formed v inside w l i) && low-number a n m s d formed v inside w l i)

    ruin-is : value_eq (value_at s v) ever ≡ false → some_shows (λ x. x.ruin) s m v
        ≡ (some_disturbance a v (λ w. value_le (value_at s w ⊕ disturbance_cost a v w) (value_at s v)) || some_meant a v (λ w. free && before w))
    ruin-is finite =
        flag_is a n m s d formed v inside (λ x. x.ruin) (λ w. free && before w) (λ w. value_le (value_at s w ⊕ disturbance_cost a v w) (value_at s v))
        (λ w l. disturbed-ruin-number a n m s d formed v inside w l (eqb-false (get_or s.values v 0) 65535 (sym (ever-number (get_or s.values v 0)) ∙ finite)))
        (λ w cost l i. free-number i && earlier-number a n m s d formed v inside w l cost i)

  -- Conditions 3, 4 and 5 of the position, by its owner

  legal-is : (o : Owner) → cond (eqb (owner_number o) 0) (some_shows (λ x. x.chosen) s m v) (value_eq (choice_at s v) ever) ≡ legal_as a (value_at s) (choice_at s) (step_at s) o v
  unfolding legal_as
  legal-is controller = chosen_is
  legal-is environment = refl
  legal-is nobody = refl

  -- where the choice is legal, no meant target is low exactly where they hold
  meant-hold-is : (o : Owner) → owner_at a v ≡ o → legal_as a (value_at s) (choice_at s) (step_at s) o v ≡ true
      → some_meant a v (λ w. (not (eqb (owner_number o) 0) || value_eq (choice_at s v) (fin w)) && not (value_le (value_at s v) (value_at s w)))
      ≡ not (meant_hold a (value_at s) (choice_at s) (step_at s) o v)
  unfolding legal_as meant_hold target_of
  meant-hold-is controller own legal =
      (λ i. some_move (λ x. choice-same x i) a.moves)
      ∙ rw (some-and (λ x. meant_from v x && value_eq (choice_at s v) (fin x.to)) (not kept) a.moves, legal)
    where
      kept : Bool
      kept = value_le (value_at s v) (value_at s (target_of (choice_at s v)))

      choice-same : (x : Move) → (meant_from v x && (value_eq (choice_at s v) (fin x.to) && not (value_le (value_at s v) (value_at s x.to))))
          ≡ ((meant_from v x && value_eq (choice_at s v) (fin x.to)) && not kept)
      choice-same x = with-test (meant_from v x) (value_eq (choice_at s v) (fin x.to)) (λ e. (value_eq-sound (choice_at s v) (fin x.to)).0 (subst T (sym e) tt))
        where
          with-test : (p q : Bool) → (q ≡ true → choice_at s v ≡ fin x.to) → (p && (q && not (value_le (value_at s v) (value_at s x.to)))) ≡ ((p && q) && not kept)
          with-test true true is = ap (λ (c : Value). not (value_le (value_at s v) (value_at s (target_of c)))) (sym (is refl))
          with-test true false is = refl
          with-test false q is = refl
  meant-hold-is environment own legal = some-fails (meant_from v) (λ x. value_le (value_at s v) (value_at s x.to)) a.moves
  meant-hold-is nobody own legal = none-at-rest a d.well v own (λ w. not (value_le (value_at s v) (value_at s w)))

  holding-is : legal_as a (value_at s) (choice_at s) (step_at s) (owner_at a v) v ≡ true
      → some_shows (λ x. x.low) s m v ≡ not (holds a (value_at s) (choice_at s) (step_at s) v)
  unfolding holds disturbances_hold
  holding-is legal =
      low-is (owner_at a v) refl
      ∙ rw (some-fails (disturbance_from v) (λ x. value_le (value_at s v) (value_at s x.to ⊕ disturbance_cost a v x.to)) a.moves, meant-hold-is (owner_at a v) refl legal)
      (go _ (meant_hold a (value_at s) (choice_at s) (step_at s) (owner_at a v) v))
    where
      go : (b c : Bool) → (not b || not c) ≡ not (c && b)
      go true true = refl
      go true false = refl
      go false true = refl
      go false false = refl

  ruined-is : (o : Owner) → owner_at a v ≡ o → value_eq (value_at s v) ever ≡ false
      → (some_shows (λ x. x.ruin) s m v || (eqb (owner_number o) 0 && not (some_shows (λ x. x.late) s m v)))
      ≡ (disturbance_ruins a (value_at s) (choice_at s) (step_at s) v || meant_ruin a (value_at s) (choice_at s) (step_at s) o v)
  unfolding disturbance_ruins meant_ruin
  ruined-is controller own finite =
      rw (
        ruin-is controller own finite,
        some-false (meant_from v) a.moves,
        or-false,
        late_is,
        some-fails (meant_from v) (λ x. before x.to) a.moves,
        not-not (every_move (λ x. not (meant_from v x) || before x.to) a.moves),
      )
  ruined-is environment own finite = rw (ruin-is environment own finite, or-false)
  ruined-is nobody own finite = rw (ruin-is nobody own finite, none-at-rest a d.well v own before, or-false, or-false)

  -- the code's tests at v are those of the arena, save what the moves show
  row-shape :
      row_fault m s v
      ≡ row_shape (unsafe a v) (value_eq (value_at s v) (fin 0)) (value_eq (value_at s v) ever) (value_eq (step_at s v) ever) (eqb (owner_number (owner_at a v)) 0) (value_eq (choice_at s v) ever)
      (some_shows (λ x. x.chosen) s m v) (some_shows (λ x. x.low) s m v) (some_shows (λ x. x.ruin) s m v) (some_shows (λ x. x.late) s m v)
  unfolding row_fault before_moves after_moves seen_below row_shape
  row-shape = λ i. row_shape (mark i) (zero i) (value-ever i) (step-ever i) (owner i) (choice-ever i)
      (some_shows (λ x. x.chosen) s m v) (some_shows (λ x. x.low) s m v) (some_shows (λ x. x.ruin) s m v) (some_shows (λ x. x.late) s m v)
    where
      mark : eqb (get_or s.marks v 0) 1 ≡ unsafe a v
      mark = ap (λ (x : ℕ). eqb x 1) (d.mark v inside)

      zero : eqb (get_or s.values v 0) 0 ≡ value_eq (value_at s v) (fin 0)
      zero = sym (same-values (get_or s.values v 0) 0) ∙ ap (value_eq (value_at s v)) (finite_number 0 (λ z. omega arith))

      value-ever : eqb (get_or s.values v 0) 65535 ≡ value_eq (value_at s v) ever
      value-ever = sym (ever-number (get_or s.values v 0))

      step-ever : eqb (get_or s.steps v 0) 65535 ≡ value_eq (step_at s v) ever
      step-ever = sym (ever-number (get_or s.steps v 0))

      choice-ever : eqb (get_or s.choices v 0) 65535 ≡ value_eq (choice_at s v) ever
      choice-ever = sym (ever-number (get_or s.choices v 0))

      owner : eqb (get_or s.owners v 0) 0 ≡ eqb (owner_number (owner_at a v)) 0
      owner = ap (λ (x : ℕ). eqb x 0) (d.owner v inside)

  pub row-fault-is : row_fault m s v ≡ fault_at a (value_at s) (choice_at s) (step_at s) v
  unfolding fault_at unsafe_zero dashed ruined fault_shape
  row-fault-is =
      row-shape
      ∙ same_shape (unsafe a v) (value_eq (value_at s v) (fin 0)) (value_eq (value_at s v) ever) (value_eq (step_at s v) ever) (eqb (owner_number (owner_at a v)) 0) (value_eq (choice_at s v) ever)
      (some_shows (λ x. x.chosen) s m v) (some_shows (λ x. x.low) s m v) (some_shows (λ x. x.ruin) s m v) (some_shows (λ x. x.late) s m v)
      (legal_as a (value_at s) (choice_at s) (step_at s) (owner_at a v) v) (holds a (value_at s) (choice_at s) (step_at s) v)
      (disturbance_ruins a (value_at s) (choice_at s) (step_at s) v || meant_ruin a (value_at s) (choice_at s) (step_at s) (owner_at a v) v)
      (legal-is (owner_at a v)) holding-is (ruined-is (owner_at a v) refl)

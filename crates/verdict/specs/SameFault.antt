-- Checking's answer goes by the columns at the arena's positions only: moves join positions, and so do choices in range.
use Rattle.std.specs.Prelude.{ℕ, ◌<◌, ◌≡◌, ◌⊎◌, Bool, ◌&&◌, ◌||◌, T}
use Rattle.std.proofs.Math.Path.{refl, ap}
use Rattle.std.proofs.Common.{sym, ◌∙◌, inl, inr, T_not}
use Rattle.std.proofs.Math.Bool.{cond, not}
use mathlib.Core.List.{List, [], ◌∷◌, Memᴰ}
use Rattle.rows.specs.Numbers.{Agree}
use Rattle.game.specs.Value.{Value, fin, ever, value_le, value_eq, ◌⊕◌}
use Rattle.game.specs.Arena.{Arena, Move, Owner, controller, environment, nobody, WellFormed, owner_at, size, unsafe}
use Rattle.game.specs.Play.{disturbance_cost, target_of}
use Rattle.game.specs.Table.{some_move, every_move, meant_from, disturbance_from}
use Rattle.game.specs.Fault.{earlier, unsafe_zero, dashed, legal_as, meant_hold, disturbances_hold, holds, meant_ruin, disturbance_ruins, ruined, fault_at}
use Rattle.game.proofs.MoveTests.{is_true, is_false, passes-or-fails}
use Rattle.rows.specs.FirstLineLaws.{first-line-same}
use Rattle.rows.specs.declared.FirstLine.{FirstLine}
use Rattle.verdict.specs.Verdict.{header_right, header_verdict, verdict_of}
use Rattle.verdict.specs.Exact.{header-test}
use Rattle.verdict.specs.VerdictLaws.{same_first}

-- tests that agree on the moves
some-members : (p q : Move → Bool) (ms : List Move) → ((x : Move) → Memᴰ x ms → p x ≡ q x) → some_move p ms ≡ some_move q ms
unfolding some_move
some-members p q [] same = refl
some-members p q (x ∷ ms) same = rw (same x (Memᴰ.head refl), some-members p q ms (λ y mem. same y (Memᴰ.tail mem)))

module _ (a : Arena) (well : WellFormed a) (value value' choice choice' step step' : ℕ → Value)
    (values : Agree (size a) value value') (choices : Agree (size a) choice choice') (steps : Agree (size a) step step')
    (targets : (v : ℕ) → v < size a → target_of (choice v) < size a) where
  earlier-same : (w v : ℕ) → w < size a → v < size a → earlier a value choice step w v ≡ earlier a value' choice' step' w v
  unfolding earlier
  earlier-same w v l k = rw (values w l, values v k, steps w l, steps v k)

  module _ (v : ℕ) (inside : v < size a) where
    -- a test of the targets of v's moves
    some_same : (f : Move → Bool → Bool) (q q' : ℕ → Bool) → ((w : ℕ) → w < size a → q w ≡ q' w)
        → some_move (λ x. f x (q x.to)) a.moves ≡ some_move (λ x. f x (q' x.to)) a.moves
    some_same f q q' same =
        some-members (λ x. f x (q x.to)) (λ x. f x (q' x.to)) a.moves (λ x mem. ap (f x) (same x.to (well.to-position x mem)))

    at-most-same : (w : ℕ) → w < size a → value_le (value v) (value w) ≡ value_le (value' v) (value' w)
    at-most-same w l = rw (values v inside, values w l)

    legal-same : (o : Owner) → legal_as a value choice step o v ≡ legal_as a value' choice' step' o v
    unfolding legal_as
    legal-same controller = λ i. some_move (λ m. meant_from v m && value_eq (choices v inside i) (fin m.to)) a.moves
    legal-same environment = λ i. value_eq (choices v inside i) ever
    legal-same nobody = λ i. value_eq (choices v inside i) ever

    -- a test of every target of a kind of v's moves
    every-same : (of : Move → Bool) (q q' : ℕ → Bool) → ((w : ℕ) → w < size a → q w ≡ q' w)
        → every_move (λ m. not (of m) || q m.to) a.moves ≡ every_move (λ m. not (of m) || q' m.to) a.moves
    unfolding every_move
    every-same of q q' same = ap not (some_same (λ m b. not (not (of m) || b)) q q' same)

    meant-hold-same : (o : Owner) → meant_hold a value choice step o v ≡ meant_hold a value' choice' step' o v
    unfolding meant_hold
    meant-hold-same controller =
        at-most-same (target_of (choice v)) (targets v inside) ∙ ap (λ (x : Value). value_le (value' v) (value' (target_of x))) (choices v inside)
    meant-hold-same environment = every-same (meant_from v) (λ w. value_le (value v) (value w)) (λ w. value_le (value' v) (value' w)) at-most-same
    meant-hold-same nobody = refl

    disturbances-hold-same : disturbances_hold a value choice step v ≡ disturbances_hold a value' choice' step' v
    unfolding disturbances_hold
    disturbances-hold-same =
        every-same (disturbance_from v) (λ w. value_le (value v) (value w ⊕ disturbance_cost a v w)) (λ w. value_le (value' v) (value' w ⊕ disturbance_cost a v w))
        (λ w l. rw (values v inside, values w l))

    meant-ruin-same : (o : Owner) → meant_ruin a value choice step o v ≡ meant_ruin a value' choice' step' o v
    unfolding meant_ruin
    meant-ruin-same controller =
        every-same (meant_from v) (λ w. earlier a value choice step w v) (λ w. earlier a value' choice' step' w v) (λ w l. earlier-same w v l inside)
    meant-ruin-same environment =
        some_same (λ m b. meant_from v m && b) (λ w. earlier a value choice step w v) (λ w. earlier a value' choice' step' w v) (λ w l. earlier-same w v l inside)
    meant-ruin-same nobody = refl

    disturbance-ruins-same : disturbance_ruins a value choice step v ≡ disturbance_ruins a value' choice' step' v
    unfolding disturbance_ruins
    disturbance-ruins-same =
        some_same (λ m b. disturbance_from v m && b) (λ w. value_le (value w ⊕ disturbance_cost a v w) (value v)) (λ w. value_le (value' w ⊕ disturbance_cost a v w) (value' v))
        (λ w l. rw (values v inside, values w l))

    fault-same : fault_at a value choice step v ≡ fault_at a value' choice' step' v
    unfolding fault_at unsafe_zero dashed holds ruined
    fault-same = λ i.
        cond (not (not (unsafe a v) || value_eq (values v inside i) (fin 0))) 1
        (cond (not (cond (value_eq (values v inside i) ever) (value_eq (steps v inside i) ever) (not (value_eq (steps v inside i) ever)))) 2
        (cond (not (legal-same (owner_at a v) i)) 3
        (cond (not (meant-hold-same (owner_at a v) i && disturbances-hold-same i)) 4
        (cond (not (unsafe a v || value_eq (values v inside i) ever || (disturbance-ruins-same i || meant-ruin-same (owner_at a v) i))) 5 0))))

  -- condition 6
  header-same : (h : FirstLine) → header_right (size a) value step h ≡ header_right (size a) value' step' h
  header-same h = go (passes-or-fails (header_right (size a) value step h)) (passes-or-fails (header_right (size a) value' step' h))
    where
      there : T (header_right (size a) value step h) → T (header_right (size a) value' step' h)
      there t = (header-test (size a) value' step' h).1 (first-line-same values steps ((header-test (size a) value step h).0 t))

      back : T (header_right (size a) value' step' h) → T (header_right (size a) value step h)
      back t =
          (header-test (size a) value step h).1
          (first-line-same (λ v l. sym (values v l)) (λ v l. sym (steps v l)) ((header-test (size a) value' step' h).0 t))

      go : T (header_right (size a) value step h) ⊎ T (not (header_right (size a) value step h)) → T (header_right (size a) value' step' h) ⊎ T (not (header_right (size a) value' step' h))
          → header_right (size a) value step h ≡ header_right (size a) value' step' h
      go (inl p) q = is_true (header_right (size a) value step h) p ∙ sym (is_true (header_right (size a) value' step' h) (there p))
      go (inr p) (inl q) = absurd (T_not (header_right (size a) value step h) p (back q))
      go (inr p) (inr q) = is_false (header_right (size a) value step h) p ∙ sym (is_false (header_right (size a) value' step' h) q)

  pub verdict-same : (h : FirstLine) → verdict_of a value choice step h ≡ verdict_of a value' choice' step' h
  unfolding verdict_of header_verdict
  verdict-same h =
      same_first (fault_at a value choice step) (fault_at a value' choice' step') (header_verdict (size a) value step h) (size a) fault-same
      ∙ rw (header-same h)

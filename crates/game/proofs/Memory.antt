-- controllers exist in every well-formed arena; and "every controller" isn't only the positional ones: in a small
-- arena there is one whose pick at a position depends on whether a disturbance led there.
use Rattle.std.specs.Prelude.{ℕ, zero, suc, ◌<◌, ◌≡◌, refl, ◌⊎◌, Bool, true, false, cond, ◌&&◌, T, eqb}
use Rattle.std.proofs.Common.{arith, sym, subst, inl, inr, lit<}
use mathlib.Core.List.Memᴰ
use mathlib.Core.List.{List, [], ◌∷◌, Memᴰ}
use Rattle.game.specs.Arena.{Arena, Move, Owner, controller, environment, nobody, size, owner_at, meant_move, disturbance_move, Meant, may_be_disturbed, has_meant, WellFormed}
use Rattle.game.specs.Play.{Trail, still, meant, disturbed, last, Controller, Play, controller-inside}
use Rattle.game.proofs.PlayLaws.{environment-is-not-controller, nobody-is-not-controller}

is_the_controllers : (o : Owner) → Dec (o ≡ controller)
is_the_controllers controller = yes refl
is_the_controllers environment = no environment-is-not-controller
is_the_controllers nobody = no nobody-is-not-controller

-- a position of the controller has a meant target
meant-of-controller : (a : Arena) → WellFormed a → (v : ℕ) → owner_at a v ≡ controller → (w : ℕ) × Meant a v w
meant-of-controller a wf v own = wf.meant v (controller-inside a v own) (subst (λ (o : Owner). T (has_meant o)) (sym own) tt)

-- such a target, and any number elsewhere
some_target : (a : Arena) → WellFormed a → (v : ℕ) → Dec (owner_at a v ≡ controller) → ℕ
some_target a wf v (yes own) = (meant-of-controller a wf v own).0
some_target a wf v (no other) = 0

some-target-is-meant : (a : Arena) (wf : WellFormed a) (v : ℕ) (d : Dec (owner_at a v ≡ controller)) → owner_at a v ≡ controller → Meant a v (some_target a wf v d)
unfolding some_target
some-target-is-meant a wf v (yes own) h = (meant-of-controller a wf v own).1
some-target-is-meant a wf v (no other) h = absurd (other h)

pub some-controller : (a : Arena) → WellFormed a → Controller a
some-controller a wf =
    record {
      pick = λ v t. some_target a wf (last v t) (is_the_controllers (owner_at a (last v t)));
      legal = λ v t own. some-target-is-meant a wf (last v t) (is_the_controllers (owner_at a (last v t))) own;
    }

-- two positions of the controller: 0 leads to 1 by a meant move and by a disturbance, 1 leads to both by meant moves
unfoldable pub pair : Arena
pair =
    record {
      positions = record { owner = controller; mark = 0 } ∷ record { owner = controller; mark = 0 } ∷ [];
      moves = meant_move 0 1 ∷ disturbance_move 1 0 1 ∷ meant_move 1 0 ∷ meant_move 1 1 ∷ [];
    }

-- what holds of each move in a row of moves
abbrev OfEach : (Move → Type 0) → List Move → Type 0
OfEach P [] = Unit {0}
OfEach P (m ∷ ms) = P m × OfEach P ms

of-each : (P : Move → Type 0) (ms : List Move) → OfEach P ms → (m : Move) → Memᴰ m ms → P m
of-each P [] h m i = absurd (Memᴰ.not-nil i)
of-each P (x ∷ ms) h m i = go (of-each P ms h.1 m) (Memᴰ.cases_cons i)
  where
    go : (Memᴰ m ms → P m) → (m ≡ x) ⊎ Memᴰ m ms → P m
    go rest (inl e) = subst P (sym e) h.0
    go rest (inr j) = rest j

-- a disturbance occurred on the trail
was_disturbed : Trail → Bool
was_disturbed still = false
was_disturbed (meant t w) = was_disturbed t
was_disturbed (disturbed t w) = true

-- the pick at u: 1, but 0 at position 1 after a disturbance
pick_at : Bool → ℕ → ℕ
pick_at b u = cond (b && eqb u 1) 0 1

pick-at-is-meant : (b : Bool) (u : ℕ) → u < size pair → Meant pair u (pick_at b u)
unfolding pair pick_at
pick-at-is-meant true zero l = Memᴰ.head refl
pick-at-is-meant true (suc zero) l = Memᴰ.tail (Memᴰ.tail (Memᴰ.head refl))
pick-at-is-meant true (suc (suc u)) l = absurd (omega arith)
pick-at-is-meant false zero l = Memᴰ.head refl
pick-at-is-meant false (suc zero) l = Memᴰ.tail (Memᴰ.tail (Memᴰ.tail (Memᴰ.head refl)))
pick-at-is-meant false (suc (suc u)) l = absurd (omega arith)

pub pair-is-well-formed : WellFormed pair
unfolding pair
pair-is-well-formed =
    record {
      kind = of-each (λ m. m.cost < 2) pair.moves (lit< tt, (lit< tt, (lit< tt, (lit< tt, tt))));
      from-position = of-each (λ m. m.from < 2) pair.moves (lit< tt, (lit< tt, (lit< tt, (lit< tt, tt))));
      to-position = of-each (λ m. m.to < 2) pair.moves (lit< tt, (lit< tt, (lit< tt, (lit< tt, tt))));
      disturbed =
          λ v w d. of-each (λ m. T (may_be_disturbed (owner_at pair m.from))) pair.moves (tt, (tt, (tt, (tt, tt)))) (disturbance_move (suc d.0) v w) d.1;
      resting = λ v w m. of-each (λ m. T (has_meant (owner_at pair m.from))) pair.moves (tt, (tt, (tt, (tt, tt)))) (meant_move v w) m;
      meant = λ v inside has. (pick_at false v, pick-at-is-meant false v inside);
    }

remembering : Controller pair
remembering =
    record {
      pick = λ v t. pick_at (was_disturbed t) (last v t);
      legal = λ v t own. pick-at-is-meant (was_disturbed t) (last v t) (controller-inside pair (last v t) own);
    }

-- both trails go from 0 to 1 and are plays of it; the picks differ
pub pick-depends-on-disturbance :
    (σ : Controller pair)
    × Play pair σ 0 (meant still 1)
    × Play pair σ 0 (disturbed still 1)
    × (σ.pick 0 (meant still 1) ≡ σ.pick 0 (disturbed still 1) → ⊥)
unfolding pair Play last remembering pick_at was_disturbed
pick-depends-on-disturbance = (
  remembering,
  (lit< tt, Memᴰ.head refl, refl),
  (lit< tt, (0, Memᴰ.tail (Memᴰ.head refl))),
  λ (same : ◌≡◌ {A = ℕ} 1 0). omega arith,
)

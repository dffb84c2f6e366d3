-- Readings of the choice that are wrong: each is said as a condition on a target, holds of one on some chart, and that
-- target isn't the choice there.
use Rattle.std.specs.Prelude.{ℕ, ◌≤◌, ◌≡◌, refl, Bool, not, ◌||◌, [], ◌∷◌, T, eqb, leb}
use Rattle.std.proofs.Common.{sym, ◌∙◌, subst, leb→le, T_not}
use mathlib.Core.List.Memᴰ
use Rattle.std.proofs.Math.Dec.{eqb_refl}
use Rattle.game.specs.Value.{Value, fin, ever, ◌≼◌, value_le, value_lt}
use Rattle.game.specs.Arena.{Arena, Meant, meant_move, disturbance_move}
use Rattle.game.specs.Choice.{IsChoice}
use Rattle.game.specs.Table.{every_move, meant_from, round_value}
use Rattle.game.specs.Best.{better, best_in, best_as, best_at}
use Rattle.game.proofs.ValueLaws.{fin-injective, fin-is-not-ever, value_le-sound}
use Rattle.game.proofs.MoveTests.{every-meant}
use Rattle.game.proofs.BestLaws.{best-is-the-choice, choice-is-unique}
use Rattle.game.proofs.WrongValues.{chart-i}
use Rattle.game.proofs.ChartValues.{O, L, chart_is, chart-is-well-formed, chart-inside}

-- the choice at v is w, by computation, with all that it stands on
unfoldable pub chosen : Arena → ℕ → Value
unfolding chart_is better best_in best_as best_at value_lt
chosen a v = best_at a (round_value a) v

module _ (a : Arena) (v : ℕ) (x : Value) (h : T (chart_is a v x)) where
  chart-choice : IsChoice a (round_value a) v (chosen a v)
  unfolding chosen
  chart-choice = best-is-the-choice a (round_value a) (chart-is-well-formed a v x h) v (chart-inside a v x h)

  chart-choice-only : (y : Value) → IsChoice a (round_value a) v y → y ≡ chosen a v
  chart-choice-only y c = choice-is-unique a (round_value a) v y (chosen a v) c chart-choice

  -- a target that isn't the computed one isn't the choice
  not_chosen : (w u : ℕ) → chosen a v ≡ fin u → T (not (eqb w u)) → ¬ (IsChoice a (round_value a) v (fin w))
  not_chosen w u e differ c = T_not (eqb w u) differ (subst (λ (i : ℕ). T (eqb w i)) (fin-injective w u (chart-choice-only (fin w) c ∙ e)) (eqb_refl w))

-- each meant target of v passes the test, by computation
each-meant : (a : Arena) (v : ℕ) (q : ℕ → Bool) → T (every_move (λ m. not (meant_from v m) || q m.to) a.moves) → (u : ℕ) → Meant a v u → T (q u)
each-meant a v q = (every-meant a v q).0

-- "taking the worst meant move at O"
pub record IsWorst (a : Arena) (value : ℕ → Value) (v w : ℕ) : Type 0 where
  pub target : Meant a v w
  pub least : (u : ℕ) → Meant a v u → value w ≼ value u

-- document 01's chart: "position 2 above has the choice 0, not itself"
abbrev pub chart-a : Arena
chart-a =
    record {
      positions = O 0 ∷ L 0 ∷ O 0 ∷ L 1 ∷ O 0 ∷ [];
      moves =
          meant_move 0 1 ∷ disturbance_move 1 0 2 ∷ meant_move 1 0 ∷ meant_move 2 0 ∷ meant_move 2 2 ∷ disturbance_move 1 2 3 ∷ meant_move 3 3 ∷ meant_move 4 4 ∷ [];
    }

pub a-has-the-choice-zero : IsChoice chart-a (round_value chart-a) 2 (fin 0) × (¬ (IsChoice chart-a (round_value chart-a) 2 (fin 2)))
unfolding chosen
a-has-the-choice-zero = (chart-choice chart-a 2 (fin 1) tt, not_chosen chart-a 2 (fin 1) tt 2 0 refl tt)

pub worst-of-a-is-itself : IsWorst chart-a (round_value chart-a) 2 2
unfolding chosen value_le
worst-of-a-is-itself =
    record {
      target = Memᴰ.tail (Memᴰ.tail (Memᴰ.tail (Memᴰ.tail (Memᴰ.head refl))));
      least = λ u m. (value_le-sound (round_value chart-a 2) (round_value chart-a u)).0 (each-meant chart-a 2 (λ x. value_le (round_value chart-a 2) (round_value chart-a x)) tt u m);
    }

-- the first target that isn't worse than the position
pub record IsFirstNotWorse (a : Arena) (value : ℕ → Value) (v w : ℕ) : Type 0 where
  pub target : Meant a v w
  pub not-worse : value v ≼ value w
  pub first : (u : ℕ) → Meant a v u → value v ≼ value u → w ≤ u

-- 0 has value 1 by its disturbance, and the targets 1, of value 1, and 2, which is ever
abbrev pub chart-rising : Arena
chart-rising =
    record {
      positions = O 0 ∷ O 0 ∷ L 0 ∷ L 1 ∷ [];
      moves = meant_move 0 1 ∷ meant_move 0 2 ∷ disturbance_move 1 0 3 ∷ meant_move 1 1 ∷ disturbance_move 1 1 3 ∷ meant_move 2 2 ∷ meant_move 3 3 ∷ [];
    }

pub rising-has-the-choice-two : IsChoice chart-rising (round_value chart-rising) 0 (fin 2) × (¬ (IsChoice chart-rising (round_value chart-rising) 0 (fin 1)))
unfolding chosen
rising-has-the-choice-two = (chart-choice chart-rising 0 (fin 1) tt, not_chosen chart-rising 0 (fin 1) tt 1 2 refl tt)

pub first-not-worse-of-rising-is-one : IsFirstNotWorse chart-rising (round_value chart-rising) 0 1
unfolding chosen value_le
first-not-worse-of-rising-is-one =
    record {
      target = Memᴰ.head refl;
      not-worse = (value_le-sound (round_value chart-rising 0) (round_value chart-rising 1)).0 tt;
      first = λ u m n. leb→le 1 u (each-meant chart-rising 0 (leb 1) tt u m);
    }

-- the highest number among equals
pub record IsHighest (a : Arena) (value : ℕ → Value) (v w : ℕ) : Type 0 where
  pub target : Meant a v w
  pub greatest : (u : ℕ) → Meant a v u → value u ≼ value w
  pub highest : (u : ℕ) → Meant a v u → value u ≡ value w → u ≤ w

abbrev pub chart-equal : Arena
chart-equal = record { positions = O 0 ∷ L 0 ∷ L 0 ∷ []; moves = meant_move 0 1 ∷ meant_move 0 2 ∷ meant_move 1 1 ∷ meant_move 2 2 ∷ [] }

pub equal-has-the-choice-one : IsChoice chart-equal (round_value chart-equal) 0 (fin 1) × (¬ (IsChoice chart-equal (round_value chart-equal) 0 (fin 2)))
unfolding chosen
equal-has-the-choice-one = (chart-choice chart-equal 0 ever tt, not_chosen chart-equal 0 ever tt 2 1 refl tt)

pub highest-of-equal-is-two : IsHighest chart-equal (round_value chart-equal) 0 2
unfolding chosen value_le
highest-of-equal-is-two =
    record {
      target = Memᴰ.tail (Memᴰ.head refl);
      greatest = λ u m. (value_le-sound (round_value chart-equal u) (round_value chart-equal 2)).0 (each-meant chart-equal 0 (λ x. value_le (round_value chart-equal x) (round_value chart-equal 2)) tt u m);
      highest = λ u m e. leb→le u 2 (each-meant chart-equal 0 (λ x. leb x 2) tt u m);
    }

-- no choice at an unsafe O: it has one, as chart i says
pub unsafe-i-has-the-choice-one : IsChoice chart-i (round_value chart-i) 0 (fin 1) × (¬ (IsChoice chart-i (round_value chart-i) 0 ever))
unfolding chosen
unsafe-i-has-the-choice-one = (chart-choice chart-i 0 (fin 0) tt, λ c. fin-is-not-ever 1 (sym (chart-choice-only chart-i 0 (fin 0) tt ever c)))

-- Conditions 1 to 5 of Checking at one position, as the code's tests on numbers: 65,535 stands for "ever" and the dash.
use Rattle.std.specs.Prelude.{ℕ, zero, suc, Option, Some, None, ◌+◌, ◌*◌, ◌<◌, ◌≡◌, Bool, false, cond, not, ◌&&◌, ◌||◌, eqb, leb, ltb}
use Rattle.std.specs.Bool.{beq}
use Rattle.conditions.specs.declared.Line.{Line}
use Rattle.conditions.specs.declared.Target.{Target}
use Rattle.conditions.specs.declared.Seen.{Seen}

-- the tests of a position that Checking goes by
abbrev pub is_unsafe : Line → Bool
is_unsafe l = eqb l.mark 1

abbrev pub is_ever : Line → Bool
is_ever l = eqb l.value 65535

abbrev pub is_controller : Line → Bool
is_controller l = eqb l.owner 0

-- the condition of a number, none for 0
abbrev pub failing : ℕ → Option ℕ
failing zero = None
failing (suc c) = Some (suc c)

-- the first of conditions 1, 2 and, at L and R, 3 that fails, 0 if none does
unfoldable pub before_moves : Line → ℕ
before_moves l =
    cond (is_unsafe l && not (eqb l.value 0)) 1
    (cond (not (beq (is_ever l) (eqb l.step 65535))) 2
    (cond (not (is_controller l) && not (eqb l.choice 65535)) 3 0))

-- the first of conditions 3 at O, 4 and 5 that fails, 0 if none does
unfoldable pub after_moves : Line → Seen → ℕ
after_moves l s =
    cond (is_controller l && not s.chosen) 3
    (cond s.low 4
    (cond ((is_unsafe l || is_ever l) || (s.ruin || (is_controller l && not s.late))) 0 5))

-- "Earlier means smaller value, or equal value and smaller step; `-` is above each step."
unfoldable pub earlier_target : Line → Target → Bool
earlier_target l t = ltb t.value l.value || (eqb t.value l.value && ltb t.step l.step)

-- a value and a step below 65,536 as one number
pub record Rank (value step r : ℕ) : Type 0 where
  pub is : r ≡ value * 65536 + step
  pub low : step < 65536

-- what a meant move shows: at O the choice must hold, at L every target; ruin goes at L by one that is earlier. R has no meant move.
abbrev pub shown_meant : Line → Target → Seen
shown_meant l t =
    record {
      chosen = eqb l.choice t.to;
      low = (not (is_controller l) || eqb l.choice t.to) && ltb t.value l.value;
      ruin = not (is_controller l) && earlier_target l t;
      late = not (earlier_target l t);
    }

-- what a disturbance shows: with its cost more its target must not lie below this value, and ruin goes by one that is at most this value
abbrev pub shown_disturbance : Line → Target → Seen
shown_disturbance l t =
    record {
      chosen = false;
      low = ltb (t.value + t.cost) l.value;
      ruin = leb (t.value + t.cost) l.value;
      late = false;
    }

-- what no move shows
abbrev pub nothing : Seen
nothing = record { chosen = false; low = false; ruin = false; late = false }

-- what one move shows
unfoldable pub shown : Line → Target → Seen
shown l t = cond (eqb t.cost 0) (shown_meant l t) (shown_disturbance l t)

-- what moves and one move more show
unfoldable pub joined : Seen → Seen → Seen
joined s t =
    record {
      chosen = s.chosen || t.chosen;
      low = s.low || t.low;
      ruin = s.ruin || t.ruin;
      late = s.late || t.late;
    }

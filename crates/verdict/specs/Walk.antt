-- The walk over positions and their moves: what is known between two positions and between two moves of one, with a law
-- for each turn. A position's moves lie together, so those among the first i are all of them once a move of a later
-- position comes, or none is left.
use Prim.Native.Nat.{ℕ, ◌+◌, ◌≤◌, ◌<◌}
use Rattle.std.proofs.Math.Decide.{ℕ_discrete}
use Rattle.std.proofs.Common.{arith, subst, ◌∙◌, inl, inr, eq-eqb, ne_eqb}
use Rattle.std.specs.Prelude.{◌≡◌, ◌⊎◌, Bool, true, ◌||◌, get_or}
use Rattle.std.proofs.Math.Path.{sym, ap}
use Rattle.std.proofs.Math.Bool.{false}
use Rattle.rows.specs.Rows.{Ascending}
use Rattle.rows.specs.Numbers.{number_at}
use Rattle.rows.specs.Notes.{found, found_none, found-next, found_all, found-more}
use Rattle.conditions.specs.Position.{after_moves, before_moves, is_controller, joined, nothing, shown}
use Rattle.verdict.specs.Sheet.{Sheet, line_at, row_fault, seen_below, target_at}
use Rattle.conditions.specs.declared.Line.{Line}
use Rattle.conditions.specs.declared.Target.{Target}
use Rattle.conditions.specs.declared.Seen.{Seen}

-- What is known

-- between positions: those below v have no fault, and the first i moves are theirs
pub record Walked (m : ℕ) (s : Sheet) (v i : ℕ) : Type 0 where
  pub clean : (u : ℕ) → u < v → row_fault m s u ≡ 0
  pub behind : (j : ℕ) → j < i → get_or s.froms j 0 < v
  pub ahead : (j : ℕ) → i ≤ j → j < m → v ≤ get_or s.froms j 0

-- between moves of v: the tests before its moves passed, and its moves among the first i were seen
pub record Walking (m : ℕ) (s : Sheet) (v i : ℕ) (seen : Seen) : Type 0 where
  pub clean : (u : ℕ) → u < v → row_fault m s u ≡ 0
  pub early : before_moves (line_at s v) ≡ 0
  pub shows : seen ≡ seen_below s i v
  pub behind : (j : ℕ) → j < i → get_or s.froms j 0 ≤ v
  pub ahead : (j : ℕ) → i ≤ j → j < m → v ≤ get_or s.froms j 0

pub walk_begins : (m : ℕ) (s : Sheet) → Walked m s 0 0
walk_begins m s = record { clean = λ u l. absurd (omega arith); behind = λ j l. absurd (omega arith); ahead = λ j l k. omega arith }

module _ {m : ℕ} {s : Sheet} {v i : ℕ} (w : Walked m s v i) where
  pub position-begins : before_moves (line_at s v) ≡ 0 → Walking m s v i nothing
  unfolding seen_below
  position-begins e = record { clean = w.clean; early = e; shows = unseen; behind = λ j l. omega (arith, w.behind j l); ahead = w.ahead }
    where
      none : (q : ℕ → Bool) → false ≡ found (number_at s.froms) q i v
      none q = sym (found_none (number_at s.froms) q v i w.behind)

      unseen : nothing ≡ seen_below s i v
      unseen = λ x. record {
        chosen = none (λ j. (shown (line_at s v) (target_at s j)).chosen) x;
        low = none (λ j. (shown (line_at s v) (target_at s j)).low) x;
        ruin = none (λ j. (shown (line_at s v) (target_at s j)).ruin) x;
        late = none (λ j. (shown (line_at s v) (target_at s j)).late) x;
      }

  -- a test before the moves fails
  pub early-fault : (before_moves (line_at s v) ≡ 0 → ⊥) → row_fault m s v ≡ before_moves (line_at s v)
  unfolding row_fault
  early-fault z = rw (ne_eqb (before_moves (line_at s v)) 0 z)

module _ {m : ℕ} {s : Sheet} {v i : ℕ} {seen : Seen} (w : Walking m s v i seen) where
  fault-after : row_fault m s v ≡ after_moves (line_at s v) (seen_below s m v)
  unfolding row_fault
  fault-after = rw (eq-eqb (before_moves (line_at s v)) 0 w.early)

  -- one move more
  pub move_seen : Ascending m s.froms → i < m → get_or s.froms i 0 ≡ v → {next : Seen} {line : Line} {target : Target}
      → next ≡ joined seen (shown line target) → line ≡ line_at s v → target ≡ target_at s i → Walking m s v (i + 1) next
  unfolding seen_below joined
  move_seen ascending l e {next} {line} {target} is same_line same_target =
      record {
        clean = w.clean;
        early = w.early;
        shows = is ∙ rw (same_line, same_target, w.shows) all;
        behind = λ j k. omega (arith, ascending j i (omega arith) l);
        ahead = λ j k h. w.ahead j (omega arith) h;
      }
    where
      one : (q : ℕ → Bool) → (found (number_at s.froms) q i v || q i) ≡ found (number_at s.froms) q (i + 1) v
      one q = sym (found-next (number_at s.froms) q v i e)

      all : joined (seen_below s i v) (shown (line_at s v) (target_at s i)) ≡ seen_below s (i + 1) v
      all = λ x. record {
        chosen = one (λ j. (shown (line_at s v) (target_at s j)).chosen) x;
        low = one (λ j. (shown (line_at s v) (target_at s j)).low) x;
        ruin = one (λ j. (shown (line_at s v) (target_at s j)).ruin) x;
        late = one (λ j. (shown (line_at s v) (target_at s j)).late) x;
      }

  -- elsewhere than at O, where 3 holds already, a target below what holding asks is a breach of 4
  pub low-fault : i ≤ m → is_controller (line_at s v) ≡ false → seen.low ≡ true → row_fault m s v ≡ 4
  unfolding after_moves seen_below
  low-fault l o h = fault-after ∙ rw (o, found-more (number_at s.froms) (λ j. (shown (line_at s v) (target_at s j)).low) v i m l (sym (ap (λ (x : Seen). x.low) w.shows) ∙ h))

  -- the moves that are left are no moves of v
  module _ (ascending : Ascending m s.froms) (l : i ≤ m) (over : (m ≤ i) ⊎ (get_or s.froms i 0 ≡ v → ⊥)) where
    past : (j : ℕ) → i ≤ j → j < m → v < get_or s.froms j 0
    past j k h = go over
      where
        go : (m ≤ i) ⊎ (get_or s.froms i 0 ≡ v → ⊥) → v < get_or s.froms j 0
        go (inl z) = absurd (omega arith)
        go (inr z) = step (ℕ_discrete (get_or s.froms i 0) v)
          where
            step : Dec (get_or s.froms i 0 ≡ v) → v < get_or s.froms j 0
            step (yes e) = absurd (z e)
            step (no n) = omega (arith, w.ahead i (omega arith) (omega arith), ascending i j k h)

    pub moves-seen : row_fault m s v ≡ after_moves (line_at s v) seen
    unfolding seen_below
    moves-seen = fault-after ∙ ap (after_moves (line_at s v)) (sym (w.shows ∙ all))
      where
        one : (q : ℕ → Bool) → found (number_at s.froms) q i v ≡ found (number_at s.froms) q m v
        one q = found_all (number_at s.froms) q v i m l past

        all : seen_below s i v ≡ seen_below s m v
        all = λ x. record {
          chosen = one (λ j. (shown (line_at s v) (target_at s j)).chosen) x;
          low = one (λ j. (shown (line_at s v) (target_at s j)).low) x;
          ruin = one (λ j. (shown (line_at s v) (target_at s j)).ruin) x;
          late = one (λ j. (shown (line_at s v) (target_at s j)).late) x;
        }

    -- one position more
    pub position-walked : after_moves (line_at s v) seen ≡ 0 → Walked m s (v + 1) i
    position-walked e = record { clean = λ u k. go u k (ℕ_discrete u v); behind = λ j k. omega (arith, w.behind j k); ahead = λ j k h. omega (arith, past j k h) }
      where
        go : (u : ℕ) → u < v + 1 → Dec (u ≡ v) → row_fault m s u ≡ 0
        go u k (yes z) = subst (λ (x : ℕ). row_fault m s x ≡ 0) (sym z) (moves-seen ∙ e)
        go u k (no z) = w.clean u (omega arith)

-- Laws of rows that hold an arena: their moves join positions, and a search over the move lines is the search over the moves.
use Rattle.std.specs.Prelude.{ℕ, suc, ◌<◌, ◌≡◌, refl, Bool, true, false, cond, ◌&&◌, ◌||◌, List, [], ◌∷◌, length, get_or}
use Rattle.std.proofs.Math.Decide.{ℕ_discrete}
use Rattle.std.proofs.Common.{arith, sym, ◌∙◌}
use Rattle.std.proofs.Math.Path.{subst}
use Rattle.std.proofs.Math.Dec.{eqb}
use borrow.Author.Tests.{eq-eqb, ne_eqb}
use Rattle.search.specs.Below.{some_below, some-front}
use Rattle.game.specs.Arena.{Arena, Move, Owner, controller, environment, nobody, owner_at, move_at, no_move}
use Rattle.game.specs.Restrict.{is_controller}
use Rattle.game.specs.Table.{some_move}
use Rattle.game.proofs.Members.{at-member}
use Rattle.rows.specs.Numbers.{number_at}
use Rattle.rows.specs.Rows.{owner_number, RowsOf, Within}
use Rattle.rows.specs.Notes.{found}

-- a search over the move lines is the search over the moves
pub some-lines : (f : ℕ → Bool) (p : Move → Bool) (ms : List Move) → ((j : ℕ) → j < length ms → f j ≡ p (get_or ms j no_move)) → some_below f (length ms) ≡ some_move p ms
unfolding some_below some_move
some-lines f p [] h = refl
some-lines f p (m ∷ ms) h =
    some-front f (length ms)
    ∙ rw (h 0 (omega arith), some-lines (λ j. f (suc j)) p ms (λ j l. h (suc j) (omega arith))) (go (p m))
  where
    go : (b : Bool) → (b || some_move p ms) ≡ cond b true (some_move p ms)
    go true = refl
    go false = refl

module _ (a : Arena) (n m : ℕ) (owners marks costs froms tos : List ℕ) (d : RowsOf a n m owners marks costs froms tos) where
  pub from-inside : (j : ℕ) → j < m → (move_at a j).from < n
  from-inside j l = rw (← d.positions) (d.well.from-position (move_at a j) (at-member no_move a.moves j (rw d.moves l)))

  pub to_inside : (j : ℕ) → j < m → (move_at a j).to < n
  to_inside j l = rw (← d.positions) (d.well.to-position (move_at a j) (at-member no_move a.moves j (rw d.moves l)))

  -- who steers, as a number and as a test
  pub owner-test : (v : ℕ) → v < n → eqb (get_or owners v 0) 0 ≡ is_controller (owner_at a v)
  owner-test v l = rw (d.owner v l) (go (owner_at a v))
    where
      go : (o : Owner) → eqb (owner_number o) 0 ≡ is_controller o
      go controller = refl
      go environment = refl
      go nobody = refl

  -- the lines that leave v with a property are the moves with it, if the property is false of moves that leave another
  pub lines_of : (v : ℕ) (q : ℕ → Bool) (p : Move → Bool)
      → ((j : ℕ) → j < m → (move_at a j).from ≡ v → q j ≡ p (move_at a j))
      → ((x : Move) → eqb x.from v ≡ false → p x ≡ false)
      → found (number_at froms) q m v ≡ some_move p a.moves
  unfolding found
  lines_of v q p same other =
      subst (λ (i : ℕ). some_below (λ j. eqb (get_or froms j 0) v && q j) i ≡ some_move p a.moves) d.moves
      (some-lines (λ j. eqb (get_or froms j 0) v && q j) p a.moves (λ j l. at j (rw d.moves at l) (ℕ_discrete (move_at a j).from v)))
    where
      at : (j : ℕ) → j < m → Dec ((move_at a j).from ≡ v) → (eqb (get_or froms j 0) v && q j) ≡ p (move_at a j)
      at j l (yes z) = rw (d.from j l, eq-eqb (move_at a j).from v z) (same j l z)
      at j l (no z) = rw (d.from j l, ne_eqb (move_at a j).from v z) (sym (other (move_at a j) (ne_eqb (move_at a j).from v z)))

-- rows that hold an arena are within their bounds
pub rows-within : {a : Arena} {n m : ℕ} {owners marks costs froms tos : List ℕ} → RowsOf a n m owners marks costs froms tos → Within n m costs froms tos
rows-within {a} {n} {m} {owners} {marks} {costs} {froms} {tos} d =
    record {
      costs-row = d.costs-row;
      froms-row = d.froms-row;
      tos-row = d.tos-row;
      from-inside = λ i l. rw (d.from i l) (from-inside a n m owners marks costs froms tos d i l);
      to_inside = λ i l. rw (d.to i l) (to_inside a n m owners marks costs froms tos d i l);
    }

-- Choosing goes move by move, and what it leaves is the choice of the definitions.
use Prim.Native.Nat.{ℕ, zero, suc, ◌+◌, ◌≤◌, ◌<◌}
use Rattle.std.proofs.Math.Numerals.{add-one}
use Rattle.std.proofs.Math.Decide.{ℕ_discrete}
use Rattle.std.proofs.Common.{arith, sym, subst, ◌∙◌, get_or-set_same, get_or-set_other, take-suc}
use Rattle.std.specs.Prelude.{◌≡◌, Bool, ◌&&◌, ◌||◌, List, [], ◌∷◌, ◌++◌, length, get_or}
use Rattle.std.proofs.Math.Path.{refl, ap}
use Rattle.std.proofs.Math.Bool.{true, false, cond, and-true, and-false}
use Rattle.std.proofs.Math.ListN.{take}
use Rattle.std.proofs.Math.Seq.{take_all}
use Rattle.std.proofs.Math.Dec.{eqb, ltb}
use borrow.Author.Tests.{eq-eqb, ne_eqb}
use Rattle.rows.specs.RowsLaws.{to_inside, owner-test}
use Rattle.rows.specs.Rows.{RowIs, Stays, Within, RowsOf}
use Rattle.rows.specs.Numbers.{number_of}
use Rattle.rows.specs.NumberLaws.{less-numbers, same_numbers}
use Rattle.rows.specs.Filling.{set_if, set_if-stays}
use Rattle.game.specs.Value.{Value, fin, ever, value_lt, value_eq}
use Rattle.game.specs.Arena.{Arena, Move, Owner, controller, environment, nobody, owner_at, move_at, no_move}
use Rattle.game.specs.Restrict.{is_controller}
use Rattle.game.specs.Table.{meant_from}
use Rattle.game.specs.Best.{better, best_in, best_as, best_at}
use Rattle.choice.specs.Choose.{Chosen, is_better, Fitting, own_move, best_below, ValuesAre}

-- the row after the first i moves
pub record Choosing (n : ℕ) (owners costs froms tos values : List ℕ) (i : ℕ) (before row : List ℕ) : Type 0 where
  pub at : RowIs row n (best_below owners costs froms tos values i)
  pub stay : Stays n before row

module _ {n : ℕ} {owners costs froms tos values : List ℕ} where
  pub choosing-none : {row : List ℕ} → RowIs row n (λ v. 65535) → Choosing n owners costs froms tos values 0 row row
  unfolding best_below
  choosing-none h = record { at = h; stay = λ j l. refl }

  pub choosing-all : {i m : ℕ} {before row : List ℕ} → i ≡ m → Choosing n owners costs froms tos values i before row → Choosing n owners costs froms tos values m before row
  choosing-all {before} {row} e h = subst (λ (j : ℕ). Choosing n owners costs froms tos values j before row) e h

  pub choosing-next : {i : ℕ} {before row : List ℕ} → Choosing n owners costs froms tos values i before row → n ≤ length row → get_or froms i 0 < n
      → Choosing n owners costs froms tos values (i + 1) before
      (set_if (own_move owners costs froms i && is_better values (get_or row (get_or froms i 0) 0) (get_or tos i 0)) (get_or froms i 0) (get_or tos i 0) row)
  unfolding best_below
  choosing-next {i} {row} h l inside =
      record {
        at = λ v m. rw add-one (go v m (ℕ_discrete v (get_or froms i 0)));
        stay = λ j k. set_if-stays takes n (get_or froms i 0) (get_or tos i 0) row inside j k ∙ h.stay j k;
      }
    where
      b : ℕ → ℕ
      b = best_below owners costs froms tos values i

      takes : Bool
      takes = own_move owners costs froms i && is_better values (get_or row (get_or froms i 0) 0) (get_or tos i 0)

      same : (t : Bool) → get_or (set_if t (get_or froms i 0) (get_or tos i 0) row) (get_or froms i 0) 0 ≡ cond t (get_or tos i 0) (get_or row (get_or froms i 0) 0)
      same true = get_or-set_same row (get_or froms i 0) (get_or tos i 0) 0 (omega arith)
      same false = refl

      other : (t : Bool) (v : ℕ) → (v ≡ get_or froms i 0 → ⊥) → get_or (set_if t (get_or froms i 0) (get_or tos i 0) row) v 0 ≡ get_or row v 0
      other true v z = get_or-set_other row (get_or froms i 0) v (get_or tos i 0) 0 z
      other false v z = refl

      go : (v : ℕ) → v < n → Dec (v ≡ get_or froms i 0)
          → get_or (set_if takes (get_or froms i 0) (get_or tos i 0) row) v 0
          ≡ cond (eqb (get_or froms i 0) v && (own_move owners costs froms i && is_better values (b v) (get_or tos i 0))) (get_or tos i 0) (b v)
      go v m (yes z) = rw (z, eq-eqb (get_or froms i 0) (get_or froms i 0) refl, ← h.at (get_or froms i 0) inside) (same takes)
      go v m (no z) = rw (ne_eqb (get_or froms i 0) v (λ e. z (sym e))) (other takes v z ∙ h.at v m)

module _ {n m : ℕ} (owners : List ℕ) {costs froms tos : List ℕ} (values : List ℕ) (w : Within n m costs froms tos) where
  -- the best so far is a position
  pub best-inside : (i v : ℕ) → i ≤ m → (best_below owners costs froms tos values i v ≡ 65535 → ⊥) → best_below owners costs froms tos values i v < n
  unfolding best_below
  best-inside zero v l h = absurd (h refl)
  best-inside (suc i) v l h = go (best-inside i v (omega arith)) (eqb (get_or froms i 0) v && (own_move owners costs froms i && is_better values (best_below owners costs froms tos values i v) (get_or tos i 0))) h
    where
      b : ℕ
      b = best_below owners costs froms tos values i v

      go : ((b ≡ 65535 → ⊥) → b < n) → (t : Bool) → (cond t (get_or tos i 0) b ≡ 65535 → ⊥) → cond t (get_or tos i 0) b < n
      go rec true h = w.to_inside i (omega arith)
      go rec false h = rec h

  -- so comparing with it stays within the row of values
  pub choosing-fits : {i : ℕ} {before row : List ℕ} → Choosing n owners costs froms tos values i before row → n ≤ length values → i < m
      → Fitting values (get_or row (get_or froms i 0) 0) (get_or tos i 0)
  choosing-fits {i} {row} h l k =
      record {
        best-in = λ some. let e = h.at (get_or froms i 0) (w.from-inside i k) in
            let q = best-inside i (get_or froms i 0) (omega arith) (λ z. some (e ∙ z)) in omega (arith, e, q);
        new_in = omega (arith, w.to_inside i k);
      }

-- one move more at the end
best-snoc : (value : ℕ → Value) (v : ℕ) (x : Value) (ms : List Move) (m : Move)
    → best_in value v x (ms ++ (m ∷ [])) ≡ cond (meant_from v m) (better value (best_in value v x ms) m.to) (best_in value v x ms)
unfolding best_in
best-snoc value v x [] m = refl
best-snoc value v x (k ∷ ms) m = best-snoc value v (cond (meant_from v k) (better value x k.to) x) ms m

module _ (a : Arena) (n m : ℕ) (owners marks costs froms tos values : List ℕ) (value : ℕ → Value)
    (d : RowsOf a n m owners marks costs froms tos) (valued : ValuesAre values n value) (w : Within n m costs froms tos) (v : ℕ) (inside : v < n) where
  -- the best so far, if there is one, is a position
  Inside : Value → Type 0
  Inside (fin u) = u < n
  Inside ever = Unit {0}

  -- comparing with the best so far is the definition's comparing
  better-number : (x : Value) (t : ℕ) → Inside x → t < n → cond (is_better values (number_of x) t) t (number_of x) ≡ number_of (better value x t)
  unfolding is_better better number_of Inside
  better-number ever t h l = refl
  better-number (fin u) t h l =
      rw (ne_eqb u 65535 (λ e. omega (arith, d.few-positions)), (valued u h).0, (valued t l).0, less-numbers (value u) (value t) (valued u h).1 (valued t l).1, same_numbers (value u) (value t) (valued u h).1 (valued t l).1)
      (go (value_lt (value u) (value t) || (value_eq (value u) (value t) && ltb t u)))
    where
      go : (b : Bool) → cond b t u ≡ number_of (cond b (fin t) (fin u))
      go true = refl
      go false = refl

  better-inside : (x : Value) (t : ℕ) → Inside x → t < n → Inside (better value x t)
  unfolding better Inside
  better-inside ever t h l = l
  better-inside (fin u) t h l = go (value_lt (value u) (value t) || (value_eq (value u) (value t) && ltb t u))
    where
      go : (b : Bool) → Inside (cond b (fin t) (fin u))
      go true = l
      go false = h

  -- one move, for a position of the controller
  step : owner_at a v ≡ controller → (i : ℕ) → i < m → (x : Value) → Inside x
      → (cond (eqb (get_or froms i 0) v && (own_move owners costs froms i && is_better values (number_of x) (get_or tos i 0))) (get_or tos i 0) (number_of x)
      ≡ number_of (cond (meant_from v (move_at a i)) (better value x (move_at a i).to) x))
      × Inside (cond (meant_from v (move_at a i)) (better value x (move_at a i).to) x)
  unfolding own_move meant_from
  step own i l x h = rw (d.from i l, d.cost i l, d.to i l) (go (ℕ_discrete (move_at a i).from v) (eqb (move_at a i).cost 0))
    where
      t : ℕ
      t = (move_at a i).to

      meant-or-not : (c : Bool) → (cond (c && is_better values (number_of x) t) t (number_of x) ≡ number_of (cond c (better value x t) x)) × Inside (cond c (better value x t) x)
      meant-or-not true = (better-number x t h (to_inside a n m owners marks costs froms tos d i l), better-inside x t h (to_inside a n m owners marks costs froms tos d i l))
      meant-or-not false = (refl, h)

      go : Dec ((move_at a i).from ≡ v) → (c : Bool)
          → (cond (eqb (move_at a i).from v && ((c && eqb (get_or owners (move_at a i).from 0) 0) && is_better values (number_of x) t)) t (number_of x)
          ≡ number_of (cond (c && eqb (move_at a i).from v) (better value x t) x))
          × Inside (cond (c && eqb (move_at a i).from v) (better value x t) x)
      go (yes z) c = rw (z, eq-eqb v v refl, d.owner v inside, own, and-true) (meant-or-not c)
      go (no z) c = rw (ne_eqb (move_at a i).from v z, and-false) (refl, h)

  -- the best of the first i moves, for a position of the controller
  so_far : owner_at a v ≡ controller → (i : ℕ) → i ≤ m
      → (best_below owners costs froms tos values i v ≡ number_of (best_in value v ever (take i a.moves))) × Inside (best_in value v ever (take i a.moves))
  unfolding best_below best_in number_of Inside
  so_far own zero l = (refl, tt)
  so_far own (suc i) l =
      let rec = so_far own i (omega arith) in
      let x = best_in value v ever (take i a.moves) in
      let one = step own i l x rec.1 in
      let p = d.moves in
      let e : best_in value v ever (take (suc i) a.moves) ≡ cond (meant_from v (move_at a i)) (better value x (move_at a i).to) x =
      ap (best_in value v ever) (take-suc a.moves i no_move (omega arith)) ∙ best-snoc value v ever (take i a.moves) (move_at a i) in
      rw (e, rec.0) one

  -- and for any other
  none_so_far : is_controller (owner_at a v) ≡ false → (i : ℕ) → i ≤ m → best_below owners costs froms tos values i v ≡ 65535
  unfolding best_below own_move
  none_so_far other zero l = refl
  none_so_far other (suc i) l = rw (none_so_far other i (omega arith), d.from i l) (go (ℕ_discrete (move_at a i).from v))
    where
      go : Dec ((move_at a i).from ≡ v)
          → cond (eqb (move_at a i).from v && ((eqb (get_or costs i 0) 0 && eqb (get_or owners (move_at a i).from 0) 0) && is_better values 65535 (get_or tos i 0))) (get_or tos i 0) 65535 ≡ 65535
      go (yes z) = rw (z, owner-test a n m owners marks costs froms tos d v inside, other, and-false, eq-eqb v v refl)
      go (no z) = rw (ne_eqb (move_at a i).from v z)

  pub chosen-is-best : best_below owners costs froms tos values m v ≡ number_of (best_at a value v)
  unfolding best_at best_as number_of
  chosen-is-best = go (owner_at a v) refl
    where
      all : take m a.moves ≡ a.moves
      all = let p = d.moves in take_all m a.moves (omega arith)

      go : (o : Owner) → owner_at a v ≡ o → best_below owners costs froms tos values m v ≡ number_of (best_as o a value v)
      go controller own = (so_far own m (omega arith)).0 ∙ ap (λ (ms : List Move). number_of (best_in value v ever ms)) all
      go environment own = none_so_far (ap is_controller own) m (omega arith)
      go nobody own = none_so_far (ap is_controller own) m (omega arith)

pub choosing-done : {n m : ℕ} {owners costs froms tos values choices choices' : List ℕ} → Within n m costs froms tos
    → {cleared : List ℕ} → Stays n choices cleared → Choosing n owners costs froms tos values m cleared choices' → Chosen n m owners costs froms tos values choices choices'
choosing-done {n} {m} {owners} {costs} {froms} {tos} {values} w first h =
    record {
      rows = λ a marks value d valued v l. h.at v l ∙ chosen-is-best a n m owners marks costs froms tos values value d valued w v l;
      stay = λ j l. h.stay j l ∙ first j l;
    }

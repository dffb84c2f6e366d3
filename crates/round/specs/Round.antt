-- What a round's functions leave in their rows, as numbers. The laws that make tables of placements of them stand in
-- HeldLaws.
use Rattle.std.specs.Prelude.{ℕ, ◌≡◌, refl, Bool, false, cond, not, ◌&&◌, List, get_or, eqb}
use Rattle.game.specs.Table.{of_kind}
use Rattle.rows.specs.Rows.{Filled}
use Rattle.rows.specs.Numbers.{free}
use Rattle.rows.specs.Filling.{set_if}
use Rattle.search.specs.Below.{count_below, bit}

-- a round takes v: it is flagged, and not placed
unfoldable pub taken : (flags values : List ℕ) → ℕ → Bool
taken flags values v = eqb (get_or flags v 0) 1 && free values v

-- round (k, s): what it takes has value k and step s, everything else stays, and the answer counts what it takes
pub record Placing (n : ℕ) (flags : List ℕ) (k s : ℕ) (values steps values' steps' : List ℕ) (count : ℕ) : Type 0 where
  pub value : Filled values values' n (λ v. cond (taken flags values v) k (get_or values v 0))
  pub step : Filled steps steps' n (λ v. cond (taken flags values v) s (get_or steps v 0))
  pub counted : count ≡ count_below (taken flags values) n

-- the same at the one position v
pub record PlacingAt (v : ℕ) (flags : List ℕ) (k s : ℕ) (values steps values' steps' : List ℕ) (count : ℕ) : Type 0 where
  pub value : values' ≡ set_if (taken flags values v) v k values
  pub step : steps' ≡ set_if (taken flags values v) v s steps
  pub counted : count ≡ bit (taken flags values v)

-- the i-th move decides whether the position that it leaves is ready: a meant move, at O into a position that is not
-- placed, elsewhere into one that is. No move decides an R, which has none that is meant.
unfoldable pub decides : (owners costs froms tos values : List ℕ) → ℕ → Bool
decides owners costs froms tos values i =
    eqb (get_or costs i 0) 0
    && cond (eqb (get_or owners (get_or froms i 0) 0) 0) (free values (get_or tos i 0)) (not (free values (get_or tos i 0)))

-- the flag of a position with this owner before any of its moves is seen
unfoldable pub first_flag : ℕ → ℕ
first_flag owner = cond (eqb owner 0) 1 0

-- the flag of v: at O it is ready if no move decides it, elsewhere if one does
unfoldable pub ready_flag : List ℕ → ℕ → Bool → ℕ
ready_flag owners v decided = cond (eqb (get_or owners v 0) 0) (bit (not decided)) (bit decided)

-- the i-th move is a disturbance into value k
unfoldable pub disturbs : (costs tos values : List ℕ) → ℕ → ℕ → Bool
disturbs costs tos values k i = not (eqb (get_or costs i 0) 0) && eqb (get_or values (get_or tos i 0) 0) k

-- the i-th move is of the kind that is sought, and its target shows what the position that it leaves seeks
unfoldable pub meets : (meant : Bool) (seeks shows costs froms tos : List ℕ) → ℕ → Bool
meets meant seeks shows costs froms tos i = of_kind meant (get_or costs i 0) && eqb (get_or seeks (get_or froms i 0) 0) (get_or shows (get_or tos i 0) 0)

pub ready-flag-first : (owners : List ℕ) (v : ℕ) → ready_flag owners v false ≡ first_flag (get_or owners v 0)
unfolding ready_flag first_flag
ready-flag-first owners v = refl

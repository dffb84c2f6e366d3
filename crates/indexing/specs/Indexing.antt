-- Indexing (document 02, order 9): "given such a chart, answer its index"; "a blank mark counts as 0"; "21 .. a chart of another sort, tested after 9"
-- and 17.
use Rattle.std.specs.Prelude.{ℕ, ◌≡◌, Bool, true, false, cond, ◌&&◌, not, List, get_or, leb, eqb, Result, Ok, Err}
use Rattle.search.specs.Below.{some_below}
use Rattle.game.specs.Arena.{Arena, Owner, controller, environment, nobody, size, owner_at}
use Rattle.rows.specs.Rows.{RowsOf}
use Rattle.chart.specs.Meaning.{arena_of}
use Rattle.chart.specs.Examined.{examined}
use Rattle.numbering.specs.Numbering.{index_of}
use Rattle.rows.specs.declared.Chart.{Chart}
use Rattle.refusal.specs.declared.Misdrawn.{Misdrawn}
use Rattle.refusal.specs.declared.Refusal.{Refusal}
use Rattle.refusal.specs.declared.Refusal.TheVariants.{Chart as OfChart, NotSmall}

-- a position of rest
unfoldable pub is_rest : Owner → Bool
is_rest controller = false
is_rest environment = false
is_rest nobody = true

-- at most 3 positions, and none of rest
unfoldable pub is_small : Arena → Bool
is_small a = leb (size a) 3 && not (some_below (λ v. is_rest (owner_at a v)) (size a))

-- the answer for an arena
unfoldable pub indexed_arena : Arena → Result ℕ Refusal
indexed_arena a = cond (is_small a) (Ok (index_of a)) (Err NotSmall)

-- the answer to a chart
unfoldable pub indexed_by : Result Chart Misdrawn → Arena → Result ℕ Refusal
indexed_by (Err r) a = Err (OfChart r)
indexed_by (Ok chart) a = indexed_arena a

unfoldable pub indexed : List ℕ → Result ℕ Refusal
indexed text = indexed_by (examined text) (arena_of text)

-- Within the job: over decoded rows

-- some owner below n is 2, a position of rest
unfoldable pub rests_below : List ℕ → ℕ → Bool
rests_below owners n = some_below (λ v. eqb (get_or owners v 0) 2) n

pub record RowsIndexed (n m : ℕ) (owners marks costs froms tos : List ℕ) (r : Result ℕ Refusal) : Type 0 where
  pub answer : (a : Arena) → RowsOf a n m owners marks costs froms tos → r ≡ indexed_arena a

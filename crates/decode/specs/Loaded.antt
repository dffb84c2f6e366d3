-- What loading a chart leaves in the lent rows: the arena's numbers, and past them what was there before (document 01: "What lies past
-- the last line or number stays"); on a refusal nothing of a chart. The jobs lend their own local rows.
use Rattle.std.specs.Prelude.{ℕ, ◌≡◌, List, length, Result, Ok, Err}
use Rattle.rows.specs.Rows.{Ascending, RowIs, RowsOf, Stays}
use Rattle.game.specs.Arena.{Arena}
use Rattle.chart.specs.Meaning.{arena_of}
use Rattle.chart.specs.Examined.{examined}
use Rattle.rows.specs.Holding.{RowsHold}
use Rattle.rows.specs.declared.Chart.{Chart}
use Rattle.rows.specs.declared.Rows.{Rows}
use Rattle.refusal.specs.declared.Misdrawn.{Misdrawn}

-- the rows hold the arena, and what lies past its numbers stays
pub record Loaded (a : Arena) (n m : ℕ) (owners₀ owners marks₀ marks costs₀ costs froms₀ froms tos₀ tos : List ℕ) : Type 0 where
  pub rows : RowsOf a n m owners marks costs froms tos
  pub owners-past : Stays n owners₀ owners
  pub marks-past : Stays n marks₀ marks
  pub costs-past : Stays m costs₀ costs
  pub froms-past : Stays m froms₀ froms
  pub tos-past : Stays m tos₀ tos

-- every row without a chart: 0 throughout in the rows of bytes, 65,535 in those of positions
pub record Cleared (owners marks costs froms tos : List ℕ) : Type 0 where
  pub owners-clear : RowIs owners (length owners) (λ v. 0)
  pub marks-clear : RowIs marks (length marks) (λ v. 0)
  pub costs-clear : RowIs costs (length costs) (λ v. 0)
  pub froms-clear : RowIs froms (length froms) (λ v. 65535)
  pub tos-clear : RowIs tos (length tos) (λ v. 65535)

-- the answer is the examination's; an accepted chart's arena is in the rows, and a refusal clears them
pub record LoadIs (text : List ℕ) (r : Result Chart Misdrawn) (owners₀ owners marks₀ marks costs₀ costs froms₀ froms tos₀ tos : List ℕ) : Type 0 where
  pub answer : r ≡ examined text
  pub taken : (chart : Chart) → r ≡ Ok chart → Loaded (arena_of text) chart.positions chart.moves owners₀ owners marks₀ marks costs₀ costs froms₀ froms tos₀ tos
  pub refused : (s : Misdrawn) → r ≡ Err s → Cleared owners marks costs froms tos

-- rows that hold the text's arena, are those of an accepted text, and have the moves by the positions that they leave
pub record RowsTaken (text : List ℕ) (rows : Rows) : Type 0 where
  pub accepted : examined text ≡ Ok (record { positions = rows.positions; moves = rows.moves })
  pub holds : RowsHold rows (arena_of text)
  pub ascending : Ascending rows.moves rows.froms.now

-- the answer: the rows of an accepted text, or its refusal
pub record RowsLoaded (text : List ℕ) (r : Result Rows Misdrawn) : Type 0 where
  pub taken : (rows : Rows) → r ≡ Ok rows → RowsTaken text rows
  pub refused : (s : Misdrawn) → r ≡ Err s → examined text ≡ Err s

-- Listing (document 02, order 2): a chart into the sheet of its good moves. "The job answers the count of lines, and refusal 10 looks only
-- at them", after 1 to 9 and 17. The sheet is computed here, by the rounds; that it is specs/Sheet.antt's is shown in specs/SheetLaws.antt.
use Rattle.std.specs.Prelude.{ℕ, ◌*◌, ◌≡◌, cond, List, ◌++◌, length, get_or, drop, leb, Result, Ok, Err}
use Rattle.rows.specs.Rows.{RowsOf}
use Rattle.line.specs.Joined.{joined}
use Rattle.game.specs.Arena.{Arena, no_move}
use Rattle.game.specs.GoodMoves.{good_moves}
use Rattle.chart.specs.Meaning.{arena_of}
use Rattle.chart.specs.Examined.{examined}
use Rattle.refusal.specs.declared.Refusal.{Refusal}
use Rattle.refusal.specs.declared.Refusal.TheVariants.{Chart as OfChart, Short}
use Rattle.rows.specs.declared.Chart.{Chart}
use Rattle.refusal.specs.declared.Misdrawn.{Misdrawn}
use Rattle.listing.specs.Sheet.{good_line}

-- the count of good moves, and their lines
unfoldable pub good_count : Arena → ℕ
good_count a = length (good_moves a)

unfoldable pub good_sheet : Arena → List ℕ
good_sheet a = joined (λ i. good_line (get_or (good_moves a) i no_move)) (good_count a)

-- the answer for an arena and a buffer of this length
unfoldable pub listed_rows : Arena → ℕ → Result ℕ Refusal
listed_rows a room = cond (leb (good_count a * 12) room) (Ok (good_count a)) (Err Short)

-- the answer to a chart and such a buffer
unfoldable pub listed_by : Result Chart Misdrawn → Arena → ℕ → Result ℕ Refusal
listed_by (Err r) a room = Err (OfChart r)
listed_by (Ok chart) a room = listed_rows a room

unfoldable pub listed : List ℕ → ℕ → Result ℕ Refusal
listed text room = listed_by (examined text) (arena_of text) room

-- listing the good moves of decoded rows
pub record RowsListed (n m : ℕ) (owners marks costs froms tos out out' : List ℕ) (r : Result ℕ Refusal) : Type 0 where
  pub answer : (a : Arena) → RowsOf a n m owners marks costs froms tos → r ≡ listed_rows a (length out)
  pub taken : (a : Arena) → RowsOf a n m owners marks costs froms tos → (k : ℕ) → r ≡ Ok k → out' ≡ good_sheet a ++ drop (k * 12) out
  pub refused : (x : Refusal) → r ≡ Err x → out' ≡ out

-- the answer, and every byte of the buffer afterwards
pub record ListedIs (text out out' : List ℕ) (r : Result ℕ Refusal) : Type 0 where
  pub answer : r ≡ listed text (length out)
  pub taken : (k : ℕ) → r ≡ Ok k → out' ≡ good_sheet (arena_of text) ++ drop (k * 12) out
  pub refused : (x : Refusal) → r ≡ Err x → out' ≡ out

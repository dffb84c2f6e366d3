-- The way to ruin (document 02, order 6): "Given chart, choices and a position, write the play ..; the answer is the count of lines. ..
-- Refusals 10 for the row, 12 and 13 come first; 10 for the output is last. Turned away: 19, exactly when the worth there is "ever",
-- tested after 13." The count is computed here, by the rounds; that the play is way/Way's is said beside it.
use Rattle.std.specs.Prelude.{ℕ, suc, ◌*◌, ◌≡◌, cond, List, ◌++◌, length, drop, leb, ltb, Result, Ok, Err, Option, Some, None}
use Rattle.rows.specs.Rows.{RowsOf}
use Rattle.rows.specs.Numbers.{number_of, row_value}
use Rattle.game.specs.Value.{Value, fin, ever}
use Rattle.game.specs.Arena.{Arena, size}
use Rattle.game.specs.Play.{Trail, Legal, positional}
use Rattle.game.specs.Restrict.{restricted}
use Rattle.game.specs.Table.{round_value}
use Rattle.way.specs.Way.{moves, WayToRuin}
use Rattle.way.specs.Tight.{moves_left, way_after}
use Rattle.way.proofs.WayLaws.{Leading}
use Rattle.sheet_lines.specs.Lines.{pair_lines}
use Rattle.chart.specs.Meaning.{arena_of}
use Rattle.chart.specs.Examined.{examined}
use Rattle.refusal.specs.declared.Refusal.{Refusal}
use Rattle.refusal.specs.declared.Refusal.TheVariants.{Chart as OfChart, Short, Choice, Position, Ever}
use Rattle.weighing.specs.Weighing.{legal_row, WeighedRows}
use Rattle.rows.specs.declared.Chart.{Chart}
use Rattle.refusal.specs.declared.Misdrawn.{Misdrawn}
use Rattle.ruin.specs.Sheet.{way_sheet}

-- the count of lines from v, where the controller has no other choice: one more than moves are left
unfoldable pub way_count : Arena → ℕ → ℕ
way_count a v = suc (number_of (moves_left a v))

-- the answer by the worth at the position, the count of lines and the length of the buffer
unfoldable pub way_by : Value → (count room : ℕ) → Result ℕ Refusal
way_by ever count room = Err Ever
way_by (fin k) count room = cond (leb (count * 12) room) (Ok count) (Err Short)

-- the answer for an arena, a row of choices that is long enough, a position and a buffer of this length
unfoldable pub ruined_rows : Arena → List ℕ → ℕ → ℕ → Result ℕ Refusal
ruined_rows a choices v room =
    cond (legal_row a (row_value choices) (size a))
    (cond (ltb v (size a)) (way_by (round_value (restricted a (row_value choices)) v) (way_count (restricted a (row_value choices)) v) room) (Err Position))
    (Err Choice)

-- the answer to a chart, a row of choices, a position and such a buffer
unfoldable pub ruined_by : Result Chart Misdrawn → Arena → List ℕ → ℕ → ℕ → Result ℕ Refusal
ruined_by (Err r) a choices v room = Err (OfChart r)
ruined_by (Ok chart) a choices v room = cond (leb chart.positions (length choices)) (ruined_rows a choices v room) (Err Short)

unfoldable pub ruined : List ℕ → List ℕ → ℕ → ℕ → Result ℕ Refusal
ruined text choices v room = ruined_by (examined text) (arena_of text) choices v room

-- the lines written are those of the shortest way to ruin from v of the controller that makes the choices, and what lies past them stays
pub record WayWritten (a : Arena) (choices : List ℕ) (v count : ℕ) (out out' : List ℕ) : Type 0 where
  pub legal : Legal a (row_value choices)
  pub trail : Trail
  pub way : WayToRuin a (positional a (row_value choices) legal) v trail
  pub counted : count ≡ suc (moves trail)
  pub bytes : out' ≡ way_sheet v trail ++ drop (count * 12) out

-- the answer, and every byte of the buffer afterwards
pub record RuinedIs (text choices : List ℕ) (v : ℕ) (out out' : List ℕ) (r : Result ℕ Refusal) : Type 0 where
  pub answer : r ≡ ruined text choices v (length out)
  pub taken : (k : ℕ) → r ≡ Ok k → WayWritten (arena_of text) choices v k out out'
  pub refused : (x : Refusal) → r ≡ Err x → out' ≡ out

-- What the functions over rows leave

-- the lines of a way from v by lowest next positions
pub record WayLines (a : Arena) (choice : ℕ → Value) (v : ℕ) (positions led : List ℕ) (count : ℕ) : Type 0 where
  pub next : ℕ → ℕ
  pub leading : Leading (restricted a choice) next
  pub worth : ℕ
  pub is-worth : round_value (restricted a choice) v ≡ fin worth
  pub left : ℕ
  pub is-left : moves_left (restricted a choice) v ≡ fin left
  pub counted : count ≡ suc left
  pub lines : pair_lines 87 positions led count ≡ way_sheet v (way_after (round_value (restricted a choice)) next v left)

-- following a way from a position with a worth that is a number
pub record WayFollowed (n m : ℕ) (marks costs froms tos worths : List ℕ) (v : ℕ) (positions led : List ℕ) (count : ℕ) : Type 0 where
  pub way : (a : Arena) (choice : ℕ → Value) (owners : List ℕ) → WeighedRows a choice n m owners marks costs froms tos worths → WayLines a choice v positions led count

-- finding it: none if the worth is "ever"
pub record WayFound (n m : ℕ) (owners marks costs froms tos choices : List ℕ) (v : ℕ) (positions led : List ℕ) (found : Option ℕ) : Type 0 where
  pub none : (a : Arena) → RowsOf a n m owners marks costs froms tos → Legal a (row_value choices) → found ≡ None → round_value (restricted a (row_value choices)) v ≡ ever
  pub some : (a : Arena) → RowsOf a n m owners marks costs froms tos → Legal a (row_value choices) → (count : ℕ) → found ≡ Some count
      → WayLines a (row_value choices) v positions led count

-- listing it, where the choices are legal and the position is on the chart, and over rows whatever they are
pub record WayListed (n m : ℕ) (owners marks costs froms tos choices : List ℕ) (v : ℕ) (out out' : List ℕ) (r : Result ℕ Refusal) : Type 0 where
  pub answer : (a : Arena) → RowsOf a n m owners marks costs froms tos → Legal a (row_value choices)
      → r ≡ way_by (round_value (restricted a (row_value choices)) v) (way_count (restricted a (row_value choices)) v) (length out)
  pub taken : (a : Arena) → RowsOf a n m owners marks costs froms tos → Legal a (row_value choices) → (k : ℕ) → r ≡ Ok k → WayWritten a choices v k out out'
  pub refused : (x : Refusal) → r ≡ Err x → out' ≡ out

pub record RowsRuined (n m : ℕ) (owners marks costs froms tos choices : List ℕ) (v : ℕ) (out out' : List ℕ) (r : Result ℕ Refusal) : Type 0 where
  pub answer : (a : Arena) → RowsOf a n m owners marks costs froms tos → r ≡ ruined_rows a choices v (length out)
  pub taken : (a : Arena) → RowsOf a n m owners marks costs froms tos → (k : ℕ) → r ≡ Ok k → WayWritten a choices v k out out'
  pub refused : (x : Refusal) → r ≡ Err x → out' ≡ out

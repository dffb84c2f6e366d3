-- The shortest way to ruin (document 02, order 6), of the bytes that the job leaves in the lent buffer: they are the lines of "an unsafe play with
-- fewest disturbances, among those with fewest moves, among those with the lower position at the first difference", of which there is one, and its
-- cost is the worth of the controller that makes the choices. When there is none is the first demand's row for 19.
use Rattle.std.specs.Prelude.{ℕ, suc, ◌*◌, ◌≤◌, ◌<◌, ◌≡◌, List, take, drop, T, Ok}
use Rattle.rows.specs.Numbers.{row_value}
use Rattle.game.specs.Value.{fin}
use Rattle.game.specs.Arena.{size, unsafe}
use Rattle.game.specs.Play.{Trail, Legal, positional, last, cost}
use Rattle.game.specs.Worth.{WorthIs}
use Rattle.way.specs.Way.{moves, stands_after, WayToRuin}
use Rattle.chart.specs.Meaning.{arena_of}
use Rattle.ruin.specs.Sheet.{way_sheet}
use Rattle.ruin.specs.Ruin.{RuinedIs}

-- of a buffer `out` that the job left as `sheet`, with so many lines, for these choices and this position
pub record ShortestWay (text choices : List ℕ) (v : ℕ) (out sheet : List ℕ) (lines : ℕ) : Type 0 where
  pub legal : Legal (arena_of text) (row_value choices)
  pub trail : Trail
  pub is-way : WayToRuin (arena_of text) (positional (arena_of text) (row_value choices) legal) v trail
  -- there is no other
  pub only : (u : Trail) → WayToRuin (arena_of text) (positional (arena_of text) (row_value choices) legal) v u → u ≡ trail
  -- its cost is the worth there
  pub worth : WorthIs (arena_of text) (positional (arena_of text) (row_value choices) legal) v (fin (cost (arena_of text) v trail))
  -- "the answer is the count of lines", one for each position of the play, of which there are no more than on the chart: none comes twice
  pub counted : lines ≡ suc (moves trail)
  pub few : lines ≤ size (arena_of text)
  pub not-twice : (i j : ℕ) → i < j → j ≤ moves trail → stands_after v trail i ≡ stands_after v trail j → ⊥
  -- only the last is unsafe
  pub ends-unsafe : T (unsafe (arena_of text) (last v trail))
  pub safe-before : (i : ℕ) → i < moves trail → T (unsafe (arena_of text) (stands_after v trail i)) → ⊥
  -- the lines, 12 bytes each, are the play's, and what lies past them stayed
  pub sheet-is : take (lines * 12) sheet ≡ way_sheet v trail
  pub past : drop (lines * 12) sheet ≡ drop (lines * 12) out

-- the request
abbrev pub TheShortestWayToRuin : Type 0
TheShortestWayToRuin = (text choices : List ℕ) (v : ℕ) (out sheet : List ℕ) (lines : ℕ) → RuinedIs text choices v out sheet (Ok lines) → ShortestWay text choices v out sheet lines

-- Rows and the charts that they hold.
use Rattle.std.specs.Prelude.{ℕ, ◌≡◌, get_or}
use Rattle.game.specs.Arena.{Arena}
use Rattle.rows.specs.Rows.{RowsOf}
use Rattle.rows.specs.Held.{held, held-same, held_arena}
use Rattle.rows.specs.declared.Rows.{Rows}

-- the rows hold this arena
abbrev pub RowsHold : Rows → Arena → Type 0
RowsHold r a = RowsOf a r.positions r.moves r.owners.now r.marks.now r.costs.now r.froms.now r.tos.now

-- the columns of a move line
abbrev pub cost_at : Rows → ℕ → ℕ
cost_at r i = get_or r.costs.now i 0

abbrev pub from_at : Rows → ℕ → ℕ
from_at r i = get_or r.froms.now i 0

abbrev pub to_at : Rows → ℕ → ℕ
to_at r i = get_or r.tos.now i 0

-- the arena that they hold, and the only one
abbrev pub arena : Rows → Arena
arena r = held_arena r.positions r.moves r.owners.now r.marks.now r.costs.now r.froms.now r.tos.now

pub holds : (r : Rows) → RowsHold r (arena r)
holds r = held r.chart

pub only : (r : Rows) (a : Arena) → RowsHold r a → a ≡ arena r
only r a d = held-same a d

pub holds-some : (r : Rows) → (a : Arena) × RowsHold r a
holds-some r = (arena r, holds r)

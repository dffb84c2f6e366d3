-- This crate's definitions, said of a chart's rows as one struct.
use Rattle.std.specs.Prelude.{ℕ, List, Option, Result}
use Rattle.refusal.specs.declared.Refusal.{Refusal}
use Rattle.rows.specs.declared.Rows.{Rows}
use Rattle.ruin.specs.Ruin.{RowsRuined, WayFollowed, WayFound, WayListed}

abbrev pub WayFollowedOf : Rows → (worths : List ℕ) (v : ℕ) (positions led : List ℕ) (count : ℕ) → Type 0
WayFollowedOf r = WayFollowed r.positions r.moves r.marks.now r.costs.now r.froms.now r.tos.now

abbrev pub WayFoundOf : Rows → (choices : List ℕ) (v : ℕ) (positions led : List ℕ) (found : Option ℕ) → Type 0
WayFoundOf r = WayFound r.positions r.moves r.owners.now r.marks.now r.costs.now r.froms.now r.tos.now

abbrev pub WayListedOf : Rows → (choices : List ℕ) (v : ℕ) (out out' : List ℕ) → Result ℕ Refusal → Type 0
WayListedOf r = WayListed r.positions r.moves r.owners.now r.marks.now r.costs.now r.froms.now r.tos.now

abbrev pub RuinedOf : Rows → (choices : List ℕ) (v : ℕ) (out out' : List ℕ) → Result ℕ Refusal → Type 0
RuinedOf r = RowsRuined r.positions r.moves r.owners.now r.marks.now r.costs.now r.froms.now r.tos.now

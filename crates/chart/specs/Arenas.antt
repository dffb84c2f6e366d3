-- The lists of a text's arena: how long they are, and what stands at each place.
use Rattle.std.specs.Prelude.{ℕ, ◌+◌, ◌<◌, ◌≡◌, List, length}
use Rattle.std.proofs.Common.{arith, ap, ◌∙◌}
use Rattle.game.specs.Arena.{size, position_at, move_at, nowhere, no_move}
use Rattle.line.specs.JoinedLaws.{on-lines-length, on-lines-at}
use Rattle.chart.specs.Text.{positions_of, moves_of}
use Rattle.chart.specs.Meaning.{position_on, move_on, arena_of}

-- the counts, the positions and the moves of the arena that a text means
pub arena-size : (text : List ℕ) → size (arena_of text) ≡ positions_of text
unfolding arena_of
arena-size text = on-lines-length (position_on text) (positions_of text) 1

pub arena-moves : (text : List ℕ) → length (arena_of text).moves ≡ moves_of text
unfolding arena_of
arena-moves text = on-lines-length (move_on text) (moves_of text) (positions_of text + 1)

pub arena-position : (text : List ℕ) (v : ℕ) → v < positions_of text → position_at (arena_of text) v ≡ position_on text (v + 1)
unfolding arena_of
arena-position text v h =
    let e : 1 + v ≡ v + 1 = omega arith in
    on-lines-at (position_on text) (positions_of text) 1 v nowhere h ∙ ap (position_on text) e

pub arena-move : (text : List ℕ) (i : ℕ) → i < moves_of text → move_at (arena_of text) i ≡ move_on text (positions_of text + 1 + i)
unfolding arena_of
arena-move text i h = on-lines-at (move_on text) (moves_of text) (positions_of text + 1) i no_move h

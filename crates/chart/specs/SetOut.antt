-- How the text of an arena that has a chart reads: on each line what was set out there. The lines stand one after the other, twelve bytes each,
-- so that a line's bytes lie where its number says.
use Rattle.std.specs.Prelude.{ℕ, ◌+◌, ◌*◌, ◌<◌, ◌≡◌}
use Rattle.std.proofs.Common.{arith, ◌∙◌}
use Rattle.std.proofs.Math.Path.{refl, ap}
use mathlib.Core.List.{List, [], ◌++◌, append_assoc}
use Rattle.std.proofs.Math.ListN.{length, length-append}
use Rattle.field.specs.declared.Field.TheVariants.{Number}
use Rattle.line.specs.Joined.{joined}
use Rattle.line.specs.LineLaws.{line-length}
use Rattle.line.specs.JoinedLaws.{joined_length, joined-part}
use Rattle.game.specs.Arena.{Arena, Position, Move, size, owner_at, position_at, move_at, no_move}
use Rattle.game.proofs.Members.{at-member}
use Rattle.chart.specs.Meaning.{owner_letter, cost_letter, chart_line, position_text, move_text, chart_text, Chartable}
use Rattle.chart.specs.Lines.{Reads, bytes_read}

-- of this arena, line by line
pub record SetOut (a : Arena) (text : List ℕ) : Type 0 where
  pub lines : length text ≡ (1 + size a + length a.moves) * 12
  pub header : Reads text 0 72 (size a) (Number (length a.moves))
  pub position : (v : ℕ) → v < size a → Reads text (v + 1) (owner_letter (owner_at a v)) v (Number (position_at a v).mark)
  pub move : (i : ℕ) → i < length a.moves → Reads text (size a + 1 + i) (cost_letter (move_at a i).cost) (move_at a i).from (Number (move_at a i).to)

position-twelve : (v : ℕ) (p : Position) → length (position_text v p) ≡ 12
unfolding position_text
position-twelve v p = line-length (owner_letter p.owner) _

move-twelve : (m : Move) → length (move_text m) ≡ 12
unfolding move_text
move-twelve m = line-length (cost_letter m.cost) _

module _ (a : Arena) (c : Chartable a) where
  position_lines : ℕ → List ℕ
  position_lines = joined (λ v. position_text v (position_at a v))

  move_lines : ℕ → List ℕ
  move_lines = joined (λ i. move_text (move_at a i))

  head : List ℕ
  head = chart_line 72 (size a) (length a.moves)

  text-parts : chart_text a ≡ head ++ (position_lines (size a) ++ move_lines (length a.moves))
  unfolding chart_text head position_lines move_lines
  text-parts = refl

  head-length : length head ≡ 12
  unfolding head
  head-length = line-length 72 _

  positions-length : length (position_lines (size a)) ≡ size a * 12
  unfolding position_lines
  positions-length = joined_length _ 12 (λ v. position-twelve v (position_at a v)) (size a)

  moves-length : length (move_lines (length a.moves)) ≡ length a.moves * 12
  unfolding move_lines
  moves-length = joined_length _ 12 (λ i. move-twelve (move_at a i)) (length a.moves)

  position-reads : (v : ℕ) → v < size a → Reads (chart_text a) (v + 1) (owner_letter (owner_at a v)) v (Number (position_at a v).mark)
  unfolding position_lines position_text
  position-reads v h =
      let part = joined-part _ 12 (λ u. position-twelve u (position_at a u)) (size a) v h in
      let moves = move_lines (length a.moves) in
      bytes_read (chart_text a) (head ++ position_lines v) (part.0 ++ moves) (v + 1) (owner_letter (owner_at a v)) v (position_at a v).mark (omega (arith, c.few-positions)) (omega (arith, c.mark v h))
      (length-append head (position_lines v) ∙ omega (arith, head-length, part.2))
      (text-parts ∙ ap (λ (l : List ℕ). head ++ (l ++ moves)) part.1 ∙ simp append_assoc)

  move-reads : (i : ℕ) → i < length a.moves → Reads (chart_text a) (size a + 1 + i) (cost_letter (move_at a i).cost) (move_at a i).from (Number (move_at a i).to)
  unfolding move_lines move_text
  move-reads i h =
      let part = joined-part _ 12 (λ j. move-twelve (move_at a j)) (length a.moves) i h in
      let member = at-member no_move a.moves i h in
      let before = head ++ (position_lines (size a) ++ move_lines i) in
      bytes_read (chart_text a) before part.0 (size a + 1 + i) (cost_letter (move_at a i).cost) (move_at a i).from (move_at a i).to
      (omega (arith, c.well-formed.from-position (move_at a i) member, c.few-positions)) (omega (arith, c.well-formed.to-position (move_at a i) member, c.few-positions))
      (length-append head _ ∙ omega (arith, head-length, length-append (position_lines (size a)) (move_lines i), positions-length, part.2))
      (text-parts ∙ ap (λ (l : List ℕ). head ++ (position_lines (size a) ++ l)) part.1 ∙ simp append_assoc)

  pub set_out : SetOut a (chart_text a)
  unfolding head
  set_out = record {
    lines =
        ap length text-parts ∙ length-append head _
        ∙ omega (arith, head-length, length-append (position_lines (size a)) (move_lines (length a.moves)), positions-length, moves-length);
    header =
        bytes_read (chart_text a) [] (position_lines (size a) ++ move_lines (length a.moves)) 0 72 (size a) (length a.moves)
        (omega (arith, c.few-positions)) (omega (arith, c.few-moves)) refl text-parts;
    position = position-reads;
    move = move-reads;
  }

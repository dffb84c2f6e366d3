-- Texts and arenas mean each other: an accepted text with its blank marks filled is the text of its arena, and every arena that is
-- well-formed, within the limits, with marks 0 or 1 and strictly rising moves has a text that is accepted and means it. An accepted line
-- without a blank has the bytes that set out what it says (specs/Lines.antt); filling changes neither the answer nor the arena
-- (specs/BlankLaws.antt); a line of an arena's text reads as what was set out (specs/SetOut.antt), so that no refusal applies.
use Prim.Native.Nat.{ℕ, zero, suc, ◌+◌, ◌-◌, ◌*◌, ◌≤◌, ◌<◌}
use native.Mathlib.Omega.{arith}
use Rattle.std.proofs.Common.{add_comm, ap₂, ◌∙◌, subst₂, drop_of_length-le}
use Rattle.std.specs.Prelude.{◌≡◌, ◌⊎◌, Bool, T, Ok}
use Rattle.std.proofs.Math.Path.{refl, sym, ap, subst}
use Rattle.std.proofs.Math.Logic.{inl, inr, ⊎_elim}
use Rattle.std.proofs.Math.Bool.{true, false}
use mathlib.Core.List.Memᴰ
use mathlib.Core.List.{List, ◌++◌, append-nil}
use Rattle.std.proofs.Math.ListN.{length, drop}
use Rattle.std.proofs.Math.Dec.{eqb, leb, eqb-suc-zero}
use borrow.Author.Tests.{eqb-true, eqb-false, leb-true, leb-false}
use Rattle.game.specs.Arena.{Arena, Move, Owner, controller, environment, nobody, size, owner_at, position_at, move_at, nowhere, no_move, meant_move, Meant, Disturbance, may_be_disturbed, has_meant}
use Rattle.field.specs.declared.Field.TheVariants.{Number}
use Rattle.chart.specs.Text.{letter_at, first_at, second_at, mark_of, mark_at, field_number, positions_of, moves_of, from_at, to_at}
use Rattle.chart.specs.Meaning.{owner_of, owner_letter, cost_of, cost_letter, position_on, move_on, arena_of, chart_line, position_text, move_text, chart_text, Rises, Chartable}
use Rattle.chart.specs.Examined.{examined}
use Rattle.chart.specs.Good.{GoodChart, accepted-good}
use Rattle.game.proofs.Members.{member-at, at-member}
use Rattle.line.specs.Joined.{joined, on_lines}
use Rattle.line.specs.JoinedLaws.{joined-stands, on-lines-list}
use Rattle.chart.specs.Arenas.{arena-size, arena-moves, arena-position, arena-move}
use Rattle.chart.specs.Lines.{Reads, number-again, reads-formed, reads_bytes}
use Rattle.chart.specs.SetOut.{SetOut, set_out}
use Rattle.chart.specs.Blanks.{WithoutBlanks, filling}
use Rattle.chart.specs.BlankLaws.{plain-mark, filling-without-blanks, filling-differs, examined-same, arena-same}
use Rattle.chart.specs.Refusals.{PositionLine, MoveLine, HeaderLetter, PositionLetter, MoveLetter, Allowed, BadLength, BadForm, OutsideLimits, WrongCount, OutOfSequence, BadEndpoint, BadDisturbance, MeantAtRest, OutOfOrder, WithoutMeant, Applies}
use Rattle.chart.specs.LineExact.{position-second, other-second, form-good}
use Rattle.chart.specs.Exact.{accepted-exactly}
use Rattle.refusal.specs.declared.Misdrawn.{Misdrawn}
use Rattle.refusal.specs.declared.Misdrawn.TheVariants.{Length, Form, Limits, Count, Sequence, Endpoint, Disturbed, Resting, Order, NoMeant}
use Rattle.rows.specs.declared.Chart.{Chart}

-- letters stand for owners and costs
letter-owner : (letter : ℕ) → PositionLetter letter → owner_letter (owner_of letter) ≡ letter
unfolding owner_of owner_letter
letter-owner letter = ⊎_elim (λ e. rw e) (⊎_elim (λ e. rw e) (λ e. rw e))

letter-cost : (letter : ℕ) → MoveLetter letter → cost_letter (cost_of letter) ≡ letter
unfolding cost_of cost_letter
letter-cost letter = ⊎_elim (λ e. rw e) (λ e. rw e)

-- the bytes of an accepted header, position line and move line, where no mark is blank
module _ (text : List ℕ) (g : GoodChart text) (w : WithoutBlanks text) where
  lines : length text ≡ (1 + positions_of text + moves_of text) * 12
  lines = g.limits.lines

  header-bytes : text ≡ chart_line 72 (positions_of text) (moves_of text) ++ drop 12 text
  unfolding positions_of moves_of
  header-bytes =
      reads_bytes text 0 72 (positions_of text) (moves_of text) (omega (arith, lines))
      (record { letter-is = g.form.allowed; first-is = g.form.first-number; second_is = g.form.second-number; end_is = g.form.ends })

  position-bytes : (v : ℕ) → v < positions_of text → drop (12 + v * 12) text ≡ position_text v (position_at (arena_of text) v) ++ drop (12 + suc v * 12) text
  unfolding position_text position_on from_at
  position-bytes v h =
      let line = g.position (v + 1) (omega arith) (omega arith) in
      let plain : mark_at text (v + 1) ≡ second_at text (v + 1) = plain-mark text (v + 1) (w (v + 1) (omega arith, omega arith)) in
      let number : field_number (first_at text (v + 1)) ≡ v = line.in_order ∙ omega arith in
      let here : 12 + v * 12 ≡ (v + 1) * 12 = omega arith in
      let next : (v + 1 + 1) * 12 ≡ 12 + suc v * 12 = omega arith in
      rw (arena-position text v h, letter-owner (letter_at text (v + 1)) line.form.allowed)
      (ap (λ (k : ℕ). drop k text) here
      ∙ reads_bytes text (v + 1) (letter_at text (v + 1)) v (field_number (mark_at text (v + 1))) (omega (arith, lines))
      (record { letter-is = refl; first-is = line.form.first-number ∙ ap Number number; second_is = sym plain ∙ line.form.second-number; end_is = line.form.ends })
      ∙ ap (λ (k : ℕ). chart_line (letter_at text (v + 1)) v (field_number (mark_at text (v + 1))) ++ drop k text) next)

  move-bytes : (i : ℕ) → i < moves_of text → drop (12 + positions_of text * 12 + i * 12) text ≡ move_text (move_at (arena_of text) i) ++ drop (12 + positions_of text * 12 + suc i * 12) text
  unfolding move_text move_on from_at to_at
  move-bytes i h =
      let j = positions_of text + 1 + i in
      let line = g.move j (omega arith) (omega arith) in
      let here : 12 + positions_of text * 12 + i * 12 ≡ j * 12 = omega arith in
      let next : (j + 1) * 12 ≡ 12 + positions_of text * 12 + suc i * 12 = omega arith in
      rw (arena-move text i h, letter-cost (letter_at text j) line.form.allowed)
      (ap (λ (k : ℕ). drop k text) here
      ∙ reads_bytes text j (letter_at text j) (from_at text j) (to_at text j) (omega (arith, lines))
      (record { letter-is = refl; first-is = line.form.first-number; second_is = line.form.second-number; end_is = line.form.ends })
      ∙ ap (λ (k : ℕ). chart_line (letter_at text j) (from_at text j) (to_at text j) ++ drop k text) next)

  good-faithful : chart_text (arena_of text) ≡ text
  unfolding chart_text
  good-faithful =
      let n = positions_of text in
      let m = moves_of text in
      let positions = joined (λ v. position_text v (position_at (arena_of text) v)) n in
      let moves = joined (λ i. move_text (move_at (arena_of text) i)) m in
      let past : length text ≤ 12 + n * 12 + m * 12 = omega (arith, lines) in
      rw (arena-size, arena-moves)
      (sym
      (header-bytes
      ∙ ap (λ (l : List ℕ). chart_line 72 n m ++ l)
      (joined-stands _ 12 12 text n position-bytes
      ∙ ap (λ (l : List ℕ). positions ++ l) (joined-stands _ 12 (12 + n * 12) text m move-bytes ∙ ap (λ (l : List ℕ). moves ++ l) (drop_of_length-le text past) ∙ append-nil moves))))

-- an accepted text, its blank marks filled, is the text of its arena
pub text-faithful : (text : List ℕ) (chart : Chart) → examined text ≡ Ok chart → chart_text (arena_of text) ≡ filling text
text-faithful text chart e =
    let d = filling-differs text in
    let good = (accepted-good (filling text) chart (sym (examined-same text (filling text) d) ∙ e)).0 in
    ap chart_text (arena-same text (filling text) d) ∙ good-faithful (filling text) good (filling-without-blanks text)

-- owners and costs stand for letters
owner-letter : (o : Owner) → owner_of (owner_letter o) ≡ o
unfolding owner_of owner_letter
owner-letter controller = refl
owner-letter environment = refl
owner-letter nobody = refl

cost-letter : (cost : ℕ) → cost < 2 → cost_of (cost_letter cost) ≡ cost
unfolding cost_of cost_letter
cost-letter zero h = refl
cost-letter (suc zero) h = refl
cost-letter (suc (suc cost)) h = absurd (omega arith)

owner-letters : (o : Owner) → PositionLetter (owner_letter o)
unfolding owner_letter
owner-letters controller = inl refl
owner-letters environment = inr (inl refl)
owner-letters nobody = inr (inr refl)

cost-letters : (cost : ℕ) → MoveLetter (cost_letter cost)
unfolding cost_letter
cost-letters zero = inl refl
cost-letters (suc cost) = inr (simp (eqb-suc-zero cost))

disturbance-cost : (cost : ℕ) → cost < 2 → cost_letter cost ≡ 68 → 1 ≡ cost
unfolding cost_letter
disturbance-cost zero h e = absurd (omega arith)
disturbance-cost (suc zero) h e = refl
disturbance-cost (suc (suc cost)) h e = absurd (omega arith)

meant-cost : (cost : ℕ) → cost_letter cost ≡ 77 → 0 ≡ cost
unfolding cost_letter
meant-cost zero e = refl
meant-cost (suc cost) e = let z : ◌≡◌ {A = ℕ} 68 77 = simp (eqb-suc-zero cost) at e in absurd (omega arith)

environment-letter : (o : Owner) → owner_letter o ≡ 76 → T (may_be_disturbed o) → ⊥
unfolding owner_letter
environment-letter controller e t = omega arith
environment-letter environment e t = t
environment-letter nobody e t = omega arith

nobody-letter : (o : Owner) → owner_letter o ≡ 82 → T (has_meant o) → ⊥
unfolding owner_letter
nobody-letter controller e t = omega arith
nobody-letter environment e t = omega arith
nobody-letter nobody e t = t

meant-owner : (o : Owner) → (owner_letter o ≡ 79) ⊎ (owner_letter o ≡ 76) → T (has_meant o)
unfolding owner_letter
meant-owner controller w = tt
meant-owner environment w = tt
meant-owner nobody w = absurd (⊎_elim (λ e. omega arith) (λ e. omega arith) w)

module _ (a : Arena) (c : Chartable a) (text : List ℕ) (s : SetOut a text) where
  counted : positions_of text ≡ size a
  unfolding positions_of
  counted = (number-again (first_at text 0) (size a) s.header.first-is).1

  moved : moves_of text ≡ length a.moves
  unfolding moves_of
  moved = (number-again (second_at text 0) (length a.moves) s.header.second_is).1

  -- the line of a position, and of a move
  position-line : (i : ℕ) → PositionLine text i → (v : ℕ) × (v + 1 ≡ i) × (v < size a) × Reads text i (owner_letter (owner_at a v)) v (Number (position_at a v).mark)
  position-line i p =
      let e : i - 1 + 1 ≡ i = omega (arith, p.0) in
      let h : i - 1 < size a = omega (arith, p.0, p.1, counted) in
      (i - 1, e, h, subst (λ (k : ℕ). Reads text k (owner_letter (owner_at a (i - 1))) (i - 1) (Number (position_at a (i - 1)).mark)) e (s.position (i - 1) h))

  move-line : (i : ℕ) → MoveLine text i →
      (k : ℕ) × (size a + 1 + k ≡ i) × (k < length a.moves) × Reads text i (cost_letter (move_at a k).cost) (move_at a k).from (Number (move_at a k).to)
  move-line i p =
      let k = i - (size a + 1) in
      let e : size a + 1 + k ≡ i = omega (arith, p.0, counted) in
      let h : k < length a.moves = omega (arith, p.0, p.1, counted, moved) in
      (k, e, h, subst (λ (j : ℕ). Reads text j (cost_letter (move_at a k).cost) (move_at a k).from (Number (move_at a k).to)) e (s.move k h))

  -- its mark, as a field and as a number
  mark-line : (i v : ℕ) → Reads text i (owner_letter (owner_at a v)) v (Number (position_at a v).mark) → mark_at text i ≡ Number (position_at a v).mark
  unfolding mark_at mark_of
  mark-line i v r = ap mark_of r.second_is

  -- so no refusal applies
  length-fine : BadLength text → ⊥
  unfolding BadLength
  length-fine =
      ⊎_elim (λ e. omega (arith, s.lines))
      (⊎_elim (λ l. omega (arith, s.lines, c.few-positions, c.few-moves)) (λ no. no (omega (arith, s.lines))))

  form-fine : (i : ℕ) → BadForm text i → ⊥
  unfolding BadForm Allowed
  form-fine i bad = go (eqb i 0) (leb i (positions_of text)) refl refl
    where
      go : (x y : Bool) → eqb i 0 ≡ x → leb i (positions_of text) ≡ y → ⊥
      go true y u v =
          let e : 0 ≡ i = sym (eqb-true i 0 u) in
          let r = subst (λ (k : ℕ). Reads text k 72 (size a) (Number (length a.moves))) e s.header in
          form-good (HeaderLetter (letter_at text i)) text i (second_at text i) (other-second text i (λ q. omega (arith, q.0))) (inl (sym e, r.letter-is)) (reads-formed HeaderLetter text i 72 (size a) _ (second_at text i) _ r r.second_is refl) bad
      go false true u v =
          let other : i ≡ 0 → ⊥ = eqb-false i 0 u in
          let p : PositionLine text i = (omega arith, leb-true i (positions_of text) v) in
          let w = position-line i p in
          let f = reads-formed PositionLetter text i _ _ _ (mark_at text i) _ w.3 (mark-line i w.0 w.3) (owner-letters (owner_at a w.0)) in
          form-good (PositionLetter (letter_at text i)) text i (mark_at text i) (position-second text i p) (inr (inl (p, f.allowed))) f bad
      go false false u v =
          let p : MoveLine text i = (leb-false i (positions_of text) v, bad.0) in
          let w = move-line i p in
          let f = reads-formed MoveLetter text i _ _ _ (second_at text i) _ w.3 w.3.second_is (cost-letters (move_at a w.0).cost) in
          form-good (MoveLetter (letter_at text i)) text i (second_at text i) (other-second text i (λ q. omega (arith, p.0, q.1))) (inr (inr (p, f.allowed))) f bad

  limits-fine : OutsideLimits text → ⊥
  unfolding OutsideLimits
  limits-fine =
      ⊎_elim (λ l. omega (arith, counted, c.some-position))
      (⊎_elim (λ l. omega (arith, counted, c.few-positions)) (⊎_elim (λ l. omega (arith, moved, c.some-move)) (λ l. omega (arith, moved, c.few-moves))))

  count-fine : WrongCount text → ⊥
  unfolding WrongCount
  count-fine wrong = wrong (omega (arith, s.lines, counted, moved))

  sequence-fine : (i : ℕ) → OutOfSequence text i → ⊥
  unfolding OutOfSequence from_at
  sequence-fine i bad =
      let w = position-line i bad.0 in
      let number = (number-again (first_at text i) w.0 w.3.first-is).1 in
      let mark = (number-again (mark_at text i) (position_at a w.0).mark (mark-line i w.0 w.3)).1 in
      ⊎_elim (λ no. no (omega (arith, number, w.1))) (λ high. omega (arith, mark, c.mark w.0 w.2)) bad.1

  -- the move on a line is the arena's
  move-on : (k : ℕ) → k < length a.moves → move_on text (size a + 1 + k) ≡ move_at a k
  unfolding move_on from_at to_at
  move-on k h =
      let r = s.move k h in
      let i = size a + 1 + k in
      let member = at-member no_move a.moves k h in
      let cost : cost_of (letter_at text i) ≡ (move_at a k).cost = ap cost_of r.letter-is ∙ cost-letter (move_at a k).cost (c.well-formed.kind (move_at a k) member) in
      let from = (number-again (first_at text i) (move_at a k).from r.first-is).1 in
      let to = (number-again (second_at text i) (move_at a k).to r.second_is).1 in
      λ j. record { cost = cost j; from = from j; to = to j }

  position-on : (v : ℕ) → v < size a → position_on text (v + 1) ≡ position_at a v
  unfolding position_on
  position-on v h =
      let r = s.position v h in
      let owner : owner_of (letter_at text (v + 1)) ≡ owner_at a v = ap owner_of r.letter-is ∙ owner-letter (owner_at a v) in
      let mark = (number-again (mark_at text (v + 1)) (position_at a v).mark (mark-line (v + 1) v r)).1 in
      λ j. record { owner = owner j; mark = mark j }

  from_on : (k : ℕ) → k < length a.moves → from_at text (size a + 1 + k) ≡ (move_at a k).from
  unfolding move_on
  from_on k h = ap (λ (m : Move). m.from) (move-on k h)

  endpoint-fine : (i : ℕ) → BadEndpoint text i → ⊥
  unfolding BadEndpoint from_at to_at
  endpoint-fine i bad =
      let w = move-line i bad.0 in
      let member = at-member no_move a.moves w.0 w.2 in
      let from = (number-again (first_at text i) (move_at a w.0).from w.3.first-is).1 in
      let to = (number-again (second_at text i) (move_at a w.0).to w.3.second_is).1 in
      ⊎_elim (λ l. omega (arith, from, counted, c.well-formed.from-position (move_at a w.0) member))
      (λ l. omega (arith, to, counted, c.well-formed.to-position (move_at a w.0) member)) bad.1

  disturbed-fine : (i : ℕ) → BadDisturbance text i → ⊥
  unfolding BadDisturbance from_at
  disturbed-fine i bad =
      let w = move-line i bad.0 in
      let m = move_at a w.0 in
      let member = at-member no_move a.moves w.0 w.2 in
      let cost : 1 ≡ m.cost = disturbance-cost m.cost (c.well-formed.kind m member) (sym w.3.letter-is ∙ bad.1.0) in
      let here : Disturbance a m.from m.to = (0, Memᴰ.cast (λ j. record { cost = cost j; from = m.from; to = m.to }) member) in
      let from : from_at text i ≡ m.from = (number-again (first_at text i) m.from w.3.first-is).1 in
      let owner = (s.position m.from (c.well-formed.from-position m member)).letter-is in
      environment-letter (owner_at a m.from) (sym owner ∙ ap (λ (v : ℕ). letter_at text (v + 1)) (sym from) ∙ bad.1.1) (c.well-formed.disturbed m.from m.to here)

  resting-fine : (i : ℕ) → MeantAtRest text i → ⊥
  unfolding MeantAtRest from_at
  resting-fine i bad =
      let w = move-line i bad.0 in
      let m = move_at a w.0 in
      let member = at-member no_move a.moves w.0 w.2 in
      let cost : 0 ≡ m.cost = meant-cost m.cost (sym w.3.letter-is ∙ bad.1.0) in
      let here : Meant a m.from m.to = Memᴰ.cast (λ j. record { cost = cost j; from = m.from; to = m.to }) member in
      let from : from_at text i ≡ m.from = (number-again (first_at text i) m.from w.3.first-is).1 in
      let owner = (s.position m.from (c.well-formed.from-position m member)).letter-is in
      nobody-letter (owner_at a m.from) (sym owner ∙ ap (λ (v : ℕ). letter_at text (v + 1)) (sym from) ∙ bad.1.1) (c.well-formed.resting m.from m.to here)

  order-fine : (i : ℕ) → OutOfOrder text i → ⊥
  unfolding OutOfOrder
  order-fine i bad =
      let w = move-line (i - 1) bad.1.0 in
      let k = w.0 in
      let next : size a + 1 + (k + 1) ≡ i = omega (arith, w.1, bad.0.0) in
      let more : k + 1 < length a.moves = omega (arith, next, bad.0.1, counted, moved) in
      let one : move_at a k ≡ move_on text (i - 1) = sym (move-on k w.2) ∙ ap (move_on text) w.1 in
      let two : move_at a (k + 1) ≡ move_on text i = sym (move-on (k + 1) more) ∙ ap (move_on text) next in
      bad.1.1 (subst₂ Rises one two (c.rising k more))

  meant-fine : (i : ℕ) → WithoutMeant text i → ⊥
  unfolding WithoutMeant cost_letter
  meant-fine i bad =
      let w = position-line i bad.0 in
      let letter-is = w.3.letter-is in
      let owned = ⊎_elim (λ e. inl (sym letter-is ∙ e)) (λ e. inr (sym letter-is ∙ e)) bad.1 in
      let target = c.well-formed.meant w.0 w.2 (meant-owner (owner_at a w.0) owned) in
      let at = member-at no_move (meant_move w.0 target.0) a.moves target.1 in
      let line = size a + 1 + at.0 in
      let letter = (s.move at.0 at.1).letter-is ∙ ap (λ (m : Move). cost_letter m.cost) at.2 in
      let from : from_at text line ≡ i - 1 = from_on at.0 at.1 ∙ ap (λ (m : Move). m.from) at.2 ∙ omega (arith, w.1) in
      bad.2 line (omega (arith, counted), omega (arith, counted, moved, at.1)) letter from

  none-applies : (r : Misdrawn) → Applies text r → ⊥
  none-applies Length w = length-fine w
  none-applies (Form line) w = form-fine line w
  none-applies Limits w = limits-fine w
  none-applies Count w = count-fine w
  none-applies (Sequence line) w = sequence-fine line w
  none-applies (Endpoint line) w = endpoint-fine line w
  none-applies (Disturbed line) w = disturbed-fine line w
  none-applies (Resting line) w = resting-fine line w
  none-applies (Order line) w = order-fine line w
  none-applies (NoMeant line) w = meant-fine line w

  means : arena_of text ≡ a
  unfolding arena_of
  means = λ j. record {
    positions =
        (ap (λ (n : ℕ). on_lines (position_on text) n 1) counted
        ∙ on-lines-list (position_on text) a.positions 1 nowhere (λ k l. ap (position_on text) (add_comm 1 k) ∙ position-on k l)) j;
    moves =
        (ap₂ (λ (m n : ℕ). on_lines (move_on text) m (n + 1)) moved counted
        ∙ on-lines-list (move_on text) a.moves (size a + 1) no_move (λ k l. move-on k l)) j;
  }

-- every arena that has a chart: its text is accepted, with its counts, and means it
pub arena-faithful : (a : Arena) → Chartable a →
    (examined (chart_text a) ≡ Ok (record { positions = size a; moves = length a.moves })) × (arena_of (chart_text a) ≡ a)
arena-faithful a c =
    let s = set_out a c in
    let counts : ◌≡◌ {A = Chart} (record { positions = size a; moves = length a.moves }) (record { positions = positions_of (chart_text a); moves = moves_of (chart_text a) }) =
    λ j. record { positions = sym (counted a c (chart_text a) s) j; moves = sym (moved a c (chart_text a) s) j } in
    ((accepted-exactly (chart_text a) (record { positions = size a; moves = length a.moves })).1 (none-applies a c (chart_text a) s, counts), means a c (chart_text a) s)

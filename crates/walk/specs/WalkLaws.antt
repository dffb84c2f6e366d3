-- From words to an accepted text: a line with the words of two numbers reads as them, so it stands; ranks that rise are moves that rise; and
-- where each position has the kinds of moves that it needs and may have, a chart whose lines stand is good.
use Rattle.std.specs.Prelude.{ℕ, ◌+◌, ◌-◌, ◌*◌, ◌/◌, ◌%◌, ◌≤◌, ◌<◌, ◌≡◌, Bool, not, List, [], ◌∷◌, length, get_or, set, ltb, eqb, Ok}
use native.Mathlib.Omega.{arith}
use Rattle.std.proofs.Math.Decide.{dec_le, ℕ_discrete}
use Rattle.std.proofs.Math.Numerals.{add-one}
use Rattle.std.proofs.Math.Path.{refl, ap, subst}
use Rattle.std.proofs.Common.{sym, ◌∙◌, inl, inr, ⊎_elim, length-set, get_or-set_same, get_or-set_other, below_more}
use Rattle.std.proofs.Math.Bool.{true, false, cond}
use borrow.Author.Tests.{ltb-true, ltb-false, eqb-true, eq-eqb, lt-ltb}
use Rattle.field.specs.Text.{field_of, five, field_at, place_byte, blank_text}
use Rattle.field.specs.Laws.{blank-reads}
use Rattle.field.specs.declared.Field.{Field}
use Rattle.field.specs.declared.Field.TheVariants.{Number, Blank}
use Rattle.game.specs.Arena.{Owner, controller, environment, nobody}
use Rattle.rows.specs.Rows.{RowIs, Kept, owner_number}
use Rattle.rows.specs.Filling.{filled_more, filled-same}
use Rattle.rows.specs.declared.Chart.{Chart}
use Rattle.spelling.specs.Words.{spelt}
use Rattle.spelling.specs.WordLaws.{word_bytes, place-small, spelt-field, spelt-reads}
use Rattle.chart.specs.Text.{letter_at, first_at, second_at, end_at, mark_of, mark_at, field_number, positions_of, moves_of, from_at, to_at}
use Rattle.chart.specs.Meaning.{owner_of, cost_of}
use Rattle.chart.specs.Refusals.{PositionLetter, MoveLetter}
use Rattle.chart.specs.Examined.{above, rises, meant_line, meant_in, header_formed, header_of}
use Rattle.chart.specs.Header.{WithinLimits, header-accepts}
use Rattle.chart.specs.Accepted.{cost-small}
use Rattle.chart.specs.Good.{GoodPosition, GoodMove, header-form}
use Rattle.chart.specs.Taken.{good-accepted}
use Rattle.chart.specs.Lines.{Reads, number-again, reads-formed}
use Rattle.walk.specs.Decoded.{MoveRows}
use Rattle.walk.specs.Walked.{LineWords, opening_of, middle_of, closing_of, move_opening, letter_of, mark_word, LinesSpelt, Numbers, Tables, MoveStands, Kinds, KindsAllowed, MovesStand, PositionsPassed, Passed}

-- a walk that stopped has not passed
pub stopped : {A : Type 0} → false ≡ true → A
stopped e = let z : ◌≡◌ {A = ℕ} 0 1 = cc in absurd (omega arith)

-- and one that did not stop at a test has passed it
pub went_on : (b : Bool) → not b ≡ false → b ≡ true
went_on true e = refl
went_on false e = stopped (sym e)

-- a byte by another name of its place
byte : (text : List ℕ) (p q z : ℕ) → p ≡ q → get_or text q 0 ≡ z → get_or text p 0 ≡ z
byte text p q z e h = ap (λ (k : ℕ). get_or text k 0) e ∙ h

-- a line with the words of a number and the last three bytes of a field reads as them
words_are : (text : List ℕ) (i letter x c d e : ℕ) (f : Field) → letter < 256 → x < 1000 → (c < 256) × (d < 256) × (e < 256) → field_of (32 ∷ 32 ∷ c ∷ d ∷ e ∷ []) ≡ f →
    LineWords text (i * 12) (opening_of letter x) (middle_of x) (closing_of (c + d * 256 + e * 65536)) → Reads text i letter x f
unfolding spelt opening_of middle_of letter_at first_at second_at end_at field_at five
words_are text i letter x c d e f l h small is w =
    let high = place-small x 100 in
    let low = place-small x 10 in
    let one = word_bytes text (i * 12) _ letter 32 32 (place_byte x 100) w.opens (l, omega arith, omega arith, omega arith) (omega arith) in
    let two = word_bytes text (i * 12 + 4) _ (place_byte x 10) (48 + x % 10) 32 32 w.goes_on (omega arith, omega arith, omega arith, omega arith) (omega arith) in
    let three = word_bytes text (i * 12 + 8) _ c d e 10 w.closes (small.0, small.1, small.2, omega arith) (omega arith) in
    let second : five text (i * 12 + 6) ≡ 32 ∷ 32 ∷ c ∷ d ∷ e ∷ [] =
    cc (
      byte text (i * 12 + 6) _ _ (omega arith) two.2,
      byte text (i * 12 + 6 + 1) _ _ (omega arith) two.3,
      byte text (i * 12 + 6 + 2) _ _ (omega arith) three.0,
      byte text (i * 12 + 6 + 3) _ _ (omega arith) three.1,
      byte text (i * 12 + 6 + 4) _ _ (omega arith) three.2,
    ) in
    record {
      letter-is = one.0;
      first-is = spelt-reads text (i * 12 + 1) x h one.1 (byte text _ _ _ (omega arith) one.2)
          (record { hundreds = byte text _ _ _ (omega arith) one.3; tens = byte text _ _ _ (omega arith) two.0; units = byte text _ _ _ (omega arith) two.1 });
      second_is = ap field_of second ∙ is;
      end_is = byte text _ _ _ (omega arith) three.3;
    }

-- so one with the words of two numbers
pub words-read : (text : List ℕ) (i letter x y : ℕ) → letter < 256 → x < 1000 → y < 1000 → LineWords text (i * 12) (opening_of letter x) (middle_of x) (closing_of (spelt y)) →
    Reads text i letter x (Number y)
unfolding spelt
words-read text i letter x y l h k w =
    let c = place-small y 100 in
    let d = place-small y 10 in
    words_are text i letter x (place_byte y 100) (place_byte y 10) (48 + y % 10) (Number y) l h (omega arith, omega arith, omega arith) (spelt-field y k) w

pub reads-from : (text : List ℕ) (i letter x : ℕ) (f : Field) → Reads text i letter x f → from_at text i ≡ x
unfolding from_at
reads-from text i letter x f r = (number-again (first_at text i) x r.first-is).1

pub reads-to : (text : List ℕ) (i letter x y : ℕ) → Reads text i letter x (Number y) → to_at text i ≡ y
unfolding to_at
reads-to text i letter x y r = (number-again (second_at text i) y r.second_is).1

-- a position's line: its mark is what its second field stands for
pub record PositionStands (text : List ℕ) (v mark : ℕ) : Type 0 where
  pub good : GoodPosition text (v + 1)
  pub mark-is : field_number (mark_at text (v + 1)) ≡ mark

position-reads : (text : List ℕ) (v letter mark : ℕ) (f : Field) → PositionLetter letter → mark ≤ 1 → Reads text (v + 1) letter v f → mark_of f ≡ Number mark → PositionStands text v mark
unfolding mark_at
position-reads text v letter mark f w small r is =
    let stands : mark_at text (v + 1) ≡ Number mark = ap mark_of r.second_is ∙ is in
    let number = (number-again (mark_at text (v + 1)) mark stands).1 in
    record {
      good = record {
        form = reads-formed PositionLetter text (v + 1) letter v f (mark_at text (v + 1)) mark r stands w;
        in_order = reads-from text (v + 1) letter v f r ∙ omega arith;
        small = subst (λ (k : ℕ). k ≤ 1) (sym number) small;
      };
      mark-is = number;
    }

owner-small : (o : Owner) → owner_number o ≤ 2
owner-small controller = omega arith
owner-small environment = omega arith
owner-small nobody = omega arith

-- the letter of a number is one of a position
letter-of : (owner : ℕ) → PositionLetter (letter_of owner)
unfolding letter_of
letter-of owner = go (eqb owner 1) (eqb owner 2)
  where
    go : (p q : Bool) → PositionLetter (cond p 76 (cond q 82 79))
    go true q = inr (inl refl)
    go false true = inr (inr refl)
    go false false = inl refl

pub letter-fits : (letter owner : ℕ) → letter ≡ letter_of owner → letter < 256
letter-fits letter owner e =
    ⊎_elim (λ p. omega (arith, e, p)) (⊎_elim (λ p. omega (arith, e, p)) (λ p. omega (arith, e, p))) (letter-of owner)

rest-letter : (letter : ℕ) → owner_number (owner_of letter) ≡ 2 → letter ≡ 82
unfolding owner_of
rest-letter letter e = go (eqb letter 76) (eqb letter 82) refl refl
  where
    go : (p q : Bool) → eqb letter 76 ≡ p → eqb letter 82 ≡ q → letter ≡ 82
    go true q u v = let z : ◌≡◌ {A = ℕ} 1 2 = simp u at e in absurd (omega arith)
    go false true u v = eqb-true letter 82 v
    go false false u v = let z : ◌≡◌ {A = ℕ} 0 2 = simp (u, v) at e in absurd (omega arith)

-- what the rows of owners hold at a position
module _ (text : List ℕ) (n : ℕ) (owners : List ℕ) (owner : RowIs owners n (λ v. owner_number (owner_of (letter_at text (v + 1))))) where
  lane-owner : (v : ℕ) → v < n → letter_at text (v + 1) ≡ 76 → get_or owners v 0 ≡ 1
  unfolding owner_of
  lane-owner v h e = owner v h ∙ ap (λ (letter : ℕ). owner_number (owner_of letter)) e

  rest-owner : (v : ℕ) → v < n → letter_at text (v + 1) ≡ 82 → get_or owners v 0 ≡ 2
  unfolding owner_of
  rest-owner v h e = owner v h ∙ ap (λ (letter : ℕ). owner_number (owner_of letter)) e

  other-owner : (v : ℕ) → v < n → (letter_at text (v + 1) ≡ 82 → ⊥) → get_or owners v 0 ≤ 1
  other-owner v h other = go (dec_le (get_or owners v 0) 1)
    where
      go : Dec (get_or owners v 0 ≤ 1) → get_or owners v 0 ≤ 1
      go (yes l) = l
      go (no l) =
          let small : get_or owners v 0 ≤ 2 = rw (owner v h) (owner-small (owner_of (letter_at text (v + 1)))) in
          absurd (other (rest-letter (letter_at text (v + 1)) (sym (owner v h) ∙ omega arith)))

-- how the moves of a cost from v open
pub move-opens : (kind v cost : ℕ) → cost ≤ 1 → kind ≡ 2 * v + cost → move_opening kind ≡ opening_of (77 - 9 * cost) v
unfolding move_opening
move-opens kind v cost small e =
    let bit : kind % 2 ≡ cost = omega arith in
    let half : kind / 2 ≡ v = omega arith in
    simp (bit, half)

-- the words of one position more
pub lines_more : {openings₀ openings middles₀ middles closings₀ closings : List ℕ} (v x : ℕ) → LinesSpelt v openings₀ openings middles₀ middles closings₀ closings → x ≡ spelt v →
    2 * v + 1 < length openings₀ → v < length middles₀ → v < length closings₀ →
    LinesSpelt (v + 1) openings₀ (set (set openings (2 * v) (x % 256 * 16777216 + 2105421)) (2 * v + 1) (x % 256 * 16777216 + 2105421 - 9))
    middles₀ (set middles v (x / 256 + 538968064)) closings₀ (set closings v (x + 167772160))
unfolding opening_of middle_of
lines_more {openings₀} {openings} v x h e l k j =
    let one = filled_more openings₀ openings (2 * v) (x % 256 * 16777216 + 2105421) move_opening h.opening (omega arith) (rw (move-opens (2 * v) v 0 (omega arith) (omega arith), e) (omega arith)) in
    let two = filled_more _ _ (2 * v + 1) (x % 256 * 16777216 + 2105421 - 9) move_opening one l (rw (move-opens (2 * v + 1) v 1 (omega arith) refl, e) (omega arith)) in
    record {
      opening = filled-same _ _ _ _ move_opening move_opening (omega arith) (λ q m. refl) two;
      middle = filled_more _ _ v _ _ h.middle k (rw e refl);
      closing = filled_more _ _ v _ _ h.closing j (rw e refl);
    }

-- a position in a slot
pub numbers_more : (numbers : List ℕ) (n slot v : ℕ) → Numbers numbers n → slot < 1024 → v < n → Numbers (set numbers slot v) n
numbers_more numbers n slot v h l m = record { below = λ k q. go k q (ℕ_discrete k slot); slots = simp length-set h.slots }
  where
    go : (k : ℕ) → k < 1024 → Dec (k ≡ slot) → get_or (set numbers slot v) k 0 < n
    go k q (yes e) = rw (e, get_or-set_same numbers slot v 0 (omega (arith, h.slots))) m
    go k q (no e) = rw (get_or-set_other numbers slot k v 0 e) (h.below k q)

-- another letter in the place of the M
module _ (opening v : ℕ) (e : opening ≡ move_opening (2 * v)) where
  meant-opening : opening ≡ opening_of 77 v
  meant-opening = e ∙ move-opens (2 * v) v 0 (omega arith) (omega arith)

  pub letter-out : 77 ≤ opening
  unfolding opening_of
  letter-out = omega (arith, meant-opening)

  pub letter-in : (letter : ℕ) → opening - 77 + letter ≡ opening_of letter v
  unfolding opening_of
  letter-in letter = omega (arith, meant-opening)

  pub letter-room : (letter : ℕ) → letter < 256 → opening - 77 + letter < 4294967296
  unfolding opening_of
  letter-room letter h = omega (arith, meant-opening)

-- a line with the words of position v and of a mark is that position's
pub position-stands : (text : List ℕ) (v owner last : ℕ) → v < 1000 →
    LineWords text ((v + 1) * 12) (opening_of (letter_of owner) v) (middle_of v) (mark_word last) → PositionStands text v (last % 2)
unfolding mark_word mark_of blank_text
position-stands text v owner last h w = go (eqb last 32) refl
  where
    letter : ℕ
    letter = letter_of owner

    fits : letter < 256
    fits = letter-fits letter owner refl

    go : (b : Bool) → eqb last 32 ≡ b → PositionStands text v (last % 2)
    go true e =
        let space : last ≡ 32 = eqb-true last 32 e in
        let words : LineWords text ((v + 1) * 12) (opening_of letter v) (middle_of v) (closing_of (32 + 32 * 256 + 32 * 65536)) = simp e at w in
        subst (PositionStands text v) (ap (λ (b : ℕ). b % 2) (sym space))
        (position-reads text v letter 0 Blank (letter-of owner) (omega arith)
        (words_are text (v + 1) letter v 32 32 32 Blank fits h (omega arith, omega arith, omega arith) blank-reads words) refl)
    go false e =
        position-reads text v letter (last % 2) (Number (last % 2)) (letter-of owner) (omega arith)
        (words-read text (v + 1) letter v (last % 2) fits h (omega arith) (simp e at w)) refl

-- the rank of a move: from above its cost above to
unfoldable pub rank_of : ℕ → ℕ → ℕ → ℕ
rank_of from cost to = (2 * from + cost) * 512 + to

unfoldable pub rank_at : List ℕ → ℕ → ℕ
rank_at text i = rank_of (from_at text i) (cost_of (letter_at text i)) (to_at text i)

-- a higher rank is a move above
rank-above : (from₀ cost₀ to₀ from cost to : ℕ) → cost₀ ≤ 1 → cost ≤ 1 → to₀ < 512 → to < 512 → rank_of from₀ cost₀ to₀ < rank_of from cost to → above from₀ cost₀ to₀ from cost to ≡ true
unfolding above rank_of
rank-above from₀ cost₀ to₀ from cost to a b c d h = go (ltb from₀ from) (ltb from from₀) (ltb cost₀ cost) (ltb cost cost₀) refl refl refl refl
  where
    go : (p q r s : Bool) → ltb from₀ from ≡ p → ltb from from₀ ≡ q → ltb cost₀ cost ≡ r → ltb cost cost₀ ≡ s → above from₀ cost₀ to₀ from cost to ≡ true
    go true q r s t u v w = simp t
    go false true r s t u v w = absurd (omega (arith, ltb-false from₀ from t, ltb-true from from₀ u))
    go false false true s t u v w = simp (t, u, v)
    go false false false true t u v w = absurd (omega (arith, ltb-false from₀ from t, ltb-false from from₀ u, ltb-false cost₀ cost v, ltb-true cost cost₀ w))
    go false false false false t u v w =
        simp (t, u, v, w) (lt-ltb to₀ to (omega (arith, ltb-false from₀ from t, ltb-false from from₀ u, ltb-false cost₀ cost v, ltb-false cost cost₀ w)))

-- the letter of a cost
move-letter-of : (cost : ℕ) → cost ≤ 1 → MoveLetter (77 - 9 * cost)
move-letter-of cost small = go (dec_le cost 0)
  where
    go : Dec (cost ≤ 0) → MoveLetter (77 - 9 * cost)
    go (yes l) = inl (omega arith)
    go (no l) = inr (omega arith)

cost-of : (cost letter : ℕ) → cost ≤ 1 → letter ≡ 77 - 9 * cost → cost_of letter ≡ cost
unfolding cost_of
cost-of cost letter small e = go (dec_le cost 0)
  where
    go : Dec (cost ≤ 0) → cost_of letter ≡ cost
    go (yes l) = let c : cost ≡ 0 = omega arith in let m : letter ≡ 77 = omega arith in rw (m, c) refl
    go (no l) = let c : cost ≡ 1 = omega arith in let m : letter ≡ 68 = omega arith in rw (m, c) refl

-- what the first i move lines are known to be
pub record SoFar (text : List ℕ) (n i lowest : ℕ) : Type 0 where
  pub stands : (j : ℕ) → j < i → MoveStands text n (n + 1 + j)
  pub before : 1 ≤ i → rank_at text (n + 1 + i - 1) < lowest

pub so-far-none : (text : List ℕ) (n : ℕ) → SoFar text n 0 0
so-far-none text n = record { stands = λ j h. absurd (omega arith); before = λ h. absurd (omega arith) }

pub kinds-none : (text : List ℕ) (n : ℕ) (kinds : List ℕ) → RowIs kinds (2 * n) (λ k. 0) → Kinds text n 0 kinds
kinds-none text n kinds zero_row = record { noted = λ i h. absurd (omega arith); meant = λ v h e. absurd (omega (arith, zero_row (2 * v) (omega arith))) }

-- a line with the words of a move reads as it
pub move-reads : (text : List ℕ) (n line from cost to : ℕ) (openings middles closings numbers : List ℕ) → Tables n openings middles closings numbers → from < n → to < n → cost ≤ 1 →
    LineWords text (line * 12) (get_or openings (2 * from + cost) 0) (get_or middles from 0) (get_or closings to 0) → Reads text line (77 - 9 * cost) from (Number to)
move-reads text n line from cost to openings middles closings numbers tables f t small w =
    let few = tables.few in
    let opens = tables.opening (2 * from + cost) (omega arith) ∙ move-opens (2 * from + cost) from cost small refl in
    words-read text line (77 - 9 * cost) from to (omega arith) (omega arith) (omega arith) (rw (opens, tables.middle from f, tables.closing to t) at w)

-- a move line more, which reads as a move
module _ (text : List ℕ) (n i from cost to : ℕ) (few : n ≤ 512) (f : from < n) (t : to < n) (small : cost ≤ 1) (reads : Reads text (n + 1 + i) (77 - 9 * cost) from (Number to)) where
  from_is : from_at text (n + 1 + i) ≡ from
  from_is = reads-from text (n + 1 + i) (77 - 9 * cost) from (Number to) reads

  to_is : to_at text (n + 1 + i) ≡ to
  to_is = reads-to text (n + 1 + i) (77 - 9 * cost) from to reads

  cost-is : cost_of (letter_at text (n + 1 + i)) ≡ cost
  cost-is = cost-of cost (letter_at text (n + 1 + i)) small reads.letter-is

  rank_is : rank_at text (n + 1 + i) ≡ rank_of from cost to
  unfolding rank_at
  rank_is = simp (from_is, to_is, cost-is)

  -- of no lower rank than the lines before allow
  line-stands : (lowest : ℕ) → SoFar text n i lowest → lowest ≤ rank_of from cost to → MoveStands text n (n + 1 + i)
  unfolding rises rank_at
  line-stands lowest so_far low =
      record {
        form = reads-formed MoveLetter text (n + 1 + i) (77 - 9 * cost) from (Number to) (second_at text (n + 1 + i)) to reads reads.second_is (move-letter-of cost small);
        from-position = rw from_is f;
        to-position = rw to_is t;
        above = λ h.
            let some : 1 ≤ i = omega arith in
            let last = (so_far.stands (i - 1) (omega arith)).to-position in
            let name : n + 1 + (i - 1) ≡ n + 1 + i - 1 = omega arith in
            let to₀ : to_at text (n + 1 + i - 1) < n = subst (λ (k : ℕ). to_at text k < n) name last in
            let to₁ : to_at text (n + 1 + i) < n = rw to_is t in
            rank-above (from_at text (n + 1 + i - 1)) (cost_of (letter_at text (n + 1 + i - 1))) (to_at text (n + 1 + i - 1))
            (from_at text (n + 1 + i)) (cost_of (letter_at text (n + 1 + i))) (to_at text (n + 1 + i))
            (omega (arith, cost-small (letter_at text (n + 1 + i - 1)))) (omega (arith, cost-small (letter_at text (n + 1 + i)))) (omega arith) (omega arith) (omega (arith, so_far.before some, rank_is));
      }

  pub so-far-next : (lowest : ℕ) → SoFar text n i lowest → lowest ≤ rank_of from cost to → SoFar text n (i + 1) (rank_of from cost to + 1)
  so-far-next lowest so_far low =
      record {
        stands = below_more (λ (j : ℕ). MoveStands text n (n + 1 + j)) i so_far.stands (line-stands lowest so_far low);
        before = λ h.
            let name : n + 1 + i ≡ n + 1 + (i + 1) - 1 = omega arith in
            subst (λ (k : ℕ). rank_at text k < rank_of from cost to + 1) name (omega (arith, rank_is));
      }

  -- a meant move among the lines before is one among them and this one
  meant-more : (v : ℕ) → meant_in text n i v ≡ true → meant_in text n (i + 1) v ≡ true
  unfolding meant_in
  meant-more v e = rw add-one (simp e)

  -- where the line is a meant move it is one of its position
  meant-here : cost ≡ 0 → meant_in text n (i + 1) from ≡ true
  unfolding meant_in meant_line
  meant-here free =
      let letter : letter_at text (n + 1 + i) ≡ 77 = reads.letter-is ∙ omega arith in
      rw add-one (simp (eq-eqb (letter_at text (n + 1 + i)) 77 letter, eq-eqb (from_at text (n + 1 + i)) from from_is) (either (meant_in text n i from)))
    where
      either : (b : Bool) → cond b true true ≡ true
      either true = refl
      either false = refl

  pub kinds-next : (kinds : List ℕ) → 2 * n ≤ length kinds → Kinds text n i kinds → Kinds text n (i + 1) (set kinds (2 * from + cost) 1)
  kinds-next kinds room so_far =
      record {
        noted = below_more (λ (j : ℕ). get_or (set kinds (2 * from + cost) 1) (2 * from_at text (n + 1 + j) + cost_of (letter_at text (n + 1 + j))) 0 ≡ 1) i
            (λ j h. stays (2 * from_at text (n + 1 + j) + cost_of (letter_at text (n + 1 + j))) (so_far.noted j h) (ℕ_discrete _ (2 * from + cost)))
            (rw (from_is, cost-is) here);
        meant = λ v h e. go v h e (ℕ_discrete (2 * v) (2 * from + cost));
      }
    where
      here : get_or (set kinds (2 * from + cost) 1) (2 * from + cost) 0 ≡ 1
      here = get_or-set_same kinds (2 * from + cost) 1 0 (omega arith)

      stays : (k : ℕ) → get_or kinds k 0 ≡ 1 → Dec (k ≡ 2 * from + cost) → get_or (set kinds (2 * from + cost) 1) k 0 ≡ 1
      stays k e (yes z) = rw z here
      stays k e (no z) = get_or-set_other kinds (2 * from + cost) k 1 0 z ∙ e

      go : (v : ℕ) → v < n → get_or (set kinds (2 * from + cost) 1) (2 * v) 0 ≡ 1 → Dec (2 * v ≡ 2 * from + cost) → meant_in text n (i + 1) v ≡ true
      go v h e (yes z) = let same : from ≡ v = omega arith in subst (λ (u : ℕ). meant_in text n (i + 1) u ≡ true) same (meant-here (omega arith))
      go v h e (no z) = meant-more v (so_far.meant v h (sym (get_or-set_other kinds (2 * from + cost) (2 * v) 1 0 z) ∙ e))

  pub rows_next : {costs₀ costs froms₀ froms tos₀ tos : List ℕ} → (i < length costs₀) × (i < length froms₀) × (i < length tos₀) → MoveRows text (n + 1) i costs₀ costs froms₀ froms tos₀ tos →
      MoveRows text (n + 1) (i + 1) costs₀ (set costs i cost) froms₀ (set froms i from) tos₀ (set tos i to)
  rows_next room rows =
      record {
        cost = filled_more _ _ i cost _ rows.cost room.0 (sym cost-is);
        from = filled_more _ _ i from _ rows.from room.1 (sym from_is);
        to = filled_more _ _ i to _ rows.to room.2 (sym to_is);
      }

-- a number set below a bound leaves what lies past it
pub kept_set : {count : ℕ} {old new : List ℕ} (k x : ℕ) → Kept count old new → k < count → Kept count old (set new k x)
kept_set {count} {old} {new} k x h l = record { rest = λ j m. get_or-set_other new k j x 0 (λ z. omega arith) ∙ h.rest j m; same_length = length-set new k x ∙ h.same_length }

-- the kinds of one position more: its meant moves and half its owner make 1, which is 1 for an `R` alone; its disturbances and the rest of
-- that half are not both 1, which is 1 for an `L` alone
pub allowed-none : (owners kinds : List ℕ) → KindsAllowed owners 0 kinds
allowed-none owners kinds = record { needed = λ v h. absurd (omega arith); unmeant = λ v h. absurd (omega arith); undisturbed = λ v h. absurd (omega arith) }

pub allowed-more : (owners kinds : List ℕ) (v : ℕ) → KindsAllowed owners v kinds → get_or kinds (2 * v) 0 + get_or owners v 0 / 2 ≡ 1 → (get_or kinds (2 * v + 1) 0 + get_or owners v 0 % 2 ≡ 2 → ⊥) → KindsAllowed owners (v + 1) kinds
allowed-more owners kinds v h meant free =
    record {
      needed = below_more (λ (u : ℕ). get_or owners u 0 ≤ 1 → get_or kinds (2 * u) 0 ≡ 1) v h.needed (λ o. omega arith);
      unmeant = below_more (λ (u : ℕ). get_or owners u 0 ≡ 2 → get_or kinds (2 * u) 0 ≡ 1 → ⊥) v h.unmeant (λ o k. omega arith);
      undisturbed = below_more (λ (u : ℕ). get_or owners u 0 ≡ 1 → get_or kinds (2 * u + 1) 0 ≡ 1 → ⊥) v h.undisturbed (λ o k. free (omega arith));
    }

-- every move line is good, every position but an `R` (82) has a meant move, and the moves are in the rows
pub record MovesPassed (text : List ℕ) (n m : ℕ) (costs₀ costs froms₀ froms tos₀ tos : List ℕ) : Type 0 where
  pub good : (i : ℕ) → i < m → GoodMove text n (n + 1 + i)
  pub meant : (v : ℕ) → v < n → (letter_at text (v + 1) ≡ 82 → ⊥) → meant_in text n m v ≡ true
  pub rows : MoveRows text (n + 1) m costs₀ costs froms₀ froms tos₀ tos

-- where the kinds are allowed, lines that stand are good, and every position that needs a meant move has one
pub moves-pass : (text : List ℕ) (n m : ℕ) (owners kinds costs₀ costs froms₀ froms tos₀ tos : List ℕ) → RowIs owners n (λ v. owner_number (owner_of (letter_at text (v + 1)))) →
    KindsAllowed owners n kinds → MovesStand text n m kinds costs₀ costs froms₀ froms tos₀ tos → MovesPassed text n m costs₀ costs froms₀ froms tos₀ tos
moves-pass text n m owners kinds costs₀ costs froms₀ froms tos₀ tos owner allowed h =
    record {
      good = λ i l.
          let line = h.stands i l in
          let from = from_at text (n + 1 + i) in
          record {
            form = line.form;
            from-position = line.from-position;
            to-position = line.to-position;
            undisturbed = λ p q. allowed.undisturbed from line.from-position (lane-owner text n owners owner from line.from-position q) (noted-as i (2 * from + 1) l (omega (arith, cost-of 1 _ (omega arith) p)));
            unmeant = λ p q. allowed.unmeant from line.from-position (rest-owner text n owners owner from line.from-position q) (noted-as i (2 * from) l (omega (arith, cost-of 0 _ (omega arith) p)));
            above = line.above;
          };
      meant = λ v l other. h.kind.meant v l (allowed.needed v l (other-owner text n owners owner v l other));
      rows = h.rows;
    }
  where
    noted-as : (i kind : ℕ) → i < m → 2 * from_at text (n + 1 + i) + cost_of (letter_at text (n + 1 + i)) ≡ kind → get_or kinds kind 0 ≡ 1
    noted-as i kind l e = subst (λ (k : ℕ). get_or kinds k 0 ≡ 1) e (h.kind.noted i l)

-- what a good header says of the counts and the length
pub record HeaderFits (text : List ℕ) (chart : Chart) : Type 0 where
  pub some : 1 ≤ chart.positions
  pub positions : chart.positions ≤ 512
  pub moves : chart.moves ≤ 4096
  pub lines : length text ≡ (1 + chart.positions + chart.moves) * 12

pub header-fits : (text : List ℕ) (chart : Chart) → header_of text ≡ Ok chart → HeaderFits text chart
header-fits text chart e =
    let w = header-accepts text chart e in
    subst (λ (k : Chart). HeaderFits text k) (sym w.1) (record { some = w.0.some-position; positions = w.0.positions; moves = w.0.moves; lines = w.0.lines })

-- lines that are good after a good header are an accepted text
counts-pass : (text : List ℕ) (owners₀ owners marks₀ marks costs₀ costs froms₀ froms tos₀ tos : List ℕ) →
    WithinLimits (header_formed text) (length text) (positions_of text) (moves_of text) →
    PositionsPassed text (positions_of text) owners₀ owners marks₀ marks → MovesPassed text (positions_of text) (moves_of text) costs₀ costs froms₀ froms tos₀ tos →
    Passed text (record { positions = positions_of text; moves = moves_of text }) owners₀ owners marks₀ marks costs₀ costs froms₀ froms tos₀ tos
counts-pass text owners₀ owners marks₀ marks costs₀ costs froms₀ froms tos₀ tos l p m =
    record {
      accepted = good-accepted text (record {
        form = header-form text l.form;
        limits = l;
        position = λ i a b. let e : i - 1 + 1 ≡ i = omega arith in subst (λ (k : ℕ). GoodPosition text k) e (p.good (i - 1) (omega arith));
        move = λ i a b. let e : positions_of text + 1 + (i - positions_of text - 1) ≡ i = omega arith in subst (λ (k : ℕ). GoodMove text (positions_of text) k) e (m.good (i - positions_of text - 1) (omega arith));
        meant = m.meant;
      });
      positions = p.rows;
      moves = m.rows;
    }

pub lines-pass : (text : List ℕ) (chart : Chart) (owners₀ owners marks₀ marks costs₀ costs froms₀ froms tos₀ tos : List ℕ) → header_of text ≡ Ok chart →
    PositionsPassed text chart.positions owners₀ owners marks₀ marks → MovesPassed text chart.positions chart.moves costs₀ costs froms₀ froms tos₀ tos →
    Passed text chart owners₀ owners marks₀ marks costs₀ costs froms₀ froms tos₀ tos
lines-pass text chart owners₀ owners marks₀ marks costs₀ costs froms₀ froms tos₀ tos e =
    let w = header-accepts text chart e in
    subst (λ (k : Chart).
    PositionsPassed text k.positions owners₀ owners marks₀ marks → MovesPassed text k.positions k.moves costs₀ costs froms₀ froms tos₀ tos →
    Passed text k owners₀ owners marks₀ marks costs₀ costs froms₀ froms tos₀ tos)
    (sym w.1) (counts-pass text owners₀ owners marks₀ marks costs₀ costs froms₀ froms tos₀ tos w.0)

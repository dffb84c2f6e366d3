-- The finding of one line is exact: a fault is the first refusal in the order that applies to the line, and a clean line has none. Each case of
-- the computed finding says which conditions hold and which don't; no other refusal can stand on a line of that kind.
use Rattle.std.specs.Prelude.{ℕ, ◌+◌, ◌-◌, ◌*◌, ◌≤◌, ◌<◌, ◌≡◌, refl, ◌⊎◌, ◌↔◌, Bool, true, false, List, length, ltb, leb, eqb, ⊤, Result, Ok, Err}
use Rattle.std.proofs.Common.{arith, sym, ◌∙◌, subst, inl, inr, ⊎_elim, ltb-true, ltb-false, leb-true, leb-false, eqb-true, lt-ltb, le-ltb}
use Rattle.std.proofs.lemmas.Bool.{eqb-false}
use Rattle.game.specs.Arena.{Move}
use Rattle.field.specs.declared.Field.{Field}
use Rattle.field.specs.declared.Field.TheVariants.{Number, Blank, Bad}
use Rattle.chart.specs.Text.{letter_at, first_at, second_at, end_at, mark_at, field_number, is_number, positions_of, moves_of, from_at, to_at}
use Rattle.chart.specs.Meaning.{move_on, Rises}
use Rattle.refusal.specs.Numbers.{misdrawn_line}
use Rattle.chart.specs.Refusals.{stage, rank, PositionLine, MoveLine, BadField, BadSecond, BadForm, HeaderLetter, PositionLetter, MoveLetter, Allowed, OutsideLimits, WrongCount, OutOfSequence, BadEndpoint, BadDisturbance, MeantAtRest, OutOfOrder, Applies}
use Rattle.chart.specs.Examined.{numbered, formed, header_formed, position_formed, move_formed, limits_of, header_of, judged_position, position_finding, above, rises, ordered, judged_owner, judged_move, move_finding, line_finding}
use Rattle.chart.specs.Good.{Formed, header-letter, position-letter, move-letter, position-form, move-form, header-form, line-position, line-move}
use Rattle.chart.specs.Accepted.{line-rises}
use Rattle.refusal.specs.declared.Misdrawn.{Misdrawn}
use Rattle.rows.specs.declared.Chart.{Chart}
use Rattle.refusal.specs.declared.Misdrawn.TheVariants.{Length, Form, Limits, Count, Sequence, Endpoint, Disturbed, Resting, Order, NoMeant}

-- what must not apply to a line with this finding: beside a fault what is before it, to a clean line anything
abbrev pub Earlier : Result ⊤ Misdrawn → Misdrawn → Type 0
Earlier (Ok _) s = Unit {0}
Earlier (Err r) s = rank s < rank r

abbrev pub Free : List ℕ → ℕ → Result ⊤ Misdrawn → Type 0
Free text i d = (s : Misdrawn) → stage s ≡ 1 → misdrawn_line s ≡ i → Earlier d s → Applies text s → ⊥

pub record LineExact (text : List ℕ) (i : ℕ) (d : Result ⊤ Misdrawn) : Type 0 where
  pub free : Free text i d
  pub fault : (r : Misdrawn) → d ≡ Err r → (stage r ≡ 1) × (misdrawn_line r ≡ i) × Applies text r

clean-exact : (text : List ℕ) (i : ℕ) → Free text i (Ok tt) → LineExact text i (Ok tt)
clean-exact text i free = record { free = free; fault = λ r e. let z : ◌≡◌ {A = ℕ} 0 1 = cc in absurd (omega arith) }

fault-exact : (text : List ℕ) (i : ℕ) (r : Misdrawn) → stage r ≡ 1 → misdrawn_line r ≡ i → Applies text r → Free text i (Err r) → LineExact text i (Err r)
fault-exact text i r p q a free = record {
  free = free;
  fault = λ s e. let same : r ≡ s = cc in subst (λ (x : Misdrawn). (stage x ≡ 1) × (misdrawn_line x ≡ i) × Applies text x) same (p, q, a);
}

-- the form of a line, both ways
not-number : (f : Field) → is_number f ≡ false → BadField f
unfolding is_number BadField
not-number (Number x) e = let z : ◌≡◌ {A = ℕ} 0 1 = cc in absurd (omega arith)
not-number Blank e = tt
not-number Bad e = tt

numbered-good : (f g : Field) (e : ℕ) → is_number f ≡ true → is_number g ≡ true → eqb e 10 ≡ true → numbered f g e ≡ true
unfolding numbered
numbered-good f g e u v w = simp (u, v, w)

Misformed : Type 0 → Field → Field → ℕ → Type 0
Misformed Letter f g e = (Letter → ⊥) ⊎ (BadField f ⊎ (BadField g ⊎ (e ≡ 10 → ⊥)))

contrary : {A : Type 0} → false ≡ true → A
contrary e = let z : ◌≡◌ {A = ℕ} 0 1 = cc in absurd (omega arith)

formed-false : (Letter : Type 0) (allowed : Bool) (f g : Field) (e : ℕ) → allowed ≡ true ↔ Letter → formed allowed f g e ≡ false → Misformed Letter f g e
unfolding formed Misformed
formed-false Letter false f g e tells h = inl (λ l. contrary (tells.1 l))
formed-false Letter true f g e tells h = rest (is_number f) (is_number g) (eqb e 10) refl refl refl
  where
    rest : (p q r : Bool) → is_number f ≡ p → is_number g ≡ q → eqb e 10 ≡ r → Misformed Letter f g e
    rest false q r u v w = inr (inl (not-number f u))
    rest true false r u v w = inr (inr (inl (not-number g v)))
    rest true true false u v w = inr (inr (inr (eqb-false e 10 w)))
    rest true true true u v w = contrary (sym h ∙ numbered-good f g e u v w)

number-not-bad : (f : Field) (x : ℕ) → f ≡ Number x → BadField f → ⊥
unfolding BadField
number-not-bad f x p q = subst BadField p q

-- the second field of each kind of line
pub position-second : (text : List ℕ) (i : ℕ) → PositionLine text i → BadSecond text i ↔ BadField (mark_at text i)
unfolding BadSecond
position-second text i p = (⊎_elim (λ w. w.1) (λ w. absurd (w.0 p)), λ e. inl (p, e))

pub other-second : (text : List ℕ) (i : ℕ) → (PositionLine text i → ⊥) → BadSecond text i ↔ BadField (second_at text i)
unfolding BadSecond
other-second text i not = (⊎_elim (λ w. absurd (not w.0)) (λ w. w.1), λ e. inr (not, e))

pub form-good : (Letter : Type 0) (text : List ℕ) (i : ℕ) (second : Field) → BadSecond text i ↔ BadField second → Allowed text i (letter_at text i) →
    Formed Letter (first_at text i) second (end_at text i) → BadForm text i → ⊥
unfolding BadForm
form-good Letter text i second same allowed w bad =
    ⊎_elim (λ no. no allowed)
    (⊎_elim (λ e. number-not-bad (first_at text i) _ w.first-number e)
    (⊎_elim (λ e. number-not-bad second _ w.second-number (same.0 e)) (λ no. no w.ends)))
    bad.1

form-bad : (Letter : Type 0) (text : List ℕ) (i : ℕ) (second : Field) → BadSecond text i ↔ BadField second → i ≤ positions_of text + moves_of text →
    (Allowed text i (letter_at text i) → Letter) → Misformed Letter (first_at text i) second (end_at text i) → BadForm text i
unfolding BadForm Misformed
form-bad Letter text i second same inside only w =
    (inside, ⊎_elim (λ no. inl (λ allowed. no (only allowed))) (λ x. inr (⊎_elim inl (λ y. inr (⊎_elim (λ e. inl (same.1 e)) inr y)) x)) w)

-- on line i nothing before this finding applies, if none of those that can stand there does
module _ (text : List ℕ) (i : ℕ) (d : Result ⊤ Misdrawn) (form : Earlier d (Form i) → BadForm text i → ⊥)
    (first : i ≡ 0 → (Earlier d Limits → OutsideLimits text → ⊥) × (Earlier d Count → WrongCount text → ⊥)) (sequence : Earlier d (Sequence i) → OutOfSequence text i → ⊥)
    (endpoint : Earlier d (Endpoint i) → BadEndpoint text i → ⊥) (disturbed : Earlier d (Disturbed i) → BadDisturbance text i → ⊥)
    (resting : Earlier d (Resting i) → MeantAtRest text i → ⊥) (order : Earlier d (Order i) → OutOfOrder text i → ⊥) where
  line-free : Free text i d
  line-free Length a e l w = omega arith
  line-free (Form line) a e l w = subst (λ (k : ℕ). Earlier d (Form k) → BadForm text k → ⊥) (sym e) form l w
  line-free Limits a e l w = (first (sym e)).0 l w
  line-free Count a e l w = (first (sym e)).1 l w
  line-free (Sequence line) a e l w = subst (λ (k : ℕ). Earlier d (Sequence k) → OutOfSequence text k → ⊥) (sym e) sequence l w
  line-free (Endpoint line) a e l w = subst (λ (k : ℕ). Earlier d (Endpoint k) → BadEndpoint text k → ⊥) (sym e) endpoint l w
  line-free (Disturbed line) a e l w = subst (λ (k : ℕ). Earlier d (Disturbed k) → BadDisturbance text k → ⊥) (sym e) disturbed l w
  line-free (Resting line) a e l w = subst (λ (k : ℕ). Earlier d (Resting k) → MeantAtRest text k → ⊥) (sym e) resting l w
  line-free (Order line) a e l w = subst (λ (k : ℕ). Earlier d (Order k) → OutOfOrder text k → ⊥) (sym e) order l w
  line-free (NoMeant line) a e l w = omega arith

-- so on a position line, on a move line and on the header
position-free : (text : List ℕ) (i : ℕ) (d : Result ⊤ Misdrawn) → PositionLine text i → (Earlier d (Form i) → BadForm text i → ⊥) → (Earlier d (Sequence i) → OutOfSequence text i → ⊥) → Free text i d
unfolding BadEndpoint BadDisturbance MeantAtRest OutOfOrder
position-free text i d p form sequence =
    line-free text i d form (λ z. absurd (omega (arith, p.0))) sequence (λ l w. omega (arith, p.1, w.0.0)) (λ l w. omega (arith, p.1, w.0.0)) (λ l w. omega (arith, p.1, w.0.0))
    (λ l w. omega (arith, p.1, w.0.0))

move-free : (text : List ℕ) (i : ℕ) (d : Result ⊤ Misdrawn) → MoveLine text i → (Earlier d (Form i) → BadForm text i → ⊥) → (Earlier d (Endpoint i) → BadEndpoint text i → ⊥) →
    (Earlier d (Disturbed i) → BadDisturbance text i → ⊥) → (Earlier d (Resting i) → MeantAtRest text i → ⊥) → (Earlier d (Order i) → OutOfOrder text i → ⊥) → Free text i d
unfolding OutOfSequence
move-free text i d p form endpoint disturbed resting order =
    line-free text i d form (λ z. absurd (omega (arith, p.0))) (λ l w. omega (arith, p.0, w.0.1)) endpoint disturbed resting order

header-free : (text : List ℕ) (d : Result ⊤ Misdrawn) → (Earlier d (Form 0) → BadForm text 0 → ⊥) → (Earlier d Limits → OutsideLimits text → ⊥) → (Earlier d Count → WrongCount text → ⊥) → Free text 0 d
unfolding OutOfSequence BadEndpoint BadDisturbance MeantAtRest OutOfOrder
header-free text d form limits count =
    line-free text 0 d form (λ z. (limits, count)) (λ l w. omega (arith, w.0.0)) (λ l w. omega (arith, w.0.0)) (λ l w. omega (arith, w.0.0)) (λ l w. omega (arith, w.0.0))
    (λ l w. omega (arith, w.0.0))

-- the letters of each kind of line
position-letters : (text : List ℕ) (i letter : ℕ) → PositionLine text i → Allowed text i letter → PositionLetter letter
unfolding Allowed
position-letters text i letter p =
    ⊎_elim (λ w. absurd (omega (arith, p.0, w.0))) (⊎_elim (λ w. w.1) (λ w. absurd (omega (arith, p.1, w.0.0))))

move-letters : (text : List ℕ) (i letter : ℕ) → MoveLine text i → Allowed text i letter → MoveLetter letter
unfolding Allowed
move-letters text i letter p =
    ⊎_elim (λ w. absurd (omega (arith, p.0, w.0))) (⊎_elim (λ w. absurd (omega (arith, p.0, w.0.1))) (λ w. w.1))

header-letters : (text : List ℕ) (letter : ℕ) → Allowed text 0 letter → HeaderLetter letter
unfolding Allowed
header-letters text letter =
    ⊎_elim (λ w. w.1) (⊎_elim (λ w. absurd (omega (arith, w.0.0))) (λ w. absurd (omega (arith, w.0.0))))

position-bad : (text : List ℕ) (i : ℕ) → PositionLine text i → position_formed text i ≡ false → BadForm text i
unfolding position_formed
position-bad text i p h =
    form-bad (PositionLetter (letter_at text i)) text i (mark_at text i) (position-second text i p) (omega (arith, p.1)) (position-letters text i (letter_at text i) p)
    (formed-false _ _ (first_at text i) (mark_at text i) (end_at text i) (position-letter (letter_at text i)) h)

position-good : (text : List ℕ) (i : ℕ) → PositionLine text i → position_formed text i ≡ true → BadForm text i → ⊥
unfolding Allowed
position-good text i p h =
    let w = position-form text i h in
    form-good (PositionLetter (letter_at text i)) text i (mark_at text i) (position-second text i p) (inr (inl (p, w.allowed))) w

position-exact : (text : List ℕ) (i : ℕ) → PositionLine text i → LineExact text i (position_finding text i)
unfolding position_finding judged_position OutOfSequence
position-exact text i p = go (position_formed text i) (eqb (from_at text i) (i - 1)) (ltb 1 (field_number (mark_at text i))) refl refl refl
  where
    go : (b c d : Bool) → position_formed text i ≡ b → eqb (from_at text i) (i - 1) ≡ c → ltb 1 (field_number (mark_at text i)) ≡ d → LineExact text i (position_finding text i)
    go false c d u v w = simp u (fault-exact text i (Form i) refl refl (position-bad text i p u) (position-free text i (Err (Form i)) p (λ l. omega arith) (λ l. omega arith)))
    go true false d u v w =
        simp (u, v)
        (fault-exact text i (Sequence i) refl refl (p, inl (eqb-false (from_at text i) (i - 1) v))
        (position-free text i (Err (Sequence i)) p (λ l. position-good text i p u) (λ l. omega arith)))
    go true true true u v w =
        simp (u, v, w)
        (fault-exact text i (Sequence i) refl refl (p, inr (ltb-true 1 (field_number (mark_at text i)) w))
        (position-free text i (Err (Sequence i)) p (λ l. position-good text i p u) (λ l. omega arith)))
    go true true false u v w =
        simp (u, v, w)
        (clean-exact text i
        (position-free text i (Ok tt) p (λ l. position-good text i p u)
        (λ l bad. ⊎_elim (λ no. no (eqb-true (from_at text i) (i - 1) v)) (λ high. omega (arith, ltb-false 1 (field_number (mark_at text i)) w)) bad.1)))

-- the order of moves is the test of two moves
rises-above : (a b : Move) → Rises a b → above a.from a.cost a.to b.from b.cost b.to ≡ true
unfolding above Rises
rises-above a b =
    ⊎_elim (λ l. simp (lt-ltb a.from b.from l))
    (λ w.
    let e = w.0 in
    ⊎_elim
    (λ l. simp (le-ltb a.from b.from (omega arith), le-ltb b.from a.from (omega arith), lt-ltb a.cost b.cost l))
    (λ x.
    let f = x.0 in
    simp (
      le-ltb a.from b.from (omega arith),
      le-ltb b.from a.from (omega arith),
      le-ltb a.cost b.cost (omega arith),
      le-ltb b.cost a.cost (omega arith),
      lt-ltb a.to b.to x.1,
    ))
    w.1)

rises-line : (text : List ℕ) (i : ℕ) → Rises (move_on text (i - 1)) (move_on text i) → rises text i ≡ true
unfolding rises move_on
rises-line text i w = rises-above (move_on text (i - 1)) (move_on text i) w

move-bad : (text : List ℕ) (i : ℕ) → MoveLine text i → move_formed text i ≡ false → BadForm text i
unfolding move_formed
move-bad text i p h =
    form-bad (MoveLetter (letter_at text i)) text i (second_at text i) (other-second text i (λ q. omega (arith, p.0, q.1))) p.1 (move-letters text i (letter_at text i) p)
    (formed-false _ _ (first_at text i) (second_at text i) (end_at text i) (move-letter (letter_at text i)) h)

move-good : (text : List ℕ) (i : ℕ) → MoveLine text i → move_formed text i ≡ true → BadForm text i → ⊥
unfolding Allowed
move-good text i p h =
    let w = move-form text i h in
    form-good (MoveLetter (letter_at text i)) text i (second_at text i) (other-second text i (λ q. omega (arith, p.0, q.1))) (inr (inr (p, w.allowed))) w

order-exact : (text : List ℕ) (i : ℕ) → MoveLine text i → (BadForm text i → ⊥) → (BadEndpoint text i → ⊥) → (BadDisturbance text i → ⊥) → (MeantAtRest text i → ⊥) →
    LineExact text i (ordered (positions_of text) i (rises text i))
unfolding ordered OutOfOrder
order-exact text i p form endpoint disturbed resting = go (leb (i - 1) (positions_of text)) (rises text i) refl refl
  where
    free : (d : Result ⊤ Misdrawn) → (Earlier d (Order i) → OutOfOrder text i → ⊥) → Free text i d
    free d order = move-free text i d p (λ l. form) (λ l. endpoint) (λ l. disturbed) (λ l. resting) order

    go : (b c : Bool) → leb (i - 1) (positions_of text) ≡ b → rises text i ≡ c → LineExact text i (ordered (positions_of text) i (rises text i))
    go true c u v = simp u (clean-exact text i (free (Ok tt) (λ l w. omega (arith, leb-true (i - 1) (positions_of text) u, w.1.0.0))))
    go false true u v = simp (u, v) (clean-exact text i (free (Ok tt) (λ l w. w.1.1 (line-rises text i v))))
    go false false u v =
        simp (u, v)
        (fault-exact text i (Order i) refl refl
        (p, ((leb-false (i - 1) (positions_of text) u, omega (arith, p.1)), λ w. contrary (sym v ∙ rises-line text i w)))
        (free (Err (Order i)) (λ l. omega arith)))

-- 7 is of the letter `D`, 17 of `M`: neither stands before the other
owner-exact : (text : List ℕ) (i : ℕ) → MoveLine text i → (BadForm text i → ⊥) → (BadEndpoint text i → ⊥) →
    LineExact text i (judged_owner (positions_of text) i (letter_at text i) (letter_at text (from_at text i + 1)) (rises text i))
unfolding judged_owner BadDisturbance MeantAtRest
owner-exact text i p form endpoint = go (eqb letter 68) (eqb owner 76) (eqb letter 77) (eqb owner 82) refl refl refl refl
  where
    letter : ℕ
    letter = letter_at text i

    owner : ℕ
    owner = letter_at text (from_at text i + 1)

    found : Result ⊤ Misdrawn
    found = judged_owner (positions_of text) i letter owner (rises text i)

    go : (b c d e : Bool) → eqb letter 68 ≡ b → eqb owner 76 ≡ c → eqb letter 77 ≡ d → eqb owner 82 ≡ e → LineExact text i found
    go true true d e u v w x =
        simp (u, v)
        (fault-exact text i (Disturbed i) refl refl (p, (eqb-true letter 68 u, eqb-true owner 76 v))
        (move-free text i (Err (Disturbed i)) p (λ l. form) (λ l. endpoint) (λ l. omega arith) (λ l. omega arith) (λ l. omega arith)))
    go true false d e u v w x =
        simp (u, v)
        (order-exact text i p form endpoint (λ bad. eqb-false owner 76 v bad.1.1) (λ bad. omega (arith, eqb-true letter 68 u, bad.1.0)))
    go false c true true u v w x =
        simp (u, w, x)
        (fault-exact text i (Resting i) refl refl (p, (eqb-true letter 77 w, eqb-true owner 82 x))
        (move-free text i (Err (Resting i)) p (λ l. form) (λ l. endpoint) (λ l bad. eqb-false letter 68 u bad.1.0) (λ l. omega arith) (λ l. omega arith)))
    go false c true false u v w x =
        simp (u, w, x)
        (order-exact text i p form endpoint (λ bad. eqb-false letter 68 u bad.1.0) (λ bad. eqb-false owner 82 x bad.1.1))
    go false c false e u v w x =
        simp (u, w)
        (order-exact text i p form endpoint (λ bad. eqb-false letter 68 u bad.1.0) (λ bad. eqb-false letter 77 w bad.1.0))

move-exact : (text : List ℕ) (i : ℕ) → MoveLine text i → LineExact text i (move_finding text (positions_of text) i)
unfolding move_finding judged_move BadEndpoint
move-exact text i p = go (move_formed text i) (leb (positions_of text) (from_at text i)) (leb (positions_of text) (to_at text i)) refl refl refl
  where
    inside : leb (positions_of text) (from_at text i) ≡ false → leb (positions_of text) (to_at text i) ≡ false → BadEndpoint text i → ⊥
    inside v w bad =
        ⊎_elim (λ l. omega (arith, leb-false (positions_of text) (from_at text i) v)) (λ l. omega (arith, leb-false (positions_of text) (to_at text i) w)) bad.1

    go : (b c d : Bool) → move_formed text i ≡ b → leb (positions_of text) (from_at text i) ≡ c → leb (positions_of text) (to_at text i) ≡ d →
        LineExact text i (move_finding text (positions_of text) i)
    go false c d u v w =
        simp u
        (fault-exact text i (Form i) refl refl (move-bad text i p u)
        (move-free text i (Err (Form i)) p (λ l. omega arith) (λ l. omega arith) (λ l. omega arith) (λ l. omega arith) (λ l. omega arith)))
    go true true d u v w =
        simp (u, v)
        (fault-exact text i (Endpoint i) refl refl (p, inl (leb-true (positions_of text) (from_at text i) v))
        (move-free text i (Err (Endpoint i)) p (λ l. move-good text i p u) (λ l. omega arith) (λ l. omega arith) (λ l. omega arith) (λ l. omega arith)))
    go true false true u v w =
        simp (u, v, w)
        (fault-exact text i (Endpoint i) refl refl (p, inr (leb-true (positions_of text) (to_at text i) w))
        (move-free text i (Err (Endpoint i)) p (λ l. move-good text i p u) (λ l. omega arith) (λ l. omega arith) (λ l. omega arith) (λ l. omega arith)))
    go true false false u v w = simp (u, v, w) (owner-exact text i p (move-good text i p u) (inside v w))

-- the header's answer as a finding
abbrev pub finding_of : Result Chart Misdrawn → Result ⊤ Misdrawn
finding_of (Ok chart) = Ok tt
finding_of (Err r) = Err r

header-bad : (text : List ℕ) → header_formed text ≡ false → BadForm text 0
unfolding header_formed
header-bad text h =
    form-bad (HeaderLetter (letter_at text 0)) text 0 (second_at text 0) (other-second text 0 (λ q. omega (arith, q.0))) (omega arith) (header-letters text (letter_at text 0))
    (formed-false _ _ (first_at text 0) (second_at text 0) (end_at text 0) (header-letter (letter_at text 0)) h)

header-good : (text : List ℕ) → header_formed text ≡ true → BadForm text 0 → ⊥
unfolding Allowed
header-good text h =
    let w = header-form text h in
    form-good (HeaderLetter (letter_at text 0)) text 0 (second_at text 0) (other-second text 0 (λ q. omega (arith, q.0))) (inl (refl, w.allowed)) w

inside-limits : (text : List ℕ) → ltb (positions_of text) 1 ≡ false → ltb 512 (positions_of text) ≡ false → ltb (moves_of text) 1 ≡ false → ltb 4096 (moves_of text) ≡ false → OutsideLimits text → ⊥
unfolding OutsideLimits
inside-limits text v w x y =
    ⊎_elim (λ l. omega (arith, ltb-false (positions_of text) 1 v))
    (⊎_elim (λ l. omega (arith, ltb-false 512 (positions_of text) w))
    (⊎_elim (λ l. omega (arith, ltb-false (moves_of text) 1 x)) (λ l. omega (arith, ltb-false 4096 (moves_of text) y))))

pub header-exact : (text : List ℕ) → LineExact text 0 (finding_of (header_of text))
unfolding header_of limits_of OutsideLimits WrongCount
header-exact text =
    go (header_formed text) (ltb n 1) (ltb 512 n) (ltb m 1) (ltb 4096 m) (eqb (length text) ((1 + n + m) * 12)) refl refl refl refl refl refl
  where
    n : ℕ
    n = positions_of text

    m : ℕ
    m = moves_of text

    outside : header_formed text ≡ true → OutsideLimits text → LineExact text 0 (Err Limits)
    outside u w = fault-exact text 0 Limits refl refl w (header-free text (Err Limits) (λ l. header-good text u) (λ l. omega arith) (λ l. omega arith))

    go : (a b c d e f : Bool) → header_formed text ≡ a → ltb n 1 ≡ b → ltb 512 n ≡ c → ltb m 1 ≡ d → ltb 4096 m ≡ e → eqb (length text) ((1 + n + m) * 12) ≡ f →
        LineExact text 0 (finding_of (header_of text))
    go false b c d e f u v w x y z =
        simp u (fault-exact text 0 (Form 0) refl refl (header-bad text u) (header-free text (Err (Form 0)) (λ l. omega arith) (λ l. omega arith) (λ l. omega arith)))
    go true true c d e f u v w x y z = simp (u, v) (outside u (inl (ltb-true n 1 v)))
    go true false true d e f u v w x y z = simp (u, v, w) (outside u (inr (inl (ltb-true 512 n w))))
    go true false false true e f u v w x y z = simp (u, v, w, x) (outside u (inr (inr (inl (ltb-true m 1 x)))))
    go true false false false true f u v w x y z = simp (u, v, w, x, y) (outside u (inr (inr (inr (ltb-true 4096 m y)))))
    go true false false false false false u v w x y z =
        simp (u, v, w, x, y, z)
        (fault-exact text 0 Count refl refl (eqb-false (length text) ((1 + n + m) * 12) z)
        (header-free text (Err Count) (λ l. header-good text u) (λ l. inside-limits text v w x y) (λ l. omega arith)))
    go true false false false false true u v w x y z =
        simp (u, v, w, x, y, z)
        (clean-exact text 0
        (header-free text (Ok tt) (λ l. header-good text u) (λ l. inside-limits text v w x y) (λ l no. no (eqb-true (length text) ((1 + n + m) * 12) z))))

pub line-exact : (text : List ℕ) (i : ℕ) → 1 ≤ i → i ≤ positions_of text + moves_of text → LineExact text i (line_finding text (positions_of text) i)
line-exact text i l h = go (leb i (positions_of text)) refl
  where
    go : (b : Bool) → leb i (positions_of text) ≡ b → LineExact text i (line_finding text (positions_of text) i)
    go true e =
        let k : i ≤ positions_of text = leb-true i (positions_of text) e in
        rw (line-position text (positions_of text) i k) (position-exact text i (l, k))
    go false e =
        let k : positions_of text < i = leb-false i (positions_of text) e in
        rw (line-move text (positions_of text) i k) (move-exact text i (k, h))

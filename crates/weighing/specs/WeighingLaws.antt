-- Weighing over rows is weighing in the arena: the copied moves are the restricted arena's, whose values are the worths
-- (game: `restricted-value-is-worth`), and the code's test of the choices is condition 3.
use Rattle.std.specs.Prelude.{ℕ, ◌≤◌, ◌<◌, cond, ◌&&◌, List, length, get_or, T, eqb, leb, Ok, Err}
use Rattle.std.proofs.Common.{arith, subst, ◌∙◌}
use Rattle.std.proofs.Math.Path.{◌≡◌, refl, sym, ap}
use Rattle.std.proofs.Math.Bool.{Bool, true, false, not, and-true, and-false}
use borrow.Author.Tests.{eq-eqb, ne_eqb}
use Rattle.rows.specs.RowsLaws.{from-inside, to_inside, owner-test, lines_of}
use Rattle.rows.specs.Rows.{RowIs, owner_number, RowsOf}
use Rattle.rows.specs.Numbers.{number_of, value_of, number_at, row_value}
use Rattle.rows.specs.NumberLaws.{Fits, value-of-number, same-values, ever-number}
use Rattle.rows.specs.Notes.{Noted}
use Rattle.rows.specs.Copies.{CopyOf, kept-count, kept-column}
use Rattle.search.specs.Below.{some_below, some_same, some-hit, some-none, bit, bit-one}
use Rattle.game.specs.Value.{Value, fin, value_eq}
use Rattle.game.specs.Arena.{Arena, Move, Owner, controller, environment, nobody, WellFormed, size, owner_at, move_at}
use Rattle.game.specs.Play.{Legal, LegalAt, positional}
use Rattle.game.specs.Worth.{WorthIs}
use Rattle.game.specs.Restrict.{stays, restricted}
use Rattle.game.proofs.RestrictLaws.{restricted-is-well-formed, restricted-value-is-worth}
use Rattle.game.proofs.RoundValues.{rounds-give-the-values}
use Rattle.game.specs.Table.{round_value, meant_from}
use Rattle.game.specs.Fault.{legal_as}
use Rattle.game.proofs.ConditionTests.{legal-test}
use Rattle.chart.specs.Meaning.{arena_of}
use Rattle.chart.specs.Examined.{examined}
use Rattle.chart.specs.Accepted.{accepted-size}
use Rattle.rows.specs.declared.Chart.{Chart}
use Rattle.refusal.specs.declared.Misdrawn.{Misdrawn}
use Rattle.refusal.specs.declared.Refusal.{Refusal}
use Rattle.refusal.specs.declared.Refusal.TheVariants.{Chart as OfChart, Short, Choice}
use Rattle.solver.specs.Solving.{Solved}
use Rattle.valuing.specs.ValuingLaws.{round-value-fits}
use Rattle.restriction.specs.Restriction.{is_chosen, is_legal, move_stays, Copied}
use Rattle.restriction.specs.RestrictionLaws.{copied-fewer}
use Rattle.weighing.specs.Weighing.{legal_row, WorthRow, RestrictedSolved, RowsWeighed, weighed, weighed_by, WeighedIs}

-- The moves that stay

module _ (a : Arena) (n m : ℕ) (owners marks costs froms tos choices : List ℕ) (d : RowsOf a n m owners marks costs froms tos) where
  abbrev choice : ℕ → Value
  choice = row_value choices

  -- a target as a choice
  target-choice : (x t : ℕ) → t < n → value_eq (value_of x) (fin t) ≡ eqb x t
  unfolding value_of
  target-choice x t l = rw (← same-values x t, ne_eqb t 65535 (λ e. omega (arith, d.few-positions)))

  stays-is : (j : ℕ) → j < m → move_stays owners costs froms tos choices j ≡ stays a choice (move_at a j)
  unfolding move_stays stays
  stays-is j l =
      rw (d.cost j l, d.from j l, d.to j l, owner-test a n m owners marks costs froms tos d (move_at a j).from (from-inside a n m owners marks costs froms tos d j l), ← target-choice (get_or choices (move_at a j).from 0) (move_at a j).to (to_inside a n m owners marks costs froms tos d j l))

  module _ (count : ℕ) (costs' froms' tos' : List ℕ) (copied : Copied owners costs froms tos choices m count costs' froms' tos') where
    -- a column of the moves that stay
    column : (f : Move → ℕ) (row copy : List ℕ) → RowIs row m (λ i. f (move_at a i)) → CopyOf (move_stays owners costs froms tos choices) m row copy
        → RowIs copy count (λ j. f (move_at (restricted a choice) j))
    unfolding restricted
    column f row copy is Copy-is j l =
        let stay = kept-count a m d.moves (stays a choice) (move_stays owners costs froms tos choices) stays-is in
        kept-column a m d.moves (stays a choice) (move_stays owners costs froms tos choices) stays-is f row copy is Copy-is j (omega (arith, stay, copied.counted))

    pub copied-rows : Legal a choice → count ≤ length costs' → count ≤ length froms' → count ≤ length tos' → RowsOf (restricted a choice) n count owners marks costs' froms' tos'
    unfolding restricted
    copied-rows legal lc lf lt =
        let fewer = copied-fewer copied in
        record {
          well = restricted-is-well-formed a choice d.well legal;
          positions = d.positions;
          moves = kept-count a m d.moves (stays a choice) (move_stays owners costs froms tos choices) stays-is ∙ sym copied.counted;
          few-positions = d.few-positions;
          few-moves = omega (arith, d.few-moves);
          owner = d.owner;
          mark = d.mark;
          cost = column (λ x. x.cost) costs costs' d.cost copied.cost;
          from = column (λ x. x.from) froms froms' d.from copied.from;
          to = column (λ x. x.to) tos tos' d.to copied.to;
          owners-row = d.owners-row;
          marks-row = d.marks-row;
          costs-row = lc;
          froms-row = lf;
          tos-row = lt;
        }

    -- the rounds of the copied moves are the restricted arena's
    pub solved-worths : {worths worths' steps steps' : List ℕ} → Legal a choice → count ≤ length costs' → count ≤ length froms' → count ≤ length tos'
        → Solved n count owners marks costs' froms' tos' worths steps worths' steps' → RowIs worths' n (λ v. number_of (round_value (restricted a choice) v))
    unfolding round_value
    solved-worths legal lc lf lt solved = (solved.rows (restricted a choice) (copied-rows legal lc lf lt)).value

  -- The choices

  -- the code's test is condition 3
  legal-is : (flags : List ℕ) → Noted n (number_at froms) (is_chosen costs froms tos choices) (λ v. bit) m flags → (v : ℕ) → v < n
      → is_legal owners choices flags v ≡ legal_as a choice choice choice (owner_at a v) v
  unfolding is_legal legal_as is_chosen meant_from
  legal-is flags noted v l = rw (d.owner v l) (go (owner_at a v) refl)
    where
      into : Move → Bool
      into x = meant_from v x && value_eq (choice v) (fin x.to)

      same : (j : ℕ) → j < m → (move_at a j).from ≡ v → is_chosen costs froms tos choices j ≡ into (move_at a j)
      same j k z =
          rw (d.cost j k, d.from j k, d.to j k, eq-eqb (move_at a j).from v z, and-true, target-choice (get_or choices v 0) (move_at a j).to (to_inside a n m owners marks costs froms tos d j k), z)

      other : (x : Move) → eqb x.from v ≡ false → into x ≡ false
      other x e = rw (e, and-false)

      go : (o : Owner) → owner_at a v ≡ o
          → cond (eqb (owner_number o) 0) (eqb (get_or flags v 0) 1) (eqb (get_or choices v 0) 65535) ≡ legal_as a choice choice choice o v
      go controller own = rw (noted.notes v l) (bit-one _ ∙ lines_of a n m owners marks costs froms tos d v (is_chosen costs froms tos choices) into same other)
      go environment own = sym (ever-number (get_or choices v 0))
      go nobody own = sym (ever-number (get_or choices v 0))

  pub legal-row-is : (flags : List ℕ) → Noted n (number_at froms) (is_chosen costs froms tos choices) (λ v. bit) m flags
      → not (some_below (λ v. not (is_legal owners choices flags v)) n) ≡ legal_row a choice n
  unfolding legal_row
  legal-row-is flags noted =
      ap not (some_same (λ v. not (is_legal owners choices flags v)) (λ v. not (legal_as a choice choice choice (owner_at a v) v)) n (λ v l. ap not (legal-is flags noted v l)))

-- legal choices, as a test
pub legal-row-sound : (a : Arena) (choice : ℕ → Value) → legal_row a choice (size a) ≡ true → Legal a choice
unfolding legal_row
legal-row-sound a choice e v l = go (legal_as a choice choice choice (owner_at a v) v) refl
  where
    go : (b : Bool) → legal_as a choice choice choice (owner_at a v) v ≡ b → LegalAt a choice v
    go true f = (legal-test a choice choice choice (owner_at a v) v).0 (subst T (sym f) tt)
    go false f =
        let w : ◌≡◌ {A = Bool} false true = ap not (sym (some-hit (λ u. not (legal_as a choice choice choice (owner_at a u) u)) (size a) v l (ap not f))) ∙ e in
        let z : ◌≡◌ {A = ℕ} 0 1 = cc in
        absurd (omega arith)

-- legal choices, by the code's test
pub flags-say-legal : (a : Arena) (n m : ℕ) (owners marks costs froms tos choices : List ℕ) (d : RowsOf a n m owners marks costs froms tos) (flags : List ℕ)
    → Noted n (number_at froms) (is_chosen costs froms tos choices) (λ v. bit) m flags → not (some_below (λ v. not (is_legal owners choices flags v)) n) ≡ true → Legal a (row_value choices)
flags-say-legal a n m owners marks costs froms tos choices d flags noted e =
    legal-row-sound a (row_value choices) (rw d.positions (sym (legal-row-is a n m owners marks costs froms tos choices d flags noted) ∙ e))

pub legal-row-complete : (a : Arena) (choice : ℕ → Value) → Legal a choice → legal_row a choice (size a) ≡ true
unfolding legal_row
legal-row-complete a choice legal =
    ap not (some-none (λ u. not (legal_as a choice choice choice (owner_at a u) u)) (size a)
    (λ v l. ap not (true-is (legal_as a choice choice choice (owner_at a v) v) ((legal-test a choice choice choice (owner_at a v) v).1 (legal v l)))))
  where
    true-is : (b : Bool) → T b → b ≡ true
    true-is true h = refl
    true-is false h = absurd h

-- the rounds of the restricted arena are the worths
pub restricted-rounds-are-worths : (a : Arena) (wf : WellFormed a) (choice : ℕ → Value) (legal : Legal a choice) (v : ℕ) → v < size a
    → WorthIs a (positional a choice legal) v (round_value (restricted a choice) v)
unfolding restricted
restricted-rounds-are-worths a wf choice legal v l =
    (restricted-value-is-worth a choice wf legal v (round_value (restricted a choice) v)).0
    (rounds-give-the-values (restricted a choice) (restricted-is-well-formed a choice wf legal) v l)

pub worths-fit : (a : Arena) (wf : WellFormed a) (choice : ℕ → Value) (legal : Legal a choice) → size a ≤ 512 → (v : ℕ) → Fits (round_value (restricted a choice) v)
unfolding restricted
worths-fit a wf choice legal few v = round-value-fits (restricted a choice) (restricted-is-well-formed a choice wf legal) few v

-- The answers over rows

module _ {n m : ℕ} {owners marks costs froms tos choices worths : List ℕ} where
  module _ {flags : List ℕ} (noted : Noted n (number_at froms) (is_chosen costs froms tos choices) (λ v. bit) m flags) where
    pub weighed-illegal : not (some_below (λ v. not (is_legal owners choices flags v)) n) ≡ false → RowsWeighed n m owners marks costs froms tos choices worths worths false
    weighed-illegal e =
        record {
          answer = λ a d. sym e ∙ legal-row-is a n m owners marks costs froms tos choices d flags noted;
          taken = λ a d f. let z : ◌≡◌ {A = ℕ} 0 1 = cc in absurd (omega arith);
          refused = λ f. refl;
        }

    pub weighed-legal : {worths' : List ℕ} → not (some_below (λ v. not (is_legal owners choices flags v)) n) ≡ true
        → {count : ℕ} {costs' froms' tos' : List ℕ} → RestrictedSolved n m owners marks costs froms tos choices worths count costs' froms' tos' worths' → length worths' ≡ length worths
        → RowsWeighed n m owners marks costs froms tos choices worths worths' true
    weighed-legal {worths'} e solved same =
        record {
          answer = λ a d. sym e ∙ legal-row-is a n m owners marks costs froms tos choices d flags noted;
          taken = λ a d f. worth-row a d;
          refused = λ f. let z : ◌≡◌ {A = ℕ} 0 1 = cc in absurd (omega arith);
        }
      where
        worth-row : (a : Arena) → RowsOf a n m owners marks costs froms tos → WorthRow a n choices worths worths'
        worth-row a d =
            let c = row_value choices in
            let legal : Legal a c = flags-say-legal a n m owners marks costs froms tos choices d flags noted e in
            let row = (solved.rows a d legal).worth in
            let p = d.positions in
            let few = d.few-positions in
            record {
              legal = legal;
              worth = λ v l.
                  subst (λ (x : Value). WorthIs a (positional a c legal) v x)
                  (sym (ap value_of (row v l) ∙ value-of-number (round_value (restricted a c) v) (worths-fit a d.well c legal (omega arith) v)))
                  (restricted-rounds-are-worths a d.well c legal v (omega arith));
              row = record { row = row; rest = solved.stay; same_length = same };
            }

pub restricted-solved : {n m count : ℕ} {owners marks costs froms tos choices costs' froms' tos' worths worths' steps steps' : List ℕ}
    → Copied owners costs froms tos choices m count costs' froms' tos' → count ≤ length costs' → count ≤ length froms' → count ≤ length tos'
    → Solved n count owners marks costs' froms' tos' worths steps worths' steps'
    → RestrictedSolved n m owners marks costs froms tos choices worths count costs' froms' tos' worths'
restricted-solved {n} {m} {count} {owners} {marks} {costs} {froms} {tos} {choices} {costs'} {froms'} {tos'} copied lc lf lt solved =
    record {
      rows = λ a d legal. record {
        well = d.well;
        legal = legal;
        rows = copied-rows a n m owners marks costs froms tos choices d count costs' froms' tos' copied legal lc lf lt;
        worth = solved-worths a n m owners marks costs froms tos choices d count costs' froms' tos' copied legal lc lf lt solved;
      };
      stay = solved.values-stay;
    }

-- The answers of the job

module _ {text choices worths : List ℕ} where
  -- a refusal leaves the row
  turned : {worths' : List ℕ} (x : Refusal) → Err x ≡ weighed text choices (length worths) → worths' ≡ worths → WeighedIs text choices worths worths' (Err x)
  turned x e same = record { answer = e; taken = λ z. let w : ◌≡◌ {A = ℕ} 0 1 = cc in absurd (omega arith); refused = λ y z. same }

  pub weighed-refused : {r : Misdrawn} → examined text ≡ Err r → WeighedIs text choices worths worths (Err (OfChart r))
  unfolding weighed weighed_by
  weighed-refused {r} e = turned (OfChart r) (rw e) refl

  pub weighed-short : {chart : Chart} → examined text ≡ Ok chart → (leb chart.positions (length choices) && leb chart.positions (length worths)) ≡ false
      → WeighedIs text choices worths worths (Err Short)
  unfolding weighed weighed_by
  weighed-short e short = turned Short (rw (e, short)) refl

  module _ {chart : Chart} {m : ℕ} {owners marks costs froms tos worths' : List ℕ} {r : Bool} (e : examined text ≡ Ok chart)
      (room : (leb chart.positions (length choices) && leb chart.positions (length worths)) ≡ true)
      (d : RowsOf (arena_of text) chart.positions m owners marks costs froms tos)
      (weighing : RowsWeighed chart.positions m owners marks costs froms tos choices worths worths' r) where
    pub weighed-taken : r ≡ true → WeighedIs text choices worths worths' (Ok tt)
    unfolding weighed weighed_by
    weighed-taken fact =
        let n = accepted-size text chart e in
        let fair : legal_row (arena_of text) (row_value choices) (size (arena_of text)) ≡ true = rw n (sym (weighing.answer (arena_of text) d) ∙ fact) in
        record {
          answer = rw (e, room, fair);
          taken = λ z. rw n (weighing.taken (arena_of text) d fact);
          refused = λ x z. let w : ◌≡◌ {A = ℕ} 0 1 = cc in absurd (omega arith);
        }

    pub weighed-unfair : r ≡ false → WeighedIs text choices worths worths' (Err Choice)
    unfolding weighed weighed_by
    weighed-unfair fact =
        let n = accepted-size text chart e in
        let unfair : legal_row (arena_of text) (row_value choices) (size (arena_of text)) ≡ false = rw n (sym (weighing.answer (arena_of text) d) ∙ fact) in
        turned Choice (rw (e, room, unfair)) (weighing.refused fact)

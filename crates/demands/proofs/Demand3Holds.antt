-- The third demand's proof: the plate's values are the values, its own controller attains them all, and worths are unique.
use Rattle.std.specs.Prelude.{ℕ, zero, suc, ◌≤◌, ◌<◌, ◌⊎◌, Bool, true, false, List, get_or, T, Ok}
use Rattle.std.proofs.Common.{arith, ◌∙◌, inl}
use Rattle.std.proofs.Math.Decide.{ℕ_discrete}
use Rattle.std.proofs.Math.Path.{◌≡◌, refl, sym, ap, subst}
use Rattle.std.proofs.Math.Logic.{inr}
use Rattle.std.proofs.Math.ListN.{length}
use borrow.Author.Tests.{le-leb}
use Rattle.plate.specs.RangeLaws.{below-fits, legal-below}
use Rattle.rows.specs.Numbers.{number_of, value_of, row_value}
use Rattle.rows.specs.NumberLaws.{Fits, value-of-number, number-of-value}
use Rattle.game.specs.Value.{Value, fin, ◌≼◌, value_eq}
use Rattle.game.proofs.ValueLaws.{value_eq-sound, ≼antisym}
use Rattle.game.specs.Arena.{Owner, controller, environment, nobody, WellFormed, size, owner_at}
use Rattle.game.specs.Play.{still, Controller, Legal, LegalAs, last, target_of, positional}
use Rattle.game.specs.Worth.{WorthIs, AtMost, IsValue}
use Rattle.game.proofs.Bounds.{value-is-bounds, worth-is-both-bounds, bounds-in-order}
use Rattle.game.proofs.Unique.{value-is-unique, worth-is-unique, worth-at-most-value}
use Rattle.game.proofs.Certified.{certificate-gives-worths}
use Rattle.game.proofs.Carry.{SameRow, certificate-carries}
use Rattle.game.proofs.Optimal.{optimal-never-falls}
use Rattle.game.specs.Table.{round_value}
use Rattle.game.proofs.RoundValues.{rounds-give-the-values}
use Rattle.chart.specs.Meaning.{arena_of}
use Rattle.chart.specs.Accepted.{accepted-chartable, accepted-size}
use Rattle.valuing.specs.ValuingLaws.{round-value-fits}
use Rattle.weighing.specs.Weighing.{weighed, weighed_by}
use Rattle.weighing.specs.WeighingLaws.{legal-row-complete}
use Rattle.plate.specs.Read.{value_in_plate, choice_in_plate, step_in_plate}
use Rattle.verdict.specs.Verdict.{RightPlate}
use Rattle.checking.specs.Answers.{AcceptedIs}
use Rattle.checking.specs.AnswersExact.{answer-exactly}
use Rattle.checking.specs.Plates.{accepted-plate-is-right}
use Rattle.refusal.specs.declared.Refusal.TheVariants.{Short}
use Rattle.demands.specs.SanctionedLaws.{sanctioned-is-accepted}
use Rattle.demands.specs.Demand1.{Clear}
use Rattle.demands.proofs.Demand1Holds.{demand-1}
use Rattle.demands.specs.Demand3.{ReadPlate, Weighing, controller_of, RowsAgree, NoneBetter, WorthAtMost, Other, Demand3}

-- two rows agree below n, or differ somewhere
agree-or-differ : (f g : ℕ → Value) (n : ℕ) → ((v : ℕ) → v < n → f v ≡ g v) ⊎ ((v : ℕ) × (v < n) × (f v ≡ g v → ⊥))
agree-or-differ f g zero = inl (λ v l. absurd (omega arith))
agree-or-differ f g (suc n) = go (agree-or-differ f g n) (value_eq (f n) (g n)) refl
  where
    go : ((v : ℕ) → v < n → f v ≡ g v) ⊎ ((v : ℕ) × (v < n) × (f v ≡ g v → ⊥)) → (b : Bool) → value_eq (f n) (g n) ≡ b
        → ((v : ℕ) → v < suc n → f v ≡ g v) ⊎ ((v : ℕ) × (v < suc n) × (f v ≡ g v → ⊥))
    go (inr d) b e = inr (d.0, omega (arith, d.1), d.2)
    go (inl all) true e = inl (λ v l. here v l (ℕ_discrete v n))
      where
        here : (v : ℕ) → v < suc n → Dec (v ≡ n) → f v ≡ g v
        here v l (yes z) = rw z ((value_eq-sound (f n) (g n)).0 (subst T (sym e) tt))
        here v l (no z) = all v (omega arith)
    go (inl all) false e = inr (n, omega arith, λ q. subst T e ((value_eq-sound (f n) (g n)).1 q))

module _ {text plate values choices : List ℕ} (p : ReadPlate text plate values choices) where
  accepted : AcceptedIs text plate
  accepted = (answer-exactly text plate (Ok tt)).0 (sanctioned-is-accepted text plate p.sanctioned)

  well : WellFormed (arena_of text)
  well = (accepted-chartable text accepted.chart accepted.taken).well-formed

  few : size (arena_of text) ≤ 512
  few = (accepted-chartable text accepted.chart accepted.taken).few-positions

  right : RightPlate (arena_of text) (value_in_plate plate) (choice_in_plate plate)
  right = accepted-plate-is-right text plate (sanctioned-is-accepted text plate p.sanctioned)

  -- the rows are the plate's columns
  values-are : (v : ℕ) → v < size (arena_of text) → row_value values v ≡ value_in_plate plate v
  values-are v l =
      let same : value_in_plate plate v ≡ round_value (arena_of text) v =
      value-is-unique (arena_of text) v (value_in_plate plate v) (round_value (arena_of text) v) (right.right v l) (rounds-give-the-values (arena_of text) well v l) in
      ap value_of ((p.read.taken p.header refl).value.row v l)
      ∙ value-of-number (value_in_plate plate v) (subst Fits (sym same) (round-value-fits (arena_of text) well few v))

  choices-are : (v : ℕ) → v < size (arena_of text) → row_value choices v ≡ choice_in_plate plate v
  choices-are v l =
      ap value_of ((p.read.taken p.header refl).choice.row v l)
      ∙ value-of-number (choice_in_plate plate v) (below-fits (size (arena_of text)) (choice_in_plate plate v) (omega (arith, few)) (legal-below (arena_of text) well (owner_at (arena_of text) v) v (choice_in_plate plate v) (right.legal v l)))

  is-value : (v : ℕ) → v < size (arena_of text) → IsValue (arena_of text) v (row_value values v)
  is-value v l = subst (IsValue (arena_of text) v) (sym (values-are v l)) (right.right v l)

  -- a row of choices that agrees with the plate's is worth the values
  agreeing-is-worth : (choice : ℕ → Value) → SameRow (arena_of text) (choice_in_plate plate) choice → (legal : Legal (arena_of text) choice) (v : ℕ) → v < size (arena_of text)
      → WorthIs (arena_of text) (positional (arena_of text) choice legal) v (row_value values v)
  agreeing-is-worth choice same legal v l =
      let falls = optimal-never-falls (arena_of text) (choice_in_plate plate) right.legal (value_in_plate plate) well right.optimal in
      let certificate =
      certificate-carries (arena_of text) well (value_in_plate plate) (choice_in_plate plate) (step_in_plate plate) (value_in_plate plate) choice (step_in_plate plate) (λ u m. refl) (λ u m. refl)
      accepted.certificate legal (λ u m own. subst (λ (x : Value). value_in_plate plate u ≼ value_in_plate plate (target_of x)) (same u m) (falls u m own)) in
      subst (WorthIs (arena_of text) (positional (arena_of text) choice legal) v) (sym (values-are v l))
      (certificate-gives-worths (arena_of text) well (value_in_plate plate) choice (step_in_plate plate) certificate legal v l)

  -- equal values are equal numbers
  same_number : (worths : List ℕ) (v : ℕ) → row_value values v ≡ row_value worths v → get_or values v 0 ≡ get_or worths v 0
  same_number worths v e = sym (number-of-value (get_or values v 0)) ∙ ap number_of e ∙ number-of-value (get_or worths v 0)

  module _ {given worths : List ℕ} (w : Weighing text given worths) where
    σ : Controller (arena_of text)
    σ = controller_of w

    its-worth : (v : ℕ) → v < size (arena_of text) → WorthIs (arena_of text) σ v (row_value worths v)
    unfolding σ
    its-worth v l = (w.weighed.taken refl).worth v l

    -- "are equal at every position exactly when ..", to the right in the strong form
    pub agreeing-rows-are-unsurpassed : RowsAgree text values worths → NoneBetter text worths
    agreeing-rows-are-unsurpassed agree τ v l =
        subst (AtMost (arena_of text) τ v) (ap value_of (agree v l)) (((value-is-bounds (arena_of text) v (row_value values v)).0 (is-value v l)).1 τ)

    -- the strong form gives the weak one
    pub none-better-is-worth-at-most : NoneBetter text worths → (τ : Controller (arena_of text)) → WorthAtMost text worths τ
    none-better-is-worth-at-most h τ v l x is =
        bounds-in-order (arena_of text) τ v x (row_value worths v) ((worth-is-both-bounds (arena_of text) τ v x).0 is).0 (h τ v l)

    -- to the left from the weak form
    rows-agree-at : (v : ℕ) → v < size (arena_of text) → row_value values v ≼ row_value worths v → get_or values v 0 ≡ get_or worths v 0
    rows-agree-at v l h =
        same_number worths v
        (≼antisym (row_value values v) (row_value worths v) h (worth-at-most-value (arena_of text) v σ (row_value values v) (row_value worths v) (is-value v l) (its-worth v l)))

    own : Controller (arena_of text)
    own = positional (arena_of text) (choice_in_plate plate) right.legal

    own-worth : (v : ℕ) → v < size (arena_of text) → WorthIs (arena_of text) own v (row_value values v)
    unfolding own
    own-worth v l = subst (WorthIs (arena_of text) own v) (sym (values-are v l)) (right.optimal v l)

    pub unsurpassed-rows-agree : ((τ : Controller (arena_of text)) → WorthAtMost text worths τ) → RowsAgree text values worths
    unsurpassed-rows-agree h v l = rows-agree-at v l (h own v l (row_value values v) (own-worth v l))

    -- where the choices differ, the plate's own controller is another one
    own-is-other : (u : ℕ) → u < size (arena_of text) → (choice_in_plate plate u ≡ row_value given u → ⊥) → Other (controller_of w) own
    unfolding own positional last target_of
    own-is-other u l differ = go (owner_at (arena_of text) u) refl (right.legal u l) ((w.weighed.taken refl).legal u l)
      where
        go : (o : Owner) → owner_at (arena_of text) u ≡ o → LegalAs o (arena_of text) u (choice_in_plate plate u) → LegalAs o (arena_of text) u (row_value given u) → Other (controller_of w) own
        go controller e c g = (
          u,
          still,
          e,
          λ q.
              let t : c.0 ≡ g.0 = sym (ap target_of c.1) ∙ q ∙ ap target_of g.1 in
              differ (c.1 ∙ ap fin t ∙ sym g.1),
        )
        go environment e c g = absurd (differ (c ∙ sym g))
        go nobody e c g = absurd (differ (c ∙ sym g))

    -- and from the weak form for every OTHER controller alone: where the plate's own controller is the given one, the rows agree anyway
    pub others-suffice : ((τ : Controller (arena_of text)) → Other (controller_of w) τ → WorthAtMost text worths τ) → RowsAgree text values worths
    unfolding σ own
    others-suffice h = go (agree-or-differ (choice_in_plate plate) (row_value given) (size (arena_of text)))
      where
        go : SameRow (arena_of text) (choice_in_plate plate) (row_value given) ⊎ ((v : ℕ) × (v < size (arena_of text)) × (choice_in_plate plate v ≡ row_value given v → ⊥)) → RowsAgree text values worths
        go (inl same) v l =
            same_number worths v
            (worth-is-unique (arena_of text) v σ (row_value values v) (row_value worths v) (agreeing-is-worth (row_value given) same (w.weighed.taken refl).legal v l) (its-worth v l))
        go (inr d) v l = rows-agree-at v l (h own (own-is-other d.0 d.1 d.2) v l (row_value values v) (own-worth v l))

  -- "The plate's own controller .. is such a one": Weighing takes the choices that Reading gave, and answers the row of values

  choices-legal : Legal (arena_of text) (row_value choices)
  choices-legal v l = subst (λ (x : Value). LegalAs (owner_at (arena_of text) v) (arena_of text) v x) (sym (choices-are v l)) (right.legal v l)

  -- Reading's answer is no refusal, so no lent row is too short, and the row of choices kept its length
  choices-suffice : size (arena_of text) ≤ length choices
  unfolding Clear
  choices-suffice =
      let free = (demand-1.reading p.read).taken (λ x q. let z : ◌≡◌ {A = ℕ} 0 1 = cc in omega arith) in
      let same = (p.read.taken p.header refl).choice.same_length in
      let enough : length p.choices₀ < size (arena_of text) → ⊥ = λ l. free.1.0 Short (refl, inr (inl l)) in
      omega (arith, same, enough)

  pub own-choices-are-taken : (room : ℕ) → size (arena_of text) ≤ room → weighed text choices room ≡ Ok tt
  unfolding weighed weighed_by
  own-choices-are-taken room space =
      let n = accepted-size text accepted.chart accepted.taken in
      rw (accepted.taken, ← n, le-leb (size (arena_of text)) (length choices) choices-suffice, le-leb (size (arena_of text)) room space, legal-row-complete (arena_of text) (row_value choices) choices-legal)

  pub own-worths-are-the-values : {worths : List ℕ} → Weighing text choices worths → RowsAgree text values worths
  own-worths-are-the-values {worths} w v l =
      same_number worths v
      (worth-is-unique (arena_of text) v (controller_of w) (row_value values v) (row_value worths v)
      (agreeing-is-worth (row_value choices) (λ u m. sym (choices-are u m)) (w.weighed.taken refl).legal v l) ((w.weighed.taken refl).worth v l))

pub demand-3 : {text plate values choices given worths : List ℕ} (p : ReadPlate text plate values choices) (w : Weighing text given worths)
    → Demand3 text plate values choices given worths p w
demand-3 p w =
    record {
      to-the-right = agreeing-rows-are-unsurpassed p w;
      to-the-left = unsurpassed-rows-agree p w;
      exactly-the-others = (λ agree τ other. none-better-is-worth-at-most p w (agreeing-rows-are-unsurpassed p w agree) τ, others-suffice p w);
      own-taken = own-choices-are-taken p;
      own_row = own-worths-are-the-values p;
    }

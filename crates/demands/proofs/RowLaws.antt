-- The laws of the table's rows: a job's tests stand in the order of its rows. Each test tells whether its row's condition holds; where it does
-- the answer is the row's refusal, and where it does not the rows after it decide.
use Rattle.std.specs.Prelude.{ℕ, ◌≤◌, ◌<◌, ◌≡◌, refl, ◌⊎◌, ◌↔◌, Bool, true, false, ◌&&◌, List, [], ◌∷◌, length, leb, ltb, eqb, T, ⊤, Result, Ok, Err}
use Rattle.verdict.specs.declared.FoundFault.{FoundFault}
use Rattle.verdict.specs.Verdict.{fault_of}
use Rattle.std.proofs.Common.{arith, sym, ap, subst, ◌∙◌, ⊎_elim, leb-true, leb-false, ltb-true, ltb-false, eqb-true}
use Rattle.std.proofs.Math.Logic.{inl, inr}
use Rattle.std.proofs.lemmas.Bool.{eqb-false}
use Rattle.rows.specs.Numbers.{row_value}
use Rattle.rows.specs.declared.Chart.{Chart}
use Rattle.search.specs.First.{FirstAt, AllPass}
use Rattle.search.proofs.FirstLaws.{first_or_none}
use Rattle.game.specs.Value.{Value}
use Rattle.game.specs.Arena.{Arena, size, owner_at}
use Rattle.game.specs.Fault.{legal_as}
use Rattle.game.proofs.ConditionTests.{legal-test}
use Rattle.refusal.specs.declared.Misdrawn.{Misdrawn}
use Rattle.refusal.specs.declared.Refusal.{Refusal}
use Rattle.refusal.specs.declared.Refusal.TheVariants.{Chart as OfChart, Plate, Fault}
use Rattle.chart.specs.Meaning.{arena_of}
use Rattle.chart.specs.Examined.{examined}
use Rattle.chart.specs.Exact.{refused-exactly}
use Rattle.chart.specs.Accepted.{accepted-size}
use Rattle.plate.specs.Form.{BadAt}
use Rattle.plate.specs.Formed.{form_of}
use Rattle.plate.specs.Exact.{bad-line-exact}
use Rattle.plate.specs.Read.{header_in, value_in_plate, choice_in_plate, step_in_plate}
use Rattle.verdict.specs.Verdict.{FirstFaultIs}
use Rattle.verdict.specs.Exact.{first-fault-exactly}
use Rattle.checking.specs.Checking.{plate_verdict}
use Rattle.weighing.specs.Weighing.{legal_row}
use Rattle.weighing.specs.WeighingLaws.{legal-row-sound, legal-row-complete}
use Rattle.demands.specs.Demand1.{Row, RefusedBy, Clear, only, misdrawn, count, malformed, IllegalChoice, faulty, Exact}

-- a job's answer by its rows, with nothing lent
abbrev pub Settled : {A : Type 0} → A → (Refusal → A) → List Row → Type 0
Settled answer refused rows = Exact answer refused rows (Unit {0})

-- A test that passes just where the condition does not hold

abbrev pub Tests : Bool → Type 0 → Type 0
Tests b P = (b ≡ true → P → ⊥) × (b ≡ false → P)

pub untrue : {A : Type 0} → true ≡ false → A
untrue e = let z : ◌≡◌ {A = ℕ} 0 1 = cc in absurd (omega arith)

pub both-test : {P Q : Type 0} (b c : Bool) → Tests b P → Tests c Q → Tests (b && c) (P ⊎ Q)
both-test true c p q = (λ e. ⊎_elim (p.0 refl) (q.0 e), λ e. inr (q.1 e))
both-test false c p q = (λ e. untrue (sym e), λ e. inl (p.1 refl))

pub short-test : {n needed : ℕ} (lent : List ℕ) → n ≡ needed → Tests (leb needed (length lent)) (length lent < n)
short-test {n} {needed} lent same = (λ e l. omega (arith, leb-true needed (length lent) e), λ e. omega (arith, leb-false needed (length lent) e))

pub three-short : {n needed : ℕ} → n ≡ needed → (values choices steps : List ℕ)
    → Tests (leb needed (length values) && (leb needed (length choices) && leb needed (length steps))) ((length values < n) ⊎ ((length choices < n) ⊎ (length steps < n)))
three-short same values choices steps = both-test _ _ (short-test values same) (both-test _ _ (short-test choices same) (short-test steps same))

pub inside-test : (v n : ℕ) → Tests (ltb v n) (n ≤ v)
inside-test v n = (λ e l. omega (arith, ltb-true v n e), λ e. ltb-false v n e)

pub same_test : (x y : ℕ) → Tests (eqb x y) (x ≡ y → ⊥)
same_test x y = (λ e apart. apart (eqb-true x y e), λ e. eqb-false x y e)

pub both_true : (b c : Bool) → (b && c) ≡ true → (b ≡ true) × (c ≡ true)
both_true true c e = (refl, e)
both_true false c e = untrue (sym e)

-- One row

module _ {A : Type 0} {answer : A} {refused : Refusal → A} (injective : (x y : Refusal) → refused x ≡ refused y → x ≡ y) where
  pub row-holds : {row : Row} {rest : List Row} → ((y : Refusal) → row y → answer ≡ refused y) → (y : Refusal) → row y → Settled answer refused (row ∷ rest)
  unfolding RefusedBy Clear
  row-holds {row} {rest} turns y h = record { exactly = λ x. (λ e. inl (subst row (injective y x (sym (turns y h) ∙ e)) h), from x); taken = λ none. absurd (none y (turns y h)); unchanged = λ x e. tt }
    where
      from : (x : Refusal) → row x ⊎ (((y : Refusal) → row y → ⊥) × RefusedBy rest x) → answer ≡ refused x
      from x (inl k) = turns x k
      from x (inr k) = absurd (k.0 y h)

  pub row-fails : {row : Row} {rest : List Row} → ((y : Refusal) → row y → ⊥) → Settled answer refused rest → Settled answer refused (row ∷ rest)
  unfolding RefusedBy Clear
  row-fails {row} {rest} none is = record { exactly = λ x. (λ e. inr (none, (is.exactly x).0 e), from x); taken = λ free. (none, is.taken free); unchanged = λ x e. tt }
    where
      from : (x : Refusal) → row x ⊎ (((y : Refusal) → row y → ⊥) × RefusedBy rest x) → answer ≡ refused x
      from x (inl k) = absurd (none x k)
      from x (inr k) = (is.exactly x).1 k.1

  pub no_rows : ((x : Refusal) → answer ≡ refused x → ⊥) → Settled answer refused []
  unfolding RefusedBy Clear
  no_rows none = record { exactly = λ x. (none x, λ h. absurd h); taken = λ n. tt; unchanged = λ x e. tt }

  -- a row of one refusal, by a test that passes just where its condition does not hold
  pub test-row : {y : Refusal} {P : Type 0} {rest : List Row} (b : Bool) → Tests b P → (b ≡ false → answer ≡ refused y) → (b ≡ true → Settled answer refused rest)
      → Settled answer refused (only y P ∷ rest)
  test-row {y} true t turns rest = row-fails (λ z h. t.0 refl h.1) (rest refl)
  test-row {y} false t turns rest = row-holds (λ z h. turns refl ∙ ap refused (sym h.0)) y (refl, t.1 refl)

  -- 1 to 9 and 17
  pub chart-row : (text : List ℕ) {rest : List Row} → ((r : Misdrawn) → examined text ≡ Err r → answer ≡ refused (OfChart r))
      → ((chart : Chart) → examined text ≡ Ok chart → Settled answer refused rest) → Settled answer refused (misdrawn text ∷ rest)
  chart-row text {rest} turns takes = go (examined text) refl
    where
      go : (x : Result Chart Misdrawn) → examined text ≡ x → Settled answer refused (misdrawn text ∷ rest)
      go (Err r) e = row-holds (λ y h. turns h.0 ((refused-exactly text h.0).1 h.2) ∙ ap refused (sym h.1)) (OfChart r) (r, refl, (refused-exactly text r).0 e)
      go (Ok chart) e = row-fails (λ y h. apart ((refused-exactly text h.0).1 h.2) e) (takes chart e)
        where
          apart : {r : Misdrawn} → examined text ≡ Err r → examined text ≡ Ok chart → ⊥
          apart p q = let z : ◌≡◌ {A = ℕ} 0 1 = cc in omega arith

  module _ (text plate : List ℕ) (chart : Chart) (taken : examined text ≡ Ok chart) {rest : List Row} where
    -- 11
    pub form-row : ((line : ℕ) → form_of chart.positions plate ≡ Err line → answer ≡ refused (Plate line))
        → (form_of chart.positions plate ≡ Ok tt → Settled answer refused rest) → Settled answer refused (malformed text plate ∷ rest)
    form-row turns takes = go (form_of chart.positions plate) refl
      where
        bad : {line : ℕ} → BadAt (count text) plate line → form_of chart.positions plate ≡ Err line
        bad {line} w = (bad-line-exact chart.positions line plate).1 (subst (λ (n : ℕ). BadAt n plate line) (accepted-size text chart taken) w)

        go : (f : Result ⊤ ℕ) → form_of chart.positions plate ≡ f → Settled answer refused (malformed text plate ∷ rest)
        go (Err line) e =
            row-holds (λ y h. turns h.0 (bad h.2) ∙ ap refused (sym h.1)) (Plate line)
            (line, refl, subst (λ (n : ℕ). BadAt n plate line) (sym (accepted-size text chart taken)) ((bad-line-exact chart.positions line plate).0 e))
        go (Ok _) e = row-fails (λ y h. apart (bad h.2) e) (takes e)
          where
            apart : {line : ℕ} → form_of chart.positions plate ≡ Err line → form_of chart.positions plate ≡ Ok tt → ⊥
            apart p q = let z : ◌≡◌ {A = ℕ} 0 1 = cc in omega arith

  -- 14
  pub fault-row : (text plate : List ℕ) {rest : List Row} → ((v c : ℕ) → plate_verdict (arena_of text) plate ≡ Err (fault_of v c) → answer ≡ refused (Fault v c))
      → (plate_verdict (arena_of text) plate ≡ Ok tt → Settled answer refused rest) → Settled answer refused (faulty text plate ∷ rest)
  fault-row text plate {rest} turns takes = go (plate_verdict (arena_of text) plate) refl
    where
      first : (v c : ℕ) → (plate_verdict (arena_of text) plate ≡ Err (fault_of v c)) ↔ FirstFaultIs (arena_of text) (value_in_plate plate) (choice_in_plate plate) (step_in_plate plate) (header_in plate) v c
      first v c = first-fault-exactly (arena_of text) (value_in_plate plate) (choice_in_plate plate) (step_in_plate plate) (header_in plate) v c

      go : (r : Result ⊤ FoundFault) → plate_verdict (arena_of text) plate ≡ r → Settled answer refused (faulty text plate ∷ rest)
      go (Err f) e = row-holds (λ y h. turns h.0 h.1 ((first h.0 h.1).1 h.3) ∙ ap refused (sym h.2)) (Fault f.position f.condition) (f.position, f.condition, refl, (first f.position f.condition).0 e)
      go (Ok _) e = row-fails (λ y h. apart ((first h.0 h.1).1 h.3) e) (takes e)
        where
          apart : {v c : ℕ} → plate_verdict (arena_of text) plate ≡ Err (fault_of v c) → plate_verdict (arena_of text) plate ≡ Ok tt → ⊥
          apart p q = let z : ◌≡◌ {A = ℕ} 0 1 = cc in omega arith

-- where no condition holds, nothing is refused
pub clear-refuses-none : (rows : List Row) → Clear rows → (x : Refusal) → RefusedBy rows x → ⊥
unfolding RefusedBy Clear
clear-refuses-none [] clear x h = h
clear-refuses-none (row ∷ rest) (none, clear) x (inl h) = none x h
clear-refuses-none (row ∷ rest) (none, clear) x (inr (before, h)) = clear-refuses-none rest clear x h

-- what is lent besides
pub with-lent : {A : Type 0} {answer r : A} {refused : Refusal → A} {rows : List Row} {stays : Type 0} → r ≡ answer → Settled answer refused rows
    → ((x : Refusal) → r ≡ refused x → stays) → Exact r refused rows stays
with-lent {refused = refused} {rows = rows} e is unchanged =
    record {
      exactly = λ x. (λ q. (is.exactly x).0 (sym e ∙ q), λ h. e ∙ (is.exactly x).1 h);
      taken = λ none. is.taken (λ x q. none x (e ∙ q));
      unchanged = unchanged;
    }

-- 12: the test of the choices tells whether one is illegal
pub choice_test : (text choices : List ℕ) → Tests (legal_row (arena_of text) (row_value choices) (size (arena_of text))) (IllegalChoice text choices)
choice_test text choices = (λ e h. h.2 (legal-row-sound a choice e h.0 h.1), λ e. ⊎_elim (legal e) illegal (first_or_none good (size a) 0))
  where
    a : Arena
    a = arena_of text

    choice : ℕ → Value
    choice = row_value choices

    good : ℕ → Bool
    good v = legal_as a choice choice choice (owner_at a v) v

    legal : legal_row a choice (size a) ≡ false → AllPass good (size a) 0 → IllegalChoice text choices
    legal e all =
        untrue
        (sym (legal-row-complete a choice (λ v l. (legal-test a choice choice choice (owner_at a v) v).0 (subst T (sym (all v (omega arith) (omega arith))) tt))) ∙ e)

    illegal : ((v : ℕ) × FirstAt good (size a) 0 v) → IllegalChoice text choices
    illegal (v, first) = (v, omega (arith, first.high), λ is. subst T first.fails ((legal-test a choice choice choice (owner_at a v) v).1 is))

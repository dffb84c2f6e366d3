-- The table of refusals is exact: a text is refused with r exactly when r applies to it and nothing before r in the order does,
-- and it is accepted, with the header's counts, exactly when nothing applies. The computed answer is the first: by the length, by
-- the lines in order, each exact (specs/LineExact.antt), and by the positions in order. It is the only first, since the order
-- leaves no two refusals apart that have the same line and rank.
use Prim.Native.Nat.{ℕ, zero, suc, ◌+◌, ◌-◌, ◌%◌, ◌≤◌, ◌<◌}
use native.Mathlib.Omega.{arith}
use Rattle.std.proofs.Common.{eq-or-lt_of_le, le_of_suc-le-suc, sym, ap₂, ◌∙◌, inl, inr, ltb-true, ltb-false, eqb-true, eq-eqb}
use Rattle.std.proofs.Math.Path.{◌≡◌, refl, ap, subst}
use Rattle.std.specs.Prelude.{◌⊎◌, ◌↔◌, Bool, true, false, cond, List, [], ◌∷◌, length, get_or, ltb, eqb, ⊤, Result, Ok, Err}
use Rattle.std.proofs.Math.Logic.{⊎_elim}
use Rattle.std.proofs.lemmas.Bool.{eqb-false}
use Rattle.search.proofs.FirstLaws.{first-answered}
use Rattle.chart.specs.Text.{letter_at, positions_of, moves_of, from_at}
use Rattle.refusal.specs.Numbers.{misdrawn_line}
use Rattle.chart.specs.Refusals.{stage, rank, PositionLine, BadLength, BadForm, OutOfSequence, BadEndpoint, BadDisturbance, MeantAtRest, OutOfOrder, WithoutMeant, Applies, Before, First}
use Rattle.chart.specs.Examined.{header_of, line_finding, or_else, first_fault, meant_line, meant_in, missing_at, answer, after_header, lines_after, examined}
use Rattle.chart.specs.Header.{header-accepts}
use Rattle.chart.specs.Good.{faulty, is-clean, all-clean, position-clean, line-position, missing-clean}
use Rattle.chart.specs.Accepted.{meant-line}
use Rattle.chart.specs.LineExact.{Free, LineExact, finding_of, header-exact, line-exact}
use Rattle.rows.specs.declared.Chart.{Chart}
use Rattle.refusal.specs.declared.Misdrawn.{Misdrawn}
use Rattle.refusal.specs.declared.Misdrawn.TheVariants.{Length, Form, Limits, Count, Sequence, Endpoint, Disturbed, Resting, Order, NoMeant}

-- the counts of the header
abbrev counts_of : List ℕ → Chart
counts_of text = record { positions = positions_of text; moves = moves_of text }

-- an answer is right
abbrev Right : List ℕ → Result Chart Misdrawn → Type 0
Right text (Err r) = First text r
Right text (Ok chart) = ((s : Misdrawn) → Applies text s → ⊥) × (chart ≡ counts_of text)

untrue : {A : Type 0} → true ≡ false → A
untrue e = let z : ◌≡◌ {A = ℕ} 0 1 = cc in absurd (omega arith)

neither : (a b : Bool) → cond a true b ≡ false → (a ≡ false) × (b ≡ false)
neither true b e = untrue e
neither false b e = (refl, e)

meant-here : (text : List ℕ) (i v : ℕ) → letter_at text i ≡ 77 → from_at text i ≡ v → meant_line text i v ≡ true
unfolding meant_line
meant-here text i v p q = simp (eq-eqb (letter_at text i) 77 p, eq-eqb (from_at text i) v q)

-- where a refusal that applies stands in the order: at the length, on a line of the text, or at a position without a meant move
data Stands (text : List ℕ) (s : Misdrawn) : Type 0 where
  whole : stage s ≡ 0 → BadLength text → Stands text s
  on_line : stage s ≡ 1 → misdrawn_line s ≤ positions_of text + moves_of text → Stands text s
  at_position : s ≡ NoMeant (misdrawn_line s) → WithoutMeant text (misdrawn_line s) → Stands text s

module _ (text : List ℕ) where
  stands : (s : Misdrawn) → Applies text s → Stands text s
  unfolding BadForm OutOfSequence BadEndpoint BadDisturbance MeantAtRest OutOfOrder
  stands Length a = whole refl a
  stands (Form line) a = on_line refl a.0
  stands Limits a = on_line refl (omega arith)
  stands Count a = on_line refl (omega arith)
  stands (Sequence line) a = on_line refl (omega (arith, a.0.1))
  stands (Endpoint line) a = on_line refl a.0.1
  stands (Disturbed line) a = on_line refl a.0.1
  stands (Resting line) a = on_line refl a.0.1
  stands (Order line) a = on_line refl a.0.1
  stands (NoMeant line) a = at_position refl a

  position-line : (i : ℕ) → WithoutMeant text i → PositionLine text i
  unfolding WithoutMeant
  position-line i w = w.0

  -- a meant move on one of the move lines, and none
  meant-none : (n m v : ℕ) → meant_in text n m v ≡ false → (k : ℕ) → k < m → letter_at text (n + 1 + k) ≡ 77 → from_at text (n + 1 + k) ≡ v → ⊥
  unfolding meant_in
  meant-none n zero v h k l p q = omega arith
  meant-none n (suc m) v h k l p q =
      let w = neither (meant_in text n m v) (meant_line text (n + 1 + m) v) h in
      ⊎_elim
      (λ (e : k ≡ m). untrue (sym (subst (λ (j : ℕ). meant_line text (n + 1 + j) v ≡ true) e (meant-here text (n + 1 + k) v p q)) ∙ w.1))
      (λ less. meant-none n m v w.0 k less p q)
      (eq-or-lt_of_le (le_of_suc-le-suc l))

  -- nothing before a refusal of line i applies, if nothing on the lines before and nothing before it on the line does
  line_first : (i : ℕ) (r : Misdrawn) → (BadLength text → ⊥) → stage r ≡ 1 → misdrawn_line r ≡ i → ((j : ℕ) → j < i → Free text j (Ok tt)) → Free text i (Err r) →
      (s : Misdrawn) → Before s r → Applies text s → ⊥
  line_first i r fine p q lines line s b a =
      ⊎_elim (λ l. before l (stands s a))
      (λ w.
      let same : stage s ≡ 1 = w.0 ∙ p in
      ⊎_elim (λ l. lines (misdrawn_line s) (omega arith) s same refl tt a) (λ x. line s same (x.0 ∙ q) x.1 a) w.1)
      b
    where
      before : stage s < stage r → Stands text s → ⊥
      before l (whole e bad) = fine bad
      before l (on_line e k) = omega arith
      before l (at_position e w) = omega (arith, ap stage e)

  clean_free : (i : ℕ) (d : Result ⊤ Misdrawn) → d ≡ Ok tt → LineExact text i d → Free text i (Ok tt)
  clean_free i d e w = (subst (λ (x : Result ⊤ Misdrawn). LineExact text i x) e w).free

  -- a line in the text is clean
  free-lines : header_of text ≡ Ok (counts_of text) → (last : ℕ) → last ≤ positions_of text + moves_of text →
      ((j : ℕ) → 1 ≤ j → j ≤ last → line_finding text (positions_of text) j ≡ Ok tt) → (j : ℕ) → j ≤ last → Free text j (Ok tt)
  free-lines h last inside clean zero l = clean_free 0 (finding_of (header_of text)) (ap finding_of h) (header-exact text)
  free-lines h last inside clean (suc j) l =
      clean_free (suc j) (line_finding text (positions_of text) (suc j)) (clean (suc j) (omega arith) l) (line-exact text (suc j) (omega arith) (omega arith))

  -- with no fault in the length and on the lines, what applies is refusal 9
  last-stage : (BadLength text → ⊥) → ((j : ℕ) → j ≤ positions_of text + moves_of text → Free text j (Ok tt)) → (s : Misdrawn) → Applies text s →
      (s ≡ NoMeant (misdrawn_line s)) × WithoutMeant text (misdrawn_line s)
  last-stage fine lines s a = go (stands s a)
    where
      go : Stands text s → (s ≡ NoMeant (misdrawn_line s)) × WithoutMeant text (misdrawn_line s)
      go (whole e bad) = absurd (fine bad)
      go (on_line e k) = absurd (lines (misdrawn_line s) k s e refl tt a)
      go (at_position e w) = (e, w)

  meant-some : (i : ℕ) → WithoutMeant text i → missing_at text (positions_of text) (moves_of text) (i - 1) ≡ Ok tt → ⊥
  unfolding WithoutMeant
  meant-some i w clean =
      let here : letter_at text (i - 1 + 1) ≡ letter_at text i = ap (letter_at text) (omega (arith, w.0.0)) in
      let other : letter_at text (i - 1 + 1) ≡ 82 → ⊥ = λ e. ⊎_elim (λ p. omega (arith, here, e, p)) (λ p. omega (arith, here, e, p)) w.1 in
      let x = meant-line text (positions_of text) (moves_of text) (i - 1) (missing-clean text (positions_of text) (moves_of text) (i - 1) clean other) in
      w.2 (positions_of text + 1 + x.0) (omega arith, omega (arith, x.1)) x.2 x.3

  meant-without : (v : ℕ) → v < positions_of text → (letter_at text (v + 1) ≡ 79) ⊎ (letter_at text (v + 1) ≡ 76) →
      meant_in text (positions_of text) (moves_of text) v ≡ false → WithoutMeant text (v + 1)
  unfolding WithoutMeant
  meant-without v h owned e = (
    (omega arith, omega arith),
    owned,
    λ j line p q.
        let k = j - (positions_of text + 1) in
        let at : positions_of text + 1 + k ≡ j = omega (arith, line.0) in
        let w : from_at text j ≡ v = q ∙ omega arith in
        meant-none (positions_of text) (moves_of text) v e k (omega (arith, line.0, line.1))
        (subst (λ (x : ℕ). letter_at text x ≡ 77) (sym at) p) (subst (λ (x : ℕ). from_at text x ≡ v) (sym at) w),
  )

  missing-fault : (v : ℕ) (r : Misdrawn) → missing_at text (positions_of text) (moves_of text) v ≡ Err r →
      (NoMeant (v + 1) ≡ r) × (letter_at text (v + 1) ≡ 82 → ⊥) × (meant_in text (positions_of text) (moves_of text) v ≡ false)
  unfolding missing_at
  missing-fault v r h = go (eqb (letter_at text (v + 1)) 82) (meant_in text (positions_of text) (moves_of text) v) refl refl
    where
      clean : {A : Type 0} → Ok (tt {0}) ≡ Err r → A
      clean e = let y : ◌≡◌ {A = ℕ} 0 1 = cc in absurd (omega arith)

      go : (a b : Bool) → eqb (letter_at text (v + 1)) 82 ≡ a → meant_in text (positions_of text) (moves_of text) v ≡ b →
          (NoMeant (v + 1) ≡ r) × (letter_at text (v + 1) ≡ 82 → ⊥) × (meant_in text (positions_of text) (moves_of text) v ≡ false)
      go true b d e = clean (simp d at h)
      go false true d e = clean (simp (d, e) at h)
      go false false d e = let z : Err (NoMeant (v + 1)) ≡ Err r = simp (d, e) at h in (cc, eqb-false (letter_at text (v + 1)) 82 d, e)

  position_first : (BadLength text → ⊥) → ((j : ℕ) → j ≤ positions_of text + moves_of text → Free text j (Ok tt)) → (v : ℕ) →
      WithoutMeant text (v + 1) → ((k : ℕ) → k < v → missing_at text (positions_of text) (moves_of text) k ≡ Ok tt) → First text (NoMeant (v + 1))
  position_first fine lines v without clean = record {
    applies = without;
    none_before = λ s b a.
        let w = last-stage fine lines s a in
        let line = position-line (misdrawn_line s) w.1 in
        ⊎_elim (λ l. omega (arith, ap stage w.0))
        (λ x.
        ⊎_elim (λ l. meant-some (misdrawn_line s) w.1 (clean (misdrawn_line s - 1) (omega (arith, line.0))))
        (λ y. omega (arith, y.1, ap rank w.0)) x.1)
        b;
  }

  -- where the lines are clean, a position that is no `R` is an `O` or an `L`
  owned-position : first_fault (line_finding text (positions_of text)) (positions_of text + moves_of text) 1 ≡ Ok tt → (v : ℕ) → v < positions_of text →
      (letter_at text (v + 1) ≡ 82 → ⊥) → (letter_at text (v + 1) ≡ 79) ⊎ (letter_at text (v + 1) ≡ 76)
  owned-position p v h other =
      let clean = all-clean (line_finding text (positions_of text)) (positions_of text + moves_of text) 1 p (v + 1) (omega arith) (omega arith) in
      let line = position-clean text (v + 1) (sym (line-position text (positions_of text) (v + 1) (omega arith)) ∙ clean) in
      ⊎_elim inl (⊎_elim inr (λ e. absurd (other e))) line.form.allowed

  all-free : header_of text ≡ Ok (counts_of text) → first_fault (line_finding text (positions_of text)) (positions_of text + moves_of text) 1 ≡ Ok tt →
      (j : ℕ) → j ≤ positions_of text + moves_of text → Free text j (Ok tt)
  all-free header p =
      free-lines header (positions_of text + moves_of text) (omega arith)
      (λ j l h. all-clean (line_finding text (positions_of text)) (positions_of text + moves_of text) 1 p j l (omega arith))

  some-meant : first_fault (missing_at text (positions_of text) (moves_of text)) (positions_of text) 0 ≡ Ok tt → (i : ℕ) → WithoutMeant text i → ⊥
  some-meant q i w =
      let line = position-line i w in
      meant-some i w (all-clean (missing_at text (positions_of text) (moves_of text)) (positions_of text) 0 q (i - 1) (omega arith) (omega (arith, line.0, line.1)))

  -- a fault on line i, where the lines before it are clean
  fault-right : (BadLength text → ⊥) → header_of text ≡ Ok (counts_of text) → (r : Misdrawn) (i : ℕ) → 1 ≤ i → i < 1 + (positions_of text + moves_of text) →
      line_finding text (positions_of text) i ≡ Err r → ((k : ℕ) → 1 ≤ k → k < i → line_finding text (positions_of text) k ≡ Ok tt) → First text r
  fault-right fine header r i low high fault clean =
      let exact = subst (λ (d : Result ⊤ Misdrawn). LineExact text i d) fault (line-exact text i low (omega arith)) in
      let y = exact.fault r refl in
      let before = free-lines header (i - 1) (omega arith) (λ k a b. clean k a (omega arith)) in
      record { applies = y.2; none_before = line_first i r fine y.0 y.1 (λ j l. before j (omega arith)) exact.free }

  -- the lines after a header with these counts, and then the positions
  lines-right : (BadLength text → ⊥) → header_of text ≡ Ok (counts_of text) → (d e : Result ⊤ Misdrawn) →
      first_fault (line_finding text (positions_of text)) (positions_of text + moves_of text) 1 ≡ d → first_fault (missing_at text (positions_of text) (moves_of text)) (positions_of text) 0 ≡ e →
      Right text (answer (counts_of text) (or_else d e))
  unfolding answer or_else
  lines-right fine header (Err r) e p q =
      let w = first-answered _ (line_finding text (positions_of text)) (Ok tt) (Err r) (λ z. faulty r (sym z)) (positions_of text + moves_of text) 1 p in
      fault-right fine header r w.0 w.1.low w.1.high w.2 (λ k l h. is-clean _ (w.1.passed k l h))
  lines-right fine header (Ok _) (Err r) p q =
      let w = first-answered _ (missing_at text (positions_of text) (moves_of text)) (Ok tt) (Err r) (λ z. faulty r (sym z)) (positions_of text) 0 q in
      let x = missing-fault w.0 r w.2 in
      let inside : w.0 < positions_of text = omega (arith, w.1.high) in
      let without = meant-without w.0 inside (owned-position p w.0 inside x.1) x.2 in
      subst (First text) x.0 (position_first fine (all-free header p) w.0 without (λ k l. is-clean _ (w.1.passed k (omega arith) l)))
  lines-right fine header (Ok _) (Ok _) p q =
      (λ s a. let w = last-stage fine (all-free header p) s a in some-meant q (misdrawn_line s) w.1, refl)

  -- the text's length, its header, and then its lines
  header-right : (BadLength text → ⊥) → (e : Result Chart Misdrawn) → header_of text ≡ e → Right text (lines_after text e)
  unfolding lines_after after_header
  header-right fine (Err r) p =
      let exact = subst (λ (e : Result Chart Misdrawn). LineExact text 0 (finding_of e)) p (header-exact text) in
      let y = exact.fault r refl in
      record { applies = y.2; none_before = line_first 0 r fine y.0 y.1 (λ j l. absurd (omega arith)) exact.free }
  header-right fine (Ok chart) p =
      let same = (header-accepts text chart p).1 in
      subst (λ (k : Chart). Right text (after_header text k)) (sym same)
      (lines-right fine (p ∙ ap Ok same) _ _ refl refl)

  length-first : BadLength text → First text Length
  length-first bad = record {
    applies = bad;
    none_before = λ s b a. ⊎_elim (λ l. omega arith) (λ w. ⊎_elim (λ l. omega arith) (λ x. omega (arith, x.1)) w.1) b;
  }

-- the computed answer is right
right : (text : List ℕ) → Right text (examined text)
unfolding examined BadLength
right text = go (eqb (length text) 0) (ltb 55308 (length text)) (eqb (length text % 12) 0) refl refl refl
  where
    go : (a b c : Bool) → eqb (length text) 0 ≡ a → ltb 55308 (length text) ≡ b → eqb (length text % 12) 0 ≡ c → Right text (examined text)
    go true b c u v w = simp u (length-first text (inl (eqb-true (length text) 0 u)))
    go false true c u v w = simp (u, v) (length-first text (inr (inl (ltb-true 55308 (length text) v))))
    go false false false u v w = simp (u, v, w) (length-first text (inr (inr (eqb-false (length text % 12) 0 w))))
    go false false true u v w =
        simp (u, v, w)
        (header-right text
        (⊎_elim (eqb-false (length text) 0 u) (⊎_elim (λ l. omega (arith, ltb-false 55308 (length text) v)) (λ no. no (eqb-true (length text % 12) 0 w))))
        (header_of text) refl)

-- a refusal by its rank and its line: the order leaves no two apart
refusal_at : ℕ → ℕ → Misdrawn
refusal_at place line = get_or (Length ∷ Form line ∷ Limits ∷ Count ∷ Sequence line ∷ Endpoint line ∷ Disturbed line ∷ Resting line ∷ Order line ∷ NoMeant line ∷ []) place Length

refusal-at : (r : Misdrawn) → refusal_at (rank r) (misdrawn_line r) ≡ r
unfolding refusal_at
refusal-at Length = refl
refusal-at (Form line) = refl
refusal-at Limits = refl
refusal-at Count = refl
refusal-at (Sequence line) = refl
refusal-at (Endpoint line) = refl
refusal-at (Disturbed line) = refl
refusal-at (Resting line) = refl
refusal-at (Order line) = refl
refusal-at (NoMeant line) = refl

three : (a b : ℕ) → (a < b) ⊎ ((a ≡ b) ⊎ (b < a))
three a b = go (ltb a b) (ltb b a) refl refl
  where
    go : (p q : Bool) → ltb a b ≡ p → ltb b a ≡ q → (a < b) ⊎ ((a ≡ b) ⊎ (b < a))
    go true q u v = inl (ltb-true a b u)
    go false true u v = inr (inr (ltb-true b a v))
    go false false u v = inr (inl (omega (arith, ltb-false a b u, ltb-false b a v)))

ordered-refusals : (r s : Misdrawn) → Before r s ⊎ ((r ≡ s) ⊎ Before s r)
ordered-refusals r s =
    ⊎_elim (λ l. inl (inl l))
    (⊎_elim
    (λ e.
    ⊎_elim (λ l. inl (inr (e, inl l)))
    (⊎_elim
    (λ f.
    ⊎_elim (λ l. inl (inr (e, inr (f, l))))
    (⊎_elim (λ g. inr (inl (sym (refusal-at r) ∙ ap₂ refusal_at g f ∙ refusal-at s))) (λ l. inr (inr (inr (sym e, inr (sym f, l))))))
    (three (rank r) (rank s)))
    (λ l. inr (inr (inr (sym e, inl l)))))
    (three (misdrawn_line r) (misdrawn_line s)))
    (λ l. inr (inr (inl l))))
    (three (stage r) (stage s))

first-only : (text : List ℕ) (r : Misdrawn) (e : Result Chart Misdrawn) → First text r → Right text e → e ≡ Err r
first-only text r (Ok chart) f w = absurd (w.0 r f.applies)
first-only text r (Err s) f w =
    ⊎_elim (λ b. absurd (w.none_before r b f.applies))
    (⊎_elim (λ e. ap Err (sym e)) (λ b. absurd (f.none_before s b w.applies))) (ordered-refusals r s)

none_only : (text : List ℕ) (chart : Chart) (e : Result Chart Misdrawn) → ((s : Misdrawn) → Applies text s → ⊥) → chart ≡ counts_of text → Right text e → e ≡ Ok chart
none_only text chart (Ok got) none c w = ap Ok (w.1 ∙ sym c)
none_only text chart (Err s) none c w = absurd (none s w.applies)

-- a text is refused with r exactly when r applies and nothing before it in the order does
pub refused-exactly : (text : List ℕ) (r : Misdrawn) → examined text ≡ Err r ↔ First text r
refused-exactly text r = ((λ e. subst (λ (x : Result Chart Misdrawn). Right text x) e (right text)), λ f. first-only text r (examined text) f (right text))

-- a text is accepted exactly when no refusal applies, and the answer is its header's counts
pub accepted-exactly : (text : List ℕ) (chart : Chart) →
    examined text ≡ Ok chart ↔ ((s : Misdrawn) → Applies text s → ⊥) × (chart ≡ record { positions = positions_of text; moves = moves_of text })
accepted-exactly text chart = ((λ e. subst (λ (x : Result Chart Misdrawn). Right text x) e (right text)), λ w. none_only text chart (examined text) w.0 w.1 (right text))

-- The first demand's proof. A job's tests stand in the order of its rows: each test tells whether its row's condition holds, where it does
-- the answer is the row's refusal, and where it does not the rows after it decide (RowLaws). So each job its rows in turn.
use Rattle.std.specs.Prelude.{ℕ, ◌+◌, ◌*◌, ◌≡◌, refl, ◌⊎◌, ◌&&◌, List, length, leb, ltb, eqb, Some, None, Result, Ok, Err}
use Rattle.verdict.specs.Verdict.{fault_of}
use Rattle.comparing.specs.Comparing.{difference_of}
use Rattle.std.proofs.Common.{arith, sym, ap, ◌∙◌, ⊎_elim, leb-true, leb-false, ltb-true, ltb-false}
use Rattle.rows.specs.Numbers.{row_value}
use Rattle.rows.specs.declared.Chart.{Chart}
use Rattle.search.proofs.FirstLaws.{first_or_none, first-none, first-at}
use Rattle.game.specs.Arena.{Arena, size}
use Rattle.refusal.specs.declared.Misdrawn.{Misdrawn}
use Rattle.refusal.specs.declared.Refusal.{Refusal}
use Rattle.refusal.specs.declared.Refusal.TheVariants.{Chart as OfChart, Plate, Position, Fault}
use Rattle.chart.specs.Meaning.{arena_of}
use Rattle.chart.specs.Examined.{examined}
use Rattle.chart.specs.Exact.{refused-exactly, accepted-exactly}
use Rattle.chart.specs.Accepted.{accepted-size, accepted-chartable}
use Rattle.chart.specs.Refusals.{Applies, First}
use Rattle.plate.specs.Exact.{form-exact, bad-line-exact}
use Rattle.checking.specs.AnswersExact.{verdict-means}
use Rattle.valuing.specs.Valuing.{valued, valued_by}
use Rattle.writing.specs.Writing.{written, written_by}
use Rattle.reading.specs.Reading.{reading, read_by, answer_to}
use Rattle.weighing.specs.Weighing.{legal_row, weighed, weighed_by}
use Rattle.listing.specs.Sheet.{SheetOf}
use Rattle.listing.specs.SheetLaws.{lists-unique, sheet-is, sheet-length}
use Rattle.listing.specs.Listing.{good_count, good_sheet, listed_rows, listed_by, listed}
use Rattle.comparing.specs.Comparing.{value_number, worth_number, first_difference, compared}
use Rattle.comparing.specs.Order.{first-the-chart, then-ten, then-eleven, then-twelve, then-fourteen, then-the-rows}
use Rattle.run.specs.Running.{begun_at, started}
use Rattle.run.proofs.AnswersExact.{start-exactly}
use Rattle.run.specs.declared.Reported.{Reported}
use Rattle.demands.proofs.RowLaws.{Settled, Tests, short-test, three-short, both-test, inside-test, no_rows, test-row, chart-row, form-row, fault-row, with-lent, choice_test}
use Rattle.demands.proofs.RuinRows.{ruin-settled}
use Rattle.demands.proofs.SmallRows.{generating-settled, indexing-settled}
use Rattle.demands.proofs.ReportRows.{checking-settled, report-settled, report-unmoved}
use Rattle.demands.proofs.HouseRows.{house-exact}
use Rattle.demands.specs.Demand1.{valuing_rows, writing_rows, reading_rows, weighing_rows, comparing_rows, ShorterThanSheet, listing_rows, start_rows, Demand1}

-- The jobs

valuing-settled : (text values choices steps : List ℕ)
    → Settled (valued text (length values) (length choices) (length steps)) Err (valuing_rows text values choices steps)
unfolding valued valued_by
valuing-settled text values choices steps =
    chart-row (λ x y e. cc) text (λ r e. rw e)
    (λ chart e.
    let n = accepted-size text chart e in
    test-row (λ x y e. cc) (leb chart.positions (length values) && (leb chart.positions (length choices) && leb chart.positions (length steps)))
    (three-short n values choices steps) (λ b. rw (e, b)) (λ b. no_rows (λ x y e. cc) (λ x q. let z : ◌≡◌ {A = ℕ} 0 1 = cc in omega arith)))

writing-settled : (text out : List ℕ) → Settled (written text (length out)) Err (writing_rows text out)
unfolding written written_by
writing-settled text out =
    chart-row (λ x y e. cc) text (λ r e. rw e)
    (λ chart e.
    let n = accepted-size text chart e in
    test-row (λ x y e. cc) (leb ((chart.positions + 1) * 22) (length out)) (short-test out (omega arith)) (λ b. rw (e, b))
    (λ b. no_rows (λ x y e. cc) (λ x q. let z : ◌≡◌ {A = ℕ} 0 1 = cc in omega arith)))

reading-settled : (text plate values choices steps : List ℕ)
    → Settled (reading text plate (length values) (length choices) (length steps)) Err (reading_rows text plate values choices steps)
unfolding reading read_by answer_to
reading-settled text plate values choices steps =
    chart-row (λ x y e. cc) text (λ r e. rw e)
    (λ chart e.
    let n = accepted-size text chart e in
    test-row (λ x y e. cc) (leb chart.positions (length values) && (leb chart.positions (length choices) && leb chart.positions (length steps)))
    (three-short n values choices steps) (λ b. rw (e, b))
    (λ b.
    form-row (λ x y e. cc) text plate chart e (λ line f. rw (e, b, f))
    (λ f. no_rows (λ x y e. cc) (λ x q. let z : ◌≡◌ {A = ℕ} 0 1 = cc in omega arith))))

weighing-settled : (text choices worths : List ℕ) → Settled (weighed text choices (length worths)) Err (weighing_rows text choices worths)
unfolding weighed weighed_by
weighing-settled text choices worths =
    chart-row (λ x y e. cc) text (λ r e. rw e)
    (λ chart e.
    let n = accepted-size text chart e in
    test-row (λ x y e. cc) (leb chart.positions (length choices) && leb chart.positions (length worths))
    (both-test _ _ (short-test choices n) (short-test worths n)) (λ b. rw (e, b))
    (λ b.
    test-row (λ x y e. cc) (legal_row (arena_of text) (row_value choices) (size (arena_of text))) (choice_test text choices) (λ c. rw (e, b, c))
    (λ c. no_rows (λ x y e. cc) (λ x q. let z : Ok (tt {0}) ≡ Err x = sym (rw (e, b, c)) ∙ q in let w : ◌≡◌ {A = ℕ} 0 1 = cc in omega arith))))

comparing-settled : (text plate choices : List ℕ) → Settled (compared text plate choices) Err (comparing_rows text plate choices)
comparing-settled text plate choices =
    chart-row (λ x y e. cc) text (first-the-chart text plate choices)
    (λ chart e.
    let n = accepted-size text chart e in
    test-row (λ x y e. cc) (leb chart.positions (length choices)) (short-test choices n) (λ b. then-ten text plate choices chart e (leb-false _ _ b))
    (λ b.
    let enough = leb-true chart.positions (length choices) b in
    form-row (λ x y e. cc) text plate chart e (then-eleven text plate choices chart e enough)
    (λ f.
    test-row (λ x y e. cc) (legal_row (arena_of text) (row_value choices) (size (arena_of text))) (choice_test text choices) (then-twelve text plate choices chart e enough f)
    (λ c.
    fault-row (λ x y e. cc) text plate (then-fourteen text plate choices chart e enough f c)
    (λ g. no_rows (λ x y e. cc) (λ x q. no-difference-refused (value_number plate) (worth_number (arena_of text) choices) (size (arena_of text)) x (sym (then-the-rows text plate choices chart e enough f c g) ∙ q)))))))
  where
    no-difference-refused : (f g : ℕ → ℕ) (n : ℕ) (x : Refusal) → first_difference f g n ≡ Err x → ⊥
    no-difference-refused f g n x e =
        ⊎_elim
        (λ all. let q = sym (first-none _ (λ v. Ok (Some (difference_of v (f v) (g v)))) (Ok None) n 0 all) ∙ e in let z : ◌≡◌ {A = ℕ} 0 1 = cc in omega arith)
        (λ w. let q = sym (first-at _ (λ v. Ok (Some (difference_of v (f v) (g v)))) (Ok None) n 0 w.0 w.1) ∙ e in let z : ◌≡◌ {A = ℕ} 0 1 = cc in omega arith)
        (first_or_none (λ v. eqb (f v) (g v)) n 0)

-- 10 for the sheet of good moves: the test is against the length of the one sheet that there is
sheet-test : (text out : List ℕ) (chart : Chart) → examined text ≡ Ok chart → Tests (leb (good_count (arena_of text) * 12) (length out)) (ShorterThanSheet text out)
sheet-test text out chart e = (
  λ b (sheet, is, l).
      let same = ap length (lists-unique a a.moves sheet (good_sheet a) is lines) in
      omega (arith, leb-true (good_count a * 12) (length out) b, same, sheet-length a, l),
  λ b. (good_sheet a, lines, omega (arith, leb-false (good_count a * 12) (length out) b, sheet-length a)),
)
  where
    a : Arena
    a = arena_of text

    lines : SheetOf a (good_sheet a)
    lines = sheet-is a (accepted-chartable text chart e).well-formed

listing-settled : (text out : List ℕ) → Settled (listed text (length out)) Err (listing_rows text out)
unfolding listed listed_by listed_rows
listing-settled text out =
    chart-row (λ x y e. cc) text (λ r e. rw e)
    (λ chart e.
    test-row (λ x y e. cc) (leb (good_count (arena_of text) * 12) (length out)) (sheet-test text out chart e) (λ b. rw (e, b))
    (λ b. no_rows (λ x y e. cc) (λ x q. let z : ◌≡◌ {A = ℕ} 0 1 = cc in omega arith)))

start-settled : (text plate : List ℕ) (position : ℕ) → Settled (started text plate position) Err (start_rows text plate position)
start-settled text plate position =
    let answer = start-exactly text plate position in
    let n = size (arena_of text) in
    chart-row (λ x y e. cc) text (λ r e. (answer (Err (OfChart r))).1 e)
    (λ chart e.
    form-row (λ x y e. cc) text plate chart e (λ line f. (answer (Err (Plate line))).1 (record { chart = chart; taken = e; bad = (bad-line-exact chart.positions line plate).0 f }))
    (λ f.
    let form = (form-exact chart.positions plate).0 f in
    test-row (λ x y e. cc) (ltb position n) (inside-test position n) (λ b. (answer (Err Position)).1 (record { chart = chart; taken = e; form = form }, ltb-false position n b))
    (λ b.
    fault-row (λ x y e. cc) text plate (λ v c g. (answer (Err (Fault v c))).1 (verdict-means text plate chart e form (Err (fault_of v c)) g, ltb-true position n b))
    (λ g.
    let begun = (answer (begun_at plate position)).1 (verdict-means text plate chart e form (Ok tt) g, ltb-true position n b, refl, refl) in
    no_rows (λ x y e. cc) (λ x q. let z : ◌≡◌ {A = ℕ} 0 1 = cc in omega arith)))))

-- The demand

pub demand-1 : Demand1
demand-1 =
    record {
      valuing = λ {text} {values} {values'} {choices} {choices'} {steps} is. with-lent is.answer (valuing-settled text values choices steps) is.refused;
      writing = λ {text} {out} is. with-lent is.answer (writing-settled text out) is.refused;
      reading = λ {text} {plate} {values} {values'} {choices} {choices'} {steps} is. with-lent is.answer (reading-settled text plate values choices steps) is.refused;
      checking = λ {text} {plate} e. with-lent e (checking-settled text plate) (λ x q. tt);
      weighing = λ {text} {choices} {worths} is. with-lent is.answer (weighing-settled text choices worths) is.refused;
      comparing = λ {text} {plate} {choices} is. with-lent is.answer (comparing-settled text plate choices) (λ x q. tt);
      listing = λ {text} {out} is. with-lent is.answer (listing-settled text out) is.refused;
      ruin = λ {text} {choices} {out} {out'} {position} is. with-lent is.answer (ruin-settled text choices position out) is.refused;
      generating = λ {n} {i} {out} is. with-lent is.answer (generating-settled n i out) is.refused;
      indexing = λ {text} e. with-lent e (indexing-settled text) (λ x q. tt);
      start = λ {text} {plate} {position} e. with-lent e (start-settled text plate position) (λ x q. tt);
      report = λ {run} {text} {plate} {to} e.
          with-lent (ap (λ (r : Reported). r.answer) e) (report-settled run text plate to)
          (λ x q. ap (λ (r : Reported). r.run) e ∙ report-unmoved run text plate to x (sym (ap (λ (r : Reported). r.answer) e) ∙ q));
      house = λ {runs} {after} {reports} {text} {plate} is. house-exact runs reports text plate is;
      misdrawn-is-refused = misdrawn-first;
    }
  where
    misdrawn-first : (text : List ℕ) (s : Misdrawn) → Applies text s → (r : Misdrawn) × First text r
    misdrawn-first text s applies = go (examined text) refl
      where
        go : (x : Result Chart Misdrawn) → examined text ≡ x → (r : Misdrawn) × First text r
        go (Err r) e = (r, (refused-exactly text r).0 e)
        go (Ok chart) e = absurd (((accepted-exactly text chart).0 e).0 s applies)

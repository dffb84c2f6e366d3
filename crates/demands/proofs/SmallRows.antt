-- The first demand's rows of Generating and Indexing: each test tells whether its row's condition holds.
use Rattle.std.specs.Prelude.{ℕ, ◌<◌, ◌≡◌, refl, Bool, true, false, ◌&&◌, not, List, length, leb, ltb, Err}
use Rattle.std.proofs.Common.{arith, sym, ap, ap₂, ◌∙◌, true≢false, leb-true, leb-false}
use Rattle.std.proofs.lemmas.Bool.{false≢true}
use Rattle.search.specs.Below.{some_below, some-hit, some-found}
use Rattle.game.specs.Arena.{Arena, Owner, controller, environment, nobody, size, owner_at}
use Rattle.chart.specs.Meaning.{arena_of, chart_text}
use Rattle.numbering.specs.Numbering.{chart_count}
use Rattle.numbering.specs.Squares.{small_arena}
use Rattle.numbering.proofs.EverySmall.{chart-of-index, index-of-chart}
use Rattle.generating.specs.Generating.{is_index, small_text, generated}
use Rattle.generating.specs.GeneratingLaws.{index-bounds}
use Rattle.indexing.specs.Indexing.{is_rest, is_small, indexed_arena, indexed_by, indexed}
use Rattle.demands.specs.Demand1.{NoSuchIndex, OfAnotherSort, ShorterThanChart, generating_rows, indexing_rows}
use Rattle.demands.proofs.RowLaws.{Settled, Tests, both-test, inside-test, no_rows, test-row, chart-row}

at-most-test : (x y : ℕ) → Tests (leb x y) (y < x)
at-most-test x y = (λ e l. omega (arith, leb-true x y e), λ e. leb-false x y e)

-- 21 and 10 for an index: the test of 10 is against the length of the one chart that has it
index-test : (n i : ℕ) → Tests (is_index n i) (NoSuchIndex n i)
unfolding is_index
index-test n i = both-test (leb 1 n) (leb n 3 && ltb i (chart_count n)) (at-most-test 1 n) (both-test (leb n 3) (ltb i (chart_count n)) (at-most-test n 3) (inside-test i (chart_count n)))

chart-test : (n i : ℕ) (out : List ℕ) → is_index n i ≡ true → Tests (leb (length (small_text n i)) (length out)) (ShorterThanChart n i out)
unfolding small_text
chart-test n i out e = (
  λ b (a, small, n-is, i-is, l).
      let again = (index-of-chart a small).1 in
      let same = ap (λ (x : Arena). length (chart_text x)) (ap₂ small_arena (sym n-is) (sym i-is) ∙ again) in
      omega (arith, leb-true (length (chart_text (small_arena n i))) (length out) b, same, l),
  λ b. let w = index-bounds n i e in let c = chart-of-index n i w.0 w.1 w.2 in (small_arena n i, c.0, c.1.0, c.1.1, leb-false (length (chart_text (small_arena n i))) (length out) b),
)

pub generating-settled : (n i : ℕ) (out : List ℕ) → Settled (generated n i (length out)) Err (generating_rows n i out)
unfolding generated
generating-settled n i out =
    test-row (λ x y e. cc) (is_index n i) (index-test n i) (λ b. rw b)
    (λ b.
    test-row (λ x y e. cc) (leb (length (small_text n i)) (length out)) (chart-test n i out b) (λ c. rw (b, c))
    (λ c. no_rows (λ x y e. cc) (λ x q. let z : ◌≡◌ {A = ℕ} 0 1 = cc in omega arith)))

-- 21 for a chart
rest-test : (a : Arena) → Tests (not (some_below (λ v. is_rest (owner_at a v)) (size a))) ((v : ℕ) × (v < size a) × (owner_at a v ≡ nobody))
unfolding is_rest
rest-test a = (
  λ e (v, l, rests). true≢false (sym e ∙ ap not (some-hit (λ u. is_rest (owner_at a u)) (size a) v l (ap is_rest rests))),
  λ e. go (some_below (λ v. is_rest (owner_at a v)) (size a)) refl e,
)
  where
    resting : (o : Owner) → is_rest o ≡ true → o ≡ nobody
    resting controller e = absurd (false≢true e)
    resting environment e = absurd (false≢true e)
    resting nobody e = refl

    go : (b : Bool) → some_below (λ v. is_rest (owner_at a v)) (size a) ≡ b → not b ≡ false → (v : ℕ) × (v < size a) × (owner_at a v ≡ nobody)
    go true e f = let w = some-found (λ v. is_rest (owner_at a v)) (size a) e in (w.0, w.1, resting (owner_at a w.0) w.2)
    go false e f = absurd (true≢false f)

sort-test : (text : List ℕ) → Tests (is_small (arena_of text)) (OfAnotherSort text)
unfolding is_small
sort-test text = both-test _ _ (at-most-test (size (arena_of text)) 3) (rest-test (arena_of text))

pub indexing-settled : (text : List ℕ) → Settled (indexed text) Err (indexing_rows text)
unfolding indexed indexed_by indexed_arena
indexing-settled text =
    chart-row (λ x y e. cc) text (λ r e. rw e)
    (λ chart e.
    test-row (λ x y e. cc) (is_small (arena_of text)) (sort-test text) (λ b. rw (e, b))
    (λ b. no_rows (λ x y e. cc) (λ x q. let z : ◌≡◌ {A = ℕ} 0 1 = cc in omega arith)))

-- Each small chart has exactly one index, and each index below the count has a chart: the digits of a number are those of proper squares, and
-- the digits of proper squares say these squares.
use Rattle.std.specs.Prelude.{ℕ, zero, suc, ◌^◌, ◌≤◌, ◌<◌, ◌≡◌, refl, Bool, true, false}
use Rattle.std.proofs.Common.{arith, pow_mono, sym, ◌∙◌}
use Rattle.std.proofs.Math.Path.{ap, ap₂, subst}
use Rattle.game.specs.Arena.{Arena, Position, size, position_at, owner_at}
use Rattle.numbering.specs.Numbering.{set_number, digit, digits, console_digits, numeral, is_lane, joins, digit_at, index_of, chart_count, Small}
use Rattle.numbering.specs.Squares.{Squares, owner_by, position_of, square_arena, digit_of, lane_in, mark_in, meant_in, disturbances_in, in_set, squares_of, small_arena}
use Rattle.numbering.proofs.SetLaws.{set_same, set-none, set-bound, zero-has-none, in-set, set-again, set-target, set-some}
use Rattle.numbering.proofs.DigitLaws.{digits-again, numeral-same, number-again, digit-of-bound, Says, digit-says, Sayable, digit-sayable}
use Rattle.numbering.proofs.NumeralLaws.{digits-positive, numeral-bound}
use Rattle.numbering.proofs.SquareLaws.{square_for}
use Rattle.numbering.proofs.ArenaLaws.{Proper, arena-size, arena-position, arena-joins, proper-small, same-arena, squares_in, small-proper, small-squares}

-- the index of squares
square_digit : Squares → (n v : ℕ) → ℕ
square_digit s n v = digit (2 ^ n) (s.lane v) (s.mark v) (set_number (s.meant v) n) (set_number (s.disturbances v) n)

square_index : Squares → ℕ → ℕ
square_index s n = numeral (digits (2 ^ n)) (square_digit s n) n

lane-again : (b : Bool) → is_lane (owner_by b) ≡ b
unfolding is_lane
lane-again true = refl
lane-again false = refl

-- the index of an arena is that of its squares
module _ (s : Squares) (n : ℕ) where
  arena-digit : (v : ℕ) → v < n → digit_at (square_arena s n) v ≡ square_digit s n v
  unfolding digit_at square_digit square_for
  arena-digit v l =
      subst (λ (k : ℕ). digit (2 ^ k) (is_lane (owner_at a v)) (position_at a v).mark (set_number (joins a 0 v) k) (set_number (joins a 1 v) k) ≡ square_digit s n v) (sym (arena-size s n))
      (λ j. digit (2 ^ n) (owner j) (arena-position s n v l j).mark (set 0 (omega arith) j) (set 1 (omega arith) j))
    where
      a : Arena
      a = square_arena s n

      owner : is_lane (owner_at a v) ≡ s.lane v
      owner = ap (λ (q : Position). is_lane q.owner) (arena-position s n v l) ∙ lane-again (s.lane v)

      set : (cost : ℕ) → cost < 2 → set_number (joins a cost v) n ≡ set_number (square_for s cost v) n
      set cost c = set_same (joins a cost v) (square_for s cost v) n (λ w k. arena-joins s n cost v w c l k)

  square-index : index_of (square_arena s n) ≡ square_index s n
  unfolding index_of square_index
  square-index =
      subst (λ (k : ℕ). numeral (digits (2 ^ k)) (digit_at (square_arena s n)) k ≡ square_index s n) (sym (arena-size s n))
      (numeral-same (digits (2 ^ n)) (digit_at (square_arena s n)) (square_digit s n) n arena-digit)

-- From squares to an index and back

module _ (s : Squares) (n : ℕ) (some : 1 ≤ n) (few : n ≤ 3) (p : Proper s n) where
  says : (v : ℕ) → v < n → Says (2 ^ n) (square_digit s n v) (s.lane v) (s.mark v) (set_number (s.meant v) n) (set_number (s.disturbances v) n)
  unfolding square_digit
  says v l =
      let w = p.meant v l in
      digit-says (2 ^ n) (s.mark v) (set_number (s.meant v) n) (set_number (s.disturbances v) n) (p.mark v l) (set-some (s.meant v) n w.0 w.1 w.2)
      (set-bound (s.meant v) n) (set-bound (s.disturbances v) n) (s.lane v) (λ e. set-none (s.disturbances v) n (λ u k. p.undisturbed v u l k e))

  square-bound : square_index s n < chart_count n
  unfolding square_index chart_count
  square-bound = numeral-bound (digits (2 ^ n)) (digits (2 ^ n)) (square_digit s n) n (omega arith) (λ v l. (says v l).bound)

  -- the digit that the index has at v
  digit-is : (v : ℕ) → v < n → digit_of (digits (2 ^ n)) (square_index s n) n v ≡ square_digit s n v
  unfolding square_index
  digit-is v l = digits-again (digits (2 ^ n)) (square_digit s n) n (λ u k. (says u k).bound) v l

  square-again : small_arena n (square_index s n) ≡ square_arena s n
  unfolding small_arena squares_of square_for
  square-again = same-arena (squares_of n (square_index s n)) s n few positions squares
    where
      positions : (v : ℕ) → v < n → position_of (squares_of n (square_index s n)) v ≡ position_of s v
      positions v l = rw (digit-is v l) (λ j. record { owner = owner_by ((says v l).lane-is j); mark = (says v l).mark-is j })

      squares : (cost v w : ℕ) → cost < 2 → v < n → w < n → square_for (squares_of n (square_index s n)) cost v w ≡ square_for s cost v w
      squares zero v w c l k = rw (digit-is v l, (says v l).meant_is) (in-set (s.meant v) n w k)
      squares (suc zero) v w c l k = rw (digit-is v l, (says v l).disturbances-is) (in-set (s.disturbances v) n w k)
      squares (suc (suc cost)) v w c l k = absurd (omega arith)

-- From an index to squares and back

module _ (n i : ℕ) (some : 1 ≤ n) (few : n ≤ 3) (below : i < chart_count n) where
  base : ℕ
  base = digits (2 ^ n)

  said : (v : ℕ) → v < n → Sayable (2 ^ n) (digit_of base i n v)
  unfolding base
  said v l = digit-sayable (2 ^ n) (digit_of base i n v) (pow_mono some) (digit-of-bound base i n v (digits-positive n some) l)

  proper-squares : Proper (squares_of n i) n
  unfolding squares_of base
  proper-squares = record {
    mark = λ v l. (said v l).marked;
    meant = λ v l. set-target n (meant_in (2 ^ n) (digit_of base i n v)) (said v l).some (said v l).set;
    undisturbed = λ v w l k e. ap (λ (x : ℕ). in_set x w) ((said v l).none e) ∙ zero-has-none w;
  }

  index-again : square_index (squares_of n i) n ≡ i
  unfolding square_index square_digit squares_of base chart_count
  index-again =
      numeral-same base (square_digit (squares_of n i) n) (digit_of base i n) n
      (λ v l. ap₂ (digit (2 ^ n) (lane_in (2 ^ n) (digit_of base i n v)) (mark_in (2 ^ n) (digit_of base i n v)))
      (set-again n (meant_in (2 ^ n) (digit_of base i n v)) (said v l).set) (set-again n (disturbances_in (2 ^ n) (digit_of base i n v)) (said v l).few) ∙ (said v l).again)
      ∙ number-again base i n (digits-positive n some) below

-- The theorem

-- "6, 900 and 2,000,376 of them"
pub counts : (chart_count 1 ≡ 6) × ((chart_count 2 ≡ 900) × (chart_count 3 ≡ 2000376))
unfolding chart_count digits console_digits
counts = (refl, (refl, refl))

-- each index below the count has a chart: a small arena of n positions whose index it is
pub chart-of-index : (n i : ℕ) → 1 ≤ n → n ≤ 3 → i < chart_count n → Small (small_arena n i) × ((size (small_arena n i) ≡ n) × (index_of (small_arena n i) ≡ i))
unfolding small_arena
chart-of-index n i some few below = (
  proper-small (squares_of n i) n some few (proper-squares n i some few below),
  (arena-size (squares_of n i) n, square-index (squares_of n i) n ∙ index-again n i some few below),
)

-- each small arena has an index below the count, and is the chart of it
pub index-of-chart : (a : Arena) → Small a → (index_of a < chart_count (size a)) × (small_arena (size a) (index_of a) ≡ a)
index-of-chart a small =
    let some = small.chartable.some-position in
    let proper = small-proper a small in
    let again = small-squares a small in
    let index : index_of a ≡ square_index (squares_in a) (size a) = ap index_of (sym again) ∙ square-index (squares_in a) (size a) in (
      subst (λ (i : ℕ). i < chart_count (size a)) (sym index) (square-bound (squares_in a) (size a) some small.few proper),
      ap (small_arena (size a)) index ∙ square-again (squares_in a) (size a) some small.few proper ∙ again,
    )

-- and of no other
pub one_index : (a : Arena) → Small a → (i : ℕ) → i < chart_count (size a) → small_arena (size a) i ≡ a → i ≡ index_of a
one_index a small i below e = sym (chart-of-index (size a) i small.chartable.some-position small.few below).1.1 ∙ ap index_of e

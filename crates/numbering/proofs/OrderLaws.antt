-- Indices rise in the request's order: of two small charts with as many positions, the one that comes before has the smaller index. The digit of a
-- position that comes before is smaller, and of two numbers the one with the smaller digit at the first difference is smaller.
use Rattle.std.specs.Prelude.{ℕ, zero, suc, ◌+◌, ◌-◌, ◌*◌, ◌^◌, ◌≤◌, ◌<◌, ◌≡◌, ◌⊎◌, Bool}
use native.Mathlib.Omega.{arith}
use Rattle.std.proofs.Math.Decide.{ℕ_discrete}
use Rattle.std.proofs.Common.{mul-le-mul_right, suc-mul, sym, ap, subst₂, inl, inr}
use Rattle.std.proofs.Math.Path.{refl, subst}
use Rattle.std.proofs.Math.Bool.{true, false}
use Rattle.game.specs.Arena.{Arena, Owner, controller, environment, size, owner_at, position_at}
use Rattle.numbering.specs.Numbering.{digit, digits, console_digits, numeral, is_lane, joins, target_set, digit_at, index_of, Small}
use Rattle.numbering.proofs.SetLaws.{set-none, set-bound, set-some}
use Rattle.numbering.proofs.DigitLaws.{within, numeral-same, digit-says}
use Rattle.numbering.proofs.ArenaLaws.{squares_in, small-proper}
use Rattle.numbering.specs.Order.{SameAt, BeforeAt, Precedes}

-- rows of t places: a place in a lower row is lower
lower-row : (t x y a b : ℕ) → x < y → a < t → x * t + a < y * t + b
lower-row t x y a b l m = let up = mul-le-mul_right t l in omega (arith, suc-mul x t)

-- of two numbers, the one with the smaller digit at the first difference
numeral-less : (base : ℕ) (f g : ℕ → ℕ) (k v : ℕ) → v < k → ((u : ℕ) → u < v → f u ≡ g u) → f v < g v → ((u : ℕ) → u < k → f u < base) → numeral base f k < numeral base g k
unfolding numeral
numeral-less base f g zero v l same less below = absurd (omega arith)
numeral-less base f g (suc k) v l same less below = go (ℕ_discrete v k) (λ h. numeral-less base f g k v h same less (λ u m. below u (omega arith)))
  where
    go : Dec (v ≡ k) → (v < k → numeral base f k < numeral base g k) → numeral base f k * base + f k < numeral base g k * base + g k
    go (yes e) rest =
        let front = numeral-same base f g k (λ u m. same u (omega arith)) in
        let last = subst (λ (u : ℕ). f u < g u) e less in
        rw front (omega arith)
    go (no z) rest = lower-row base (numeral base f k) (numeral base g k) (f k) (g k) (rest (omega arith)) (below k (omega arith))

-- what a digit is made of, within its bounds
pub record Fair (t : ℕ) (lane : Bool) (mark meant disturbances : ℕ) : Type 0 where
  pub marked : mark ≤ 1
  pub some : 1 ≤ meant
  pub set : meant < t
  pub few : disturbances < t
  pub none : lane ≡ true → disturbances ≡ 0

module _ (t mark mark' meant meant' d d' : ℕ) where
  rest_below : mark ≤ 1 → 1 ≤ meant → meant < t → mark * (t - 1) + (meant - 1) < 2 * (t - 1)
  rest_below m s l = go mark m
    where
      go : (x : ℕ) → x ≤ 1 → x * (t - 1) + (meant - 1) < 2 * (t - 1)
      go zero h = omega arith
      go (suc zero) h = omega arith
      go (suc (suc x)) h = absurd (omega arith)

  higher-mark : mark < mark' → mark' ≤ 1 → 1 ≤ meant → meant < t → mark * (t - 1) + (meant - 1) < mark' * (t - 1) + (meant' - 1)
  higher-mark l m s k = let one : mark' ≡ 1 = omega arith in let none : mark ≡ 0 = omega arith in rw (one, none) (omega arith)

  -- the smaller of mark and meant set together
  higher-rest : (lane : Bool) → Fair t lane mark meant d → Fair t lane mark' meant' d' → mark * (t - 1) + (meant - 1) < mark' * (t - 1) + (meant' - 1)
      → digit t lane mark meant d < digit t lane mark' meant' d'
  unfolding digit
  higher-rest false f g l = lower-row t _ _ d d' l f.few
  higher-rest true f g l = omega arith

  lane-last : Fair t false mark meant d → digit t false mark meant d < digit t true mark' meant' d'
  unfolding digit console_digits
  lane-last f = let h = within (2 * (t - 1)) t (mark * (t - 1) + (meant - 1)) d (rest_below f.marked f.some f.set) f.few in omega arith

module _ (t mark meant d d' : ℕ) where
  higher-disturbances : (lane : Bool) → Fair t lane mark meant d' → d < d' → digit t lane mark meant d < digit t lane mark meant d'
  unfolding digit
  higher-disturbances false g l = omega arith
  higher-disturbances true g l = absurd (let z = g.none refl in omega arith)

-- the digit of a position that comes before is smaller
digit-less : (t : ℕ) (o o' : Owner) (mark mark' meant meant' d d' : ℕ) → Fair t (is_lane o) mark meant d → Fair t (is_lane o') mark' meant' d'
    → ((o ≡ controller) × (o' ≡ environment)) ⊎ ((o ≡ o') × ((mark < mark') ⊎ ((mark ≡ mark') × ((meant < meant') ⊎ ((meant ≡ meant') × (d < d'))))))
    → digit t (is_lane o) mark meant d < digit t (is_lane o') mark' meant' d'
unfolding is_lane
digit-less t o o' mark mark' meant meant' d d' f g (inl (e, k)) =
    subst₂ (λ (x y : Owner). digit t (is_lane x) mark meant d < digit t (is_lane y) mark' meant' d') (sym e) (sym k)
    (lane-last t mark mark' meant meant' d d' (subst (λ (x : Owner). Fair t (is_lane x) mark meant d) e f))
digit-less t o o' mark mark' meant meant' d d' f g (inr (e, w)) =
    subst (λ (y : Owner). digit t (is_lane o) mark meant d < digit t (is_lane y) mark' meant' d') e
    (go (is_lane o) f (subst (λ (y : Owner). Fair t (is_lane y) mark' meant' d') (sym e) g) w)
  where
    go : (lane : Bool) → Fair t lane mark meant d → Fair t lane mark' meant' d'
        → (mark < mark') ⊎ ((mark ≡ mark') × ((meant < meant') ⊎ ((meant ≡ meant') × (d < d')))) → digit t lane mark meant d < digit t lane mark' meant' d'
    go lane f g (inl l) =
        higher-rest t mark mark' meant meant' d d' lane f g (higher-mark t mark mark' meant meant' d d' l g.marked f.some f.set)
    go lane f g (inr (m, inl l)) =
        higher-rest t mark mark' meant meant' d d' lane f g (let s = ap (λ (x : ℕ). x * (t - 1)) m in omega (arith, f.some))
    go lane f g (inr (m, inr (s, l))) =
        subst₂ (λ (x y : ℕ). digit t lane mark meant d < digit t lane x y d') m s
        (higher-disturbances t mark meant d d' lane (subst₂ (λ (x y : ℕ). Fair t lane x y d') (sym m) (sym s) g) l)

-- the parts of a small chart's digit
module _ (a : Arena) (small : Small a) (v : ℕ) (l : v < size a) where
  pub fair : Fair (2 ^ size a) (is_lane (owner_at a v)) (position_at a v).mark (target_set a 0 v) (target_set a 1 v)
  unfolding squares_in
  fair =
      let p = small-proper a small in
      let w = p.meant v l in
      record {
        marked = p.mark v l;
        some = set-some (joins a 0 v) (size a) w.0 w.1 w.2;
        set = set-bound (joins a 0 v) (size a);
        few = set-bound (joins a 1 v) (size a);
        none = λ e. set-none (joins a 1 v) (size a) (λ u k. p.undisturbed v u l k e);
      }

  pub digit-below : digit_at a v < digits (2 ^ size a)
  unfolding digit_at
  digit-below =
      let f = fair in
      (digit-says (2 ^ size a) (position_at a v).mark (target_set a 0 v) (target_set a 1 v) f.marked f.some f.set f.few (is_lane (owner_at a v)) f.none).bound

module _ (a b : Arena) (small : Small a) (small' : Small b) (same : size a ≡ size b) where
  same-digit : (v : ℕ) → SameAt a b v → digit_at a v ≡ digit_at b v
  unfolding digit_at
  same-digit v s = λ j. digit (2 ^ same j) (is_lane (s.owner j)) (s.mark j) (s.meant j) (s.disturbances j)

  less-digit : (v : ℕ) → v < size a → BeforeAt a b v → digit_at a v < digit_at b v
  unfolding digit_at BeforeAt
  less-digit v l w =
      let g = fair b small' v (omega (arith, same)) in
      subst (λ (k : ℕ). digit_at a v < digit (2 ^ k) (is_lane (owner_at b v)) (position_at b v).mark (target_set b 0 v) (target_set b 1 v)) same
      (digit-less (2 ^ size a) (owner_at a v) (owner_at b v) (position_at a v).mark (position_at b v).mark (target_set a 0 v) (target_set b 0 v) (target_set a 1 v) (target_set b 1 v)
      (fair a small v l) (subst (λ (k : ℕ). Fair (2 ^ k) (is_lane (owner_at b v)) (position_at b v).mark (target_set b 0 v) (target_set b 1 v)) (sym same) g) w)

  -- the chart that comes before has the smaller index
  pub rises-in-order : Precedes a b → index_of a < index_of b
  unfolding index_of
  rises-in-order p =
      subst (λ (k : ℕ). numeral (digits (2 ^ size a)) (digit_at a) (size a) < numeral (digits (2 ^ k)) (digit_at b) k) same
      (numeral-less (digits (2 ^ size a)) (digit_at a) (digit_at b) (size a) p.at p.inside (λ u l. same-digit u (p.front u l)) (less-digit p.at p.inside p.before)
      (λ u l. digit-below a small u l))

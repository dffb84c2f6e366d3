-- The computed choice is document 01's, and there is only one. The walk keeps a target that is as good as each target
-- seen: of at least its value, and of no higher number where the values are equal.
use Rattle.std.specs.Prelude.{ℕ, ◌≤◌, ◌<◌, ◌≡◌, ◌⊎◌, Bool, ◌&&◌, ◌||◌, not, T, ltb}
use Rattle.std.proofs.Common.{arith, sym, ap, ◌∙◌, ltb→lt, nltb→le, T_not}
use Rattle.std.proofs.Math.Path.{refl, subst}
use Rattle.std.proofs.Math.Logic.{inl, inr}
use Rattle.std.proofs.Math.Bool.{true, false, cond}
use mathlib.Core.List.Memᴰ
use mathlib.Core.List.{List, [], ◌∷◌, Memᴰ}
use Rattle.game.specs.Value.{Value, fin, ever, ◌≼◌, ◌≺◌, value_lt, value_eq}
use Rattle.game.specs.Arena.{Arena, Move, Owner, controller, environment, nobody, WellFormed, size, owner_at, Meant, meant_move, has_meant}
use Rattle.game.specs.Play.{LegalAs, Legal}
use Rattle.game.specs.Choice.{IsChoiceAs, IsChoice}
use Rattle.game.specs.Table.{meant_from}
use Rattle.game.specs.Best.{better, best_in, best_as, best_at}
use Rattle.game.proofs.ValueLaws.{fin-injective, fin-is-not-ever, ≼refl, ≼trans, ≼antisym, ≼-or-≺, ≺→≼, ≺irrefl, ≡→≼, value_lt-sound, value_eq-sound}
use Rattle.game.proofs.MoveTests.{and_left, and_right, and_both, or_cases, or_left, or_right, is_true, is_false, passes-or-fails, meant-move, meant-from}

module _ (value : ℕ → Value) where
  -- w is as good a choice as u
  record AsGood (w u : ℕ) : Type 0 where
    at_least : value u ≼ value w
    no-higher : value u ≡ value w → w ≤ u

  good-refl : (w : ℕ) → AsGood w w
  good-refl w = record { at_least = ≼refl (value w); no-higher = λ e. omega arith }

  good-trans : (t u w : ℕ) → AsGood t u → AsGood u w → AsGood t w
  good-trans t u w p q =
      record {
        at_least = ≼trans (value w) (value u) (value t) q.at_least p.at_least;
        no-higher =
            λ e.
            let f : value u ≡ value t = ≼antisym (value u) (value t) p.at_least (≼trans (value t) (value w) (value u) (≡→≼ (value t) (value w) (sym e)) q.at_least) in
            let i = p.no-higher f in
            let j = q.no-higher (e ∙ sym f) in
            omega arith;
      }

  -- the test of `better`: whether w goes before u
  abbrev before : ℕ → ℕ → Bool
  before w u = value_lt (value u) (value w) || (value_eq (value u) (value w) && ltb w u)

  before-good : (w u : ℕ) → T (before w u) → AsGood w u
  before-good w u h = go (or_cases (value_lt (value u) (value w)) (value_eq (value u) (value w) && ltb w u) h)
    where
      go : T (value_lt (value u) (value w)) ⊎ T (value_eq (value u) (value w) && ltb w u) → AsGood w u
      go (inl l) =
          let less = (value_lt-sound (value u) (value w)).0 l in
          record {
            at_least = ≺→≼ (value u) (value w) less;
            no-higher = λ e. absurd (≺irrefl (value w) (subst (λ (x : Value). x ≺ value w) e less));
          }
      go (inr q) =
          let e = (value_eq-sound (value u) (value w)).0 (and_left (value_eq (value u) (value w)) (ltb w u) q) in
          let l = ltb→lt w u (and_right (value_eq (value u) (value w)) (ltb w u) q) in
          record { at_least = ≡→≼ (value u) (value w) e; no-higher = λ f. omega arith }

  not-before-good : (w u : ℕ) → T (not (before w u)) → AsGood u w
  not-before-good w u h =
      record { at_least = order (≼-or-≺ (value w) (value u)); no-higher = λ e. number e (passes-or-fails (ltb w u)) }
    where
      order : (value w ≼ value u) ⊎ (value u ≺ value w) → value w ≼ value u
      order (inl l) = l
      order (inr l) = absurd (T_not (before w u) h (or_left (value_lt (value u) (value w)) (value_eq (value u) (value w) && ltb w u) ((value_lt-sound (value u) (value w)).1 l)))

      number : value w ≡ value u → T (ltb w u) ⊎ T (not (ltb w u)) → u ≤ w
      number e (inl l) =
          absurd (T_not (before w u) h (or_right (value_lt (value u) (value w)) (value_eq (value u) (value w) && ltb w u)
          (and_both (value_eq (value u) (value w)) (ltb w u) ((value_eq-sound (value u) (value w)).1 (sym e)) l)))
      number e (inr l) = nltb→le w u l

  -- the better of the best so far and w is one of them, and as good as both
  better-one : (b : Value) (w x : ℕ) → better value b w ≡ fin x → (b ≡ fin x) ⊎ (x ≡ w)
  unfolding better
  better-one ever w x e = inr (fin-injective x w (sym e))
  better-one (fin u) w x e = go (before w u) e
    where
      go : (c : Bool) → cond c (fin w) (fin u) ≡ fin x → (◌≡◌ {A = Value} (fin u) (fin x)) ⊎ (x ≡ w)
      go true e = inr (fin-injective x w (sym e))
      go false e = inl e

  better-good : (b : Value) (w t : ℕ) → (b ≡ fin t) ⊎ (t ≡ w) → (x : ℕ) × (better value b w ≡ fin x) × AsGood x t
  unfolding better
  better-good ever w t (inl e) = absurd (fin-is-not-ever t (sym e))
  better-good ever w t (inr e) = (w, refl, subst (AsGood w) (sym e) (good-refl w))
  better-good (fin u) w t c = go (passes-or-fails (before w u))
    where
      one : (x : ℕ) → AsGood x u → AsGood x w → (◌≡◌ {A = Value} (fin u) (fin t)) ⊎ (t ≡ w) → AsGood x t
      one x p q (inl e) = subst (AsGood x) (fin-injective u t e) p
      one x p q (inr e) = subst (AsGood x) (sym e) q

      go : T (before w u) ⊎ T (not (before w u)) → (x : ℕ) × (cond (before w u) (fin w) (fin u) ≡ fin x) × AsGood x t
      go (inl h) = (w, rw (is_true (before w u) h), one w (before-good w u h) (good-refl w) c)
      go (inr h) = (u, rw (is_false (before w u) h), one u (good-refl u) (not-before-good w u h) c)

  -- w is the best so far or a meant target in ms
  abbrev Among : ℕ → Value → List Move → ℕ → Type 0
  Among v b ms w = (b ≡ fin w) ⊎ Memᴰ (meant_move v w) ms

  -- the best after the move m
  abbrev kept : ℕ → Value → Move → Value
  kept v b m = cond (meant_from v m) (better value b m.to) b

  kept-one : (v : ℕ) (b : Value) (m : Move) (ms : List Move) (w : ℕ) → Among v (kept v b m) ms w → Among v b (m ∷ ms) w
  kept-one v b m ms w (inr mem) = inr (Memᴰ.tail mem)
  kept-one v b m ms w (inl e) = go (passes-or-fails (meant_from v m))
    where
      now : T (meant_from v m) → (b ≡ fin w) ⊎ (w ≡ m.to) → Among v b (m ∷ ms) w
      now h (inl f) = inl f
      now h (inr f) = inr (Memᴰ.head (ap (meant_move v) f ∙ meant-move v m h))

      go : T (meant_from v m) ⊎ T (not (meant_from v m)) → Among v b (m ∷ ms) w
      go (inl h) = now h (better-one b m.to w (rw (is_true (meant_from v m) h) at e))
      go (inr h) = inl (rw (is_false (meant_from v m) h) at e)

  kept-good : (v : ℕ) (b : Value) (m : Move) (ms : List Move) (t : ℕ) → Among v b (m ∷ ms) t → (x : ℕ) × Among v (kept v b m) ms x × AsGood x t
  kept-good v b m ms t c = go (passes-or-fails (meant_from v m)) (split c)
    where
      split : Among v b (m ∷ ms) t → (b ≡ fin t) ⊎ ((meant_move v t ≡ m) ⊎ Memᴰ (meant_move v t) ms)
      split (inl e) = inl e
      split (inr mem) = inr (Memᴰ.cases_cons mem)

      found : T (meant_from v m) → (x : ℕ) × (better value b m.to ≡ fin x) × AsGood x t → (x : ℕ) × Among v (kept v b m) ms x × AsGood x t
      found h r = (r.0, inl (rw (is_true (meant_from v m) h) r.1), r.2)

      go : T (meant_from v m) ⊎ T (not (meant_from v m)) → (b ≡ fin t) ⊎ ((meant_move v t ≡ m) ⊎ Memᴰ (meant_move v t) ms)
          → (x : ℕ) × Among v (kept v b m) ms x × AsGood x t
      go d (inr (inr mem)) = (t, inr mem, good-refl t)
      go (inl h) (inl e) = found h (better-good b m.to t (inl e))
      go (inl h) (inr (inl e)) = found h (better-good b m.to t (inr (ap (λ (x : Move). x.to) e)))
      go (inr h) (inl e) = (t, inl (rw (is_false (meant_from v m) h) e), good-refl t)
      go (inr h) (inr (inl e)) = absurd (T_not (meant_from v m) h (subst (λ (x : Move). T (meant_from v x)) e (meant-from v t)))

  -- the walk ends at one of them, as good as each, if there is one
  record Walked (v : ℕ) (b : Value) (ms : List Move) (w : ℕ) : Type 0 where
    is : best_in value v b ms ≡ fin w
    one : Among v b ms w
    all : (t : ℕ) → Among v b ms t → AsGood w t

  walk : (v : ℕ) (b : Value) (ms : List Move) (t : ℕ) → Among v b ms t → (w : ℕ) × Walked v b ms w
  unfolding best_in
  walk v b [] t (inr mem) = absurd (Memᴰ.not-nil mem)
  walk v b [] t (inl e) = (t, record { is = e; one = inl e; all = only })
    where
      only : (u : ℕ) → Among v b [] u → AsGood t u
      only u (inl f) = subst (AsGood t) (fin-injective t u (sym e ∙ f)) (good-refl t)
      only u (inr mem) = absurd (Memᴰ.not-nil mem)
  walk v b (m ∷ ms) t c =
      let k = kept-good v b m ms t c in
      let r = walk v (kept v b m) ms k.0 k.1 in (
        r.0,
        record {
          is = r.1.is;
          one = kept-one v b m ms r.0 r.1.one;
          all = λ u d. let j = kept-good v b m ms u d in good-trans r.0 j.0 u (r.1.all j.0 j.1) j.2;
        },
      )

-- "The choice at O is the meant target of greatest value, the lowest number among equals"
module _ (a : Arena) (value : ℕ → Value) where
  best-as : (o : Owner) (v : ℕ) → (T (has_meant o) → (w : ℕ) × Meant a v w) → IsChoiceAs o a value v (best_as o a value v)
  unfolding best_as
  best-as controller v some =
      let m = some tt in
      let r = walk value v ever a.moves m.0 (inr m.1) in (
        r.0,
        r.1.is,
        record {
          target = meant r.1.one;
          greatest = λ u h. (r.1.all u (inr h)).at_least;
          lowest = λ u h. (r.1.all u (inr h)).no-higher;
        },
      )
    where
      meant : {w : ℕ} → (◌≡◌ {A = Value} ever (fin w)) ⊎ Meant a v w → Meant a v w
      meant {w} (inl e) = absurd (fin-is-not-ever w (sym e))
      meant (inr h) = h
  best-as environment v some = refl
  best-as nobody v some = refl

  pub best-is-the-choice : WellFormed a → (v : ℕ) → v < size a → IsChoice a value v (best_at a value v)
  unfolding best_at
  best-is-the-choice wf v h = best-as (owner_at a v) v (wf.meant v h)

  choice-unique-as : (o : Owner) (v : ℕ) (x y : Value) → IsChoiceAs o a value v x → IsChoiceAs o a value v y → x ≡ y
  choice-unique-as controller v x y p q =
      let w = p.0 in
      let u = q.0 in
      let e = ≼antisym (value u) (value w) (p.2.greatest u q.2.target) (q.2.greatest w p.2.target) in
      let i = p.2.lowest u q.2.target e in
      let j = q.2.lowest w p.2.target (sym e) in
      p.1 ∙ ap fin (omega arith) ∙ sym q.1
  choice-unique-as environment v x y p q = p ∙ sym q
  choice-unique-as nobody v x y p q = p ∙ sym q

  pub choice-is-unique : (v : ℕ) (x y : Value) → IsChoice a value v x → IsChoice a value v y → x ≡ y
  choice-is-unique v x y p q = choice-unique-as (owner_at a v) v x y p q

  legal-as : (o : Owner) (v : ℕ) (x : Value) → IsChoiceAs o a value v x → LegalAs o a v x
  legal-as controller v x c = (c.0, c.1, c.2.target)
  legal-as environment v x c = c
  legal-as nobody v x c = c

  pub best-is-legal : WellFormed a → Legal a (best_at a value)
  best-is-legal wf v h = legal-as (owner_at a v) v (best_at a value v) (best-is-the-choice wf v h)

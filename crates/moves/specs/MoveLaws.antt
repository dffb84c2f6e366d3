-- What a move is, read off the rows; and what each kind says of the arena's moves: exactly document 01's sentence.
use Rattle.std.specs.Prelude.{ℕ, ◌<◌, ◌≡◌, ◌↔◌, Bool, cond, ◌&&◌, List, get_or}
use Rattle.std.proofs.Math.Path.{refl, sym, subst}
use Rattle.std.proofs.Common.{ap, ◌∙◌, eqb→eq}
use Rattle.std.proofs.Math.Bool.{true, false, and-true, and-false}
use Rattle.std.proofs.Math.Dec.{T, eqb, eqb_refl}
use borrow.Author.Tests.{eq-eqb}
use Rattle.rows.specs.RowsLaws.{lines_of}
use Rattle.rows.specs.Rows.{owner_number, RowsOf}
use Rattle.rows.specs.Numbers.{number_at}
use Rattle.rows.specs.NumberLaws.{choice-number}
use Rattle.rows.specs.Notes.{found}
use Rattle.game.specs.Value.{Value, fin, value_eq}
use Rattle.game.proofs.ValueLaws.{value_eq-sound}
use Rattle.game.specs.Arena.{Arena, Owner, controller, environment, nobody, owner_at, move_at, Meant, Disturbance}
use Rattle.game.specs.Play.{Allows, target_of}
use Rattle.game.specs.Table.{meant_from, disturbance_from}
use Rattle.game.proofs.MoveTests.{and-test, of-disturbance, of-meant, some-meant, some-disturbance}
use Rattle.moves.specs.Moves.{is_meant, is_disturbance, kind_as, move_kind, KindSays, leads_to, KindIs}
use Rattle.moves.specs.declared.Kind.{Kind}
use Rattle.moves.specs.declared.Kind.TheVariants.{Meant as Chosen, Disturbance as Disturbed, Neither}

-- In rows

-- the kind by the five tests that the code makes
abbrev pub row_kind : (lane own chosen meant disturbed : Bool) → Kind
row_kind lane own chosen meant disturbed = cond lane (cond meant Chosen Neither) (cond (own && chosen && meant) Chosen (cond disturbed Disturbed Neither))

module _ {n m : ℕ} {owners costs froms tos : List ℕ} where
  module _ (a : Arena) (marks : List ℕ) (d : RowsOf a n m owners marks costs froms tos) (v w : ℕ) where
    meant-found : found (number_at froms) (leads_to true w costs tos) m v ≡ is_meant a v w
    unfolding leads_to is_meant meant_from
    meant-found =
        lines_of a n m owners marks costs froms tos d v (leads_to true w costs tos) (λ x. meant_from v x && eqb x.to w)
        (λ j l z. rw (d.cost j l, d.to j l, of-meant, eq-eqb (move_at a j).from v z, and-true))
        (λ x e. rw (e, and-false))

    disturbance-found : found (number_at froms) (leads_to false w costs tos) m v ≡ is_disturbance a v w
    unfolding leads_to is_disturbance disturbance_from
    disturbance-found =
        lines_of a n m owners marks costs froms tos d v (leads_to false w costs tos) (λ x. disturbance_from v x && eqb x.to w)
        (λ j l z. rw (d.cost j l, d.to j l, of-disturbance, eq-eqb (move_at a j).from v z, and-true))
        (λ x e. rw (e, and-false))

  pub kind-is : (number v w : ℕ) {r : Kind} → v < n → w < 65535
      → r ≡ row_kind (eqb (get_or owners v 0) 1) (eqb (get_or owners v 0) 0) (eqb number w) (found (number_at froms) (leads_to true w costs tos) m v) (found (number_at froms) (leads_to false w costs tos) m v)
      → KindIs n m owners costs froms tos number v w r
  unfolding move_kind kind_as
  kind-is number v w {r} inside small e =
      record {
        answer = λ a marks d choice z.
            e ∙ rw (z, choice-number choice w small, meant-found a marks d v w, disturbance-found a marks d v w, d.owner v inside)
            (go a choice (owner_at a v));
      }
    where
      go : (a : Arena) (choice : Value) (o : Owner) → row_kind (eqb (owner_number o) 1) (eqb (owner_number o) 0) (value_eq choice (fin w)) (is_meant a v w) (is_disturbance a v w) ≡ kind_as o a choice v w
      go a choice controller = refl
      go a choice environment = refl
      go a choice nobody = refl

-- In the arena

pub meant-exactly : (a : Arena) (v w : ℕ) → T (is_meant a v w) ↔ Meant a v w
unfolding is_meant
meant-exactly a v w = (
  λ h. let r = (some-meant a v (λ x. eqb x w)).0 h in subst (Meant a v) (eqb→eq r.0 w r.2) r.1,
  λ m. (some-meant a v (λ x. eqb x w)).1 (w, m, eqb_refl w),
)

pub disturbance-exactly : (a : Arena) (v w : ℕ) → T (is_disturbance a v w) ↔ Disturbance a v w
unfolding is_disturbance
disturbance-exactly a v w = (
  λ h. let r = (some-disturbance a v (λ x. eqb x w)).0 h in subst (Disturbance a v) (eqb→eq r.0 w r.2) r.1,
  λ m. (some-disturbance a v (λ x. eqb x w)).1 (w, m, eqb_refl w),
)

module _ (a : Arena) (choice : Value) (v w : ℕ) where
  chosen-exactly : T (value_eq choice (fin w) && is_meant a v w) ↔ ((choice ≡ fin w) × Meant a v w)
  chosen-exactly = and-test (value_eq choice (fin w)) (is_meant a v w) (value_eq-sound choice (fin w)) (meant-exactly a v w)

  says : (o : Owner) → KindSays o a choice v w (kind_as o a choice v w)
  unfolding kind_as
  says controller = go (value_eq choice (fin w) && is_meant a v w) (is_disturbance a v w) chosen-exactly (disturbance-exactly a v w)
    where
      go : (p q : Bool) → T p ↔ ((choice ≡ fin w) × Meant a v w) → T q ↔ Disturbance a v w
          → KindSays controller a choice v w (cond p Chosen (cond q Disturbed Neither))
      go true q c d = c.0 tt
      go false true c d = (c.1, d.0 tt)
      go false false c d = (c.1, d.1)
  says environment = go (is_meant a v w) (meant-exactly a v w)
    where
      go : (p : Bool) → T p ↔ Meant a v w → KindSays environment a choice v w (cond p Chosen Neither)
      go true c = c.0 tt
      go false c = c.1
  says nobody = go (is_disturbance a v w) (disturbance-exactly a v w)
    where
      go : (q : Bool) → T q ↔ Disturbance a v w → KindSays nobody a choice v w (cond q Disturbed Neither)
      go true d = d.0 tt
      go false d = d.1

  -- no two kinds say what holds at once
  one-kind : (o : Owner) (j k : Kind) → KindSays o a choice v w j → KindSays o a choice v w k → j ≡ k
  one-kind controller Chosen Chosen p q = refl
  one-kind controller Chosen Disturbed p q = absurd (q.0 p)
  one-kind controller Chosen Neither p q = absurd (q.0 p)
  one-kind controller Disturbed Chosen p q = absurd (p.0 q)
  one-kind controller Disturbed Disturbed p q = refl
  one-kind controller Disturbed Neither p q = absurd (q.1 p.1)
  one-kind controller Neither Chosen p q = absurd (p.0 q)
  one-kind controller Neither Disturbed p q = absurd (p.1 q.1)
  one-kind controller Neither Neither p q = refl
  one-kind environment Chosen Chosen p q = refl
  one-kind environment Chosen Disturbed p q = absurd q
  one-kind environment Chosen Neither p q = absurd (q p)
  one-kind environment Disturbed k p q = absurd p
  one-kind environment Neither Chosen p q = absurd (p q)
  one-kind environment Neither Disturbed p q = absurd q
  one-kind environment Neither Neither p q = refl
  one-kind nobody Chosen k p q = absurd p
  one-kind nobody Disturbed Chosen p q = absurd q
  one-kind nobody Disturbed Disturbed p q = refl
  one-kind nobody Disturbed Neither p q = absurd (q p)
  one-kind nobody Neither Chosen p q = absurd q
  one-kind nobody Neither Disturbed p q = absurd (p q)
  one-kind nobody Neither Neither p q = refl

  -- the computed kind is the one of which the sentence holds
  pub kind-exactly : (k : Kind) → (move_kind a choice v w ≡ k) ↔ KindSays (owner_at a v) a choice v w k
  unfolding move_kind
  kind-exactly k = (
    λ e. subst (KindSays (owner_at a v) a choice v w) e (says (owner_at a v)),
    λ h. one-kind (owner_at a v) _ k (says (owner_at a v)) h,
  )

  -- in the words of plays
  pub meant-follows : move_kind a choice v w ≡ Chosen → Meant a v w × Allows (owner_at a v) (target_of choice) w
  unfolding target_of
  meant-follows e = go (owner_at a v) ((kind-exactly Chosen).0 e)
    where
      go : (o : Owner) → KindSays o a choice v w Chosen → Meant a v w × Allows o (target_of choice) w
      go controller (c, m) = (m, sym (ap target_of c))
      go environment m = (m, tt)
      go nobody none = absurd none

  pub disturbance-follows : move_kind a choice v w ≡ Disturbed → Disturbance a v w
  disturbance-follows e = go (owner_at a v) ((kind-exactly Disturbed).0 e)
    where
      go : (o : Owner) → KindSays o a choice v w Disturbed → Disturbance a v w
      go controller (c, d) = d
      go environment h = absurd h
      go nobody d = d

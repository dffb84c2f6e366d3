-- Plays and controllers (document 01, "Plays, worth, value"; source document 001, sections 2.1 and 2.2).
use Rattle.std.specs.Prelude.{ℕ, ◌+◌, ◌<◌, ◌≡◌, ◌⊎◌, T}
use Rattle.std.proofs.Math.Decide.{dec_lt}
use Rattle.std.proofs.Common.{arith, sym, ap, ◌∙◌, subst}
use Rattle.std.proofs.Math.ListN.{get_or-eq_default}
use Rattle.game.specs.Value.{Value, fin, ever}
use Rattle.game.specs.Arena.{Arena, Position, Owner, controller, environment, nobody, size, nowhere, owner_at, unsafe, Meant, Disturbance}

-- "A play is a finite row of positions, one at least": the start is given beside it, and a trail is what follows, the
-- newest move outermost, each with the position that it leads to.
pub data Trail : Type 0 where
  still : Trail
  meant : Trail → ℕ → Trail
  disturbed : Trail → ℕ → Trail

-- the position where the trail from v stands
unfoldable pub last : ℕ → Trail → ℕ
last v still = v
last v (meant t w) = w
last v (disturbed t w) = w

-- "a disturbance, which counts one"
unfoldable pub disturbance_cost : Arena → ℕ → ℕ → ℕ
disturbance_cost a v w = 1

-- the count of disturbances on the trail from v
unfoldable pub cost : Arena → ℕ → Trail → ℕ
cost a v still = 0
cost a v (meant t w) = cost a v t
cost a v (disturbed t w) = cost a v t + disturbance_cost a (last v t) w

-- "A controller chooses from all the positions and disturbances of the play so far": any function of the start and the
-- trail, whose choice at a position of its own is a meant target.
pub record Controller (a : Arena) : Type 0 where
  pub pick : ℕ → Trail → ℕ
  pub legal : (v : ℕ) (t : Trail) → owner_at a (last v t) ≡ controller → Meant a (last v t) (pick v t)

-- "At L any meant move follows. At O the controller's chosen meant move follows": w may follow where p is picked. At R none does: a play
-- stops there or is disturbed.
abbrev pub Allows : Owner → ℕ → ℕ → Type 0
Allows controller p w = w ≡ p
Allows environment p w = Unit {0}
Allows nobody p w = ⊥

-- the trail from v is a play under the controller
unfoldable pub Play : (a : Arena) → Controller a → ℕ → Trail → Type 0
Play a σ v still = v < size a
Play a σ v (meant t w) = Play a σ v t × Meant a (last v t) w × Allows (owner_at a (last v t)) (σ.pick v t) w
Play a σ v (disturbed t w) = Play a σ v t × Disturbance a (last v t) w

-- "A play is unsafe if any of its positions is, the first included."
unfoldable pub Unsafe : Arena → ℕ → Trail → Type 0
Unsafe a v still = T (unsafe a v)
Unsafe a v (meant t w) = Unsafe a v t ⊎ T (unsafe a w)
Unsafe a v (disturbed t w) = Unsafe a v t ⊎ T (unsafe a w)

-- A row of choices is legal where each position of the controller has a meant target of it, and every other a dash.
abbrev pub LegalAs : Owner → Arena → ℕ → Value → Type 0
LegalAs controller a v x = (w : ℕ) × (x ≡ fin w) × Meant a v w
LegalAs environment a v x = x ≡ ever
LegalAs nobody a v x = x ≡ ever

abbrev pub LegalAt : Arena → (ℕ → Value) → ℕ → Type 0
LegalAt a choice v = LegalAs (owner_at a v) a v (choice v)

abbrev pub Legal : Arena → (ℕ → Value) → Type 0
Legal a choice = (v : ℕ) → v < size a → LegalAt a choice v

-- the target that a choice names
unfoldable pub target_of : Value → ℕ
target_of (fin w) = w
target_of ever = 0

-- a number that is no position isn't the controller's
pub controller-inside : (a : Arena) (v : ℕ) → owner_at a v ≡ controller → v < size a
controller-inside a v own = go (dec_lt v (size a))
  where
    go : Dec (v < size a) → v < size a
    go (yes l) = l
    go (no g) =
        let z : ◌≡◌ {A = Owner} environment controller = sym (ap (λ (p : Position). p.owner) (get_or-eq_default a.positions nowhere (omega arith))) ∙ own in
        let y : ◌≡◌ {A = ℕ} 0 1 = cc in
        omega arith

-- the target of a legal choice is a meant one
pub picked : (a : Arena) (choice : ℕ → Value) (v : ℕ) → owner_at a v ≡ controller → LegalAt a choice v → Meant a v (target_of (choice v))
unfolding target_of
picked a choice v own legal =
    let l = subst (λ (o : Owner). LegalAs o a v (choice v)) own legal in
    subst (λ (x : Value). Meant a v (target_of x)) (sym l.1) l.2

-- "a positional one from the present position alone": the controller that makes the choices of a legal row
unfoldable pub positional : (a : Arena) (choice : ℕ → Value) → Legal a choice → Controller a
positional a choice legal =
    record {
      pick = λ v t. target_of (choice (last v t));
      legal = λ v t own. picked a choice (last v t) own (legal (last v t) (controller-inside a (last v t) own));
    }

-- The journal's own terms (source document 001, sections 2.1 and 2.4): unending plays with bits, strategies that see
-- positions only, safety, α-resilience for α up to ω+1, and the resilience of a vertex, which is a supremum.
use Rattle.std.specs.Prelude.{ℕ, zero, suc, ◌<◌, ◌≡◌, Bool, true, false, cond, T}
use Rattle.game.specs.Value.{Value, fin, ever}
use Rattle.game.specs.Arena.{Arena, Owner, controller, environment, nobody, size, owner_at, unsafe, Meant, Disturbance}
use Rattle.game.specs.Play.{Trail, still, meant, disturbed, Controller}

-- E, by who owns the position that an edge leaves. The journal's vertices all have a successor; "R counts as a meant move to itself"
-- (document 02, order 14): an unending play that isn't disturbed there stays.
abbrev pub Onward : Owner → Arena → ℕ → ℕ → Type 0
Onward controller a v w = Meant a v w
Onward environment a v w = Meant a v w
Onward nobody a v w = w ≡ v

-- "b_j = 0 implies (v_{j-1}, v_j) ∈ E, and b_j = 1 implies (v_{j-1}, v_j) ∈ D"
abbrev pub Edge : Bool → Arena → ℕ → ℕ → Type 0
Edge true a v w = Disturbance a v w
Edge false a v w = Onward (owner_at a v) a v w

-- "A play is an infinite sequence (v_0, b_0)(v_1, b_1)…": `bit j` is b_{j+1}, since "b_0 is always zero"
pub record Unending (a : Arena) (v : ℕ) : Type 0 where
  pub position : ℕ → ℕ
  pub bit : ℕ → Bool
  pub starts : position 0 ≡ v
  pub inside : v < size a
  pub edge : (j : ℕ) → Edge (bit j) a (position j) (position (suc j))

-- the play prefix that ends in v_j, as a trail from v
unfoldable pub prefix : {a : Arena} {v : ℕ} → Unending a v → ℕ → Trail
prefix ρ zero = still
prefix ρ (suc j) = cond (ρ.bit j) (disturbed (prefix ρ j) (ρ.position (suc j))) (meant (prefix ρ j) (ρ.position (suc j)))

-- "consistent with σ, if v_{j+1} = σ(v_0 ⋯ v_j) for every j with v_j ∈ V_i and b_{j+1} = 0"
abbrev pub Consistent : {a : Arena} {v : ℕ} → Controller a → Unending a v → Type 0
Consistent {a} {v} σ ρ = (j : ℕ) → owner_at a (ρ.position j) ≡ controller → ρ.bit j ≡ false → ρ.position (suc j) ≡ σ.pick v (prefix ρ j)

-- "Safety(U)": no unsafe position ever
abbrev pub Safe : {a : Arena} {v : ℕ} → Unending a v → Type 0
Safe {a} ρ = (j : ℕ) → T (unsafe a (ρ.position j)) → ⊥

-- α up to ω+1
pub data Ordinal : Type 0 where
  finite : ℕ → Ordinal
  ω : Ordinal
  ω+1 : Ordinal

-- "#_d(ρ) = |{j ∈ ω | b_j = 1}|", among b_1, .., b_j: the bits are counted, whatever a disturbance costs
unfoldable pub disturbances : {a : Arena} {v : ℕ} → Unending a v → ℕ → ℕ
disturbances ρ zero = 0
disturbances ρ (suc j) = cond (ρ.bit j) (suc (disturbances ρ j)) (disturbances ρ j)

-- "#_d(ρ) < α": the number of disturbances is finite and below k; is finite; is anything
abbrev pub FewerThan : {a : Arena} {v : ℕ} → Unending a v → Ordinal → Type 0
FewerThan ρ (finite k) = (j : ℕ) → disturbances ρ j < k
FewerThan ρ ω = (k : ℕ) × ((j : ℕ) → disturbances ρ j < k)
FewerThan ρ ω+1 = Unit {0}

-- "A strategy σ for Player 0 is α-resilient from v if every play ρ that starts in v, that is consistent with σ, and with #_d(ρ) < α, is winning"
abbrev pub Resilient : (a : Arena) → Controller a → ℕ → Ordinal → Type 0
Resilient a σ v α = (ρ : Unending a v) → Consistent σ ρ → FewerThan ρ α → Safe ρ

-- The trail's positions alone, which is all that a strategy of the journal sees.
unfoldable pub forget : Trail → Trail
forget still = still
forget (meant t w) = meant (forget t) w
forget (disturbed t w) = meant (forget t) w

-- "A strategy σ does not have access to the bits indicating whether a disturbance occurred or not." (Remark 1)
pub record Strategy (a : Arena) : Type 0 where
  pub acts : Controller a
  pub blind : (v : ℕ) (t : Trail) → acts.pick v t ≡ acts.pick v (forget t)

-- the order of ω+2
unfoldable pub ◌⊑◌ : Ordinal → Ordinal → Type 0
◌⊑◌ (finite j) (finite k) = j < suc k
◌⊑◌ (finite j) ω = Unit {0}
◌⊑◌ (finite j) ω+1 = Unit {0}
◌⊑◌ ω (finite k) = ⊥
◌⊑◌ ω ω = Unit {0}
◌⊑◌ ω ω+1 = Unit {0}
◌⊑◌ ω+1 (finite k) = ⊥
◌⊑◌ ω+1 ω = ⊥
◌⊑◌ ω+1 ω+1 = Unit {0}

infix 4 ◌⊑◌
-- no member of "{α ∈ ω + 2 | Player 0 has an α-resilient strategy for G from v}" is above α
abbrev pub UpperBound : Arena → ℕ → Ordinal → Type 0
UpperBound a v α = (σ : Strategy a) (β : Ordinal) → Resilient a σ.acts v β → β ⊑ α

-- "We define the resilience of a vertex v of G as r_G(v) = sup{α ∈ ω + 2 | Player 0 has an α-resilient strategy for G from v}."
pub record ResilienceIs (a : Arena) (v : ℕ) (α : Ordinal) : Type 0 where
  pub bound : UpperBound a v α
  pub least : (β : Ordinal) → UpperBound a v β → α ⊑ β

-- a value as an ordinal: ""ever" is its ω+1"
unfoldable pub ordinal_of : Value → Ordinal
ordinal_of (fin k) = finite k
ordinal_of ever = ω+1

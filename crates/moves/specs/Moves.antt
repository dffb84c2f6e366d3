-- What a move from one position to another is (document 01, "The run").
use Rattle.std.specs.Prelude.{ℕ, ◌≤◌, ◌<◌, ◌≡◌, Bool, cond, ◌&&◌, List, get_or, eqb}
use Rattle.rows.specs.Rows.{RowsOf}
use Rattle.rows.specs.Numbers.{number_of}
use Rattle.game.specs.Value.{Value, fin, value_eq}
use Rattle.game.specs.Arena.{Arena, Owner, controller, environment, nobody, owner_at, Meant as MeantTarget, Disturbance as DisturbedTo}
use Rattle.game.specs.Table.{some_move, meant_from, disturbance_from, of_kind}
use Rattle.moves.specs.declared.Kind.{Kind}
use Rattle.moves.specs.declared.Kind.TheVariants.{Meant, Disturbance, Neither}

-- w is a meant target of v; a D line leads from v to w
unfoldable pub is_meant : Arena → ℕ → ℕ → Bool
is_meant a v w = some_move (λ m. meant_from v m && eqb m.to w) a.moves

unfoldable pub is_disturbance : Arena → ℕ → ℕ → Bool
is_disturbance a v w = some_move (λ m. disturbance_from v m && eqb m.to w) a.moves

-- "At O it counts as meant if it is the plate's choice and a meant target, else as a disturbance if a D line has it. At L it
-- must be a meant target." "a run at R accepts only disturbances" (document 02, order 4).
unfoldable pub kind_as : Owner → Arena → Value → ℕ → ℕ → Kind
kind_as controller a choice v w = cond (value_eq choice (fin w) && is_meant a v w) Meant (cond (is_disturbance a v w) Disturbance Neither)
kind_as environment a choice v w = cond (is_meant a v w) Meant Neither
kind_as nobody a choice v w = cond (is_disturbance a v w) Disturbance Neither

-- what a move from v to w is, with this choice at v
unfoldable pub move_kind : Arena → Value → ℕ → ℕ → Kind
move_kind a choice v w = kind_as (owner_at a v) a choice v w

-- the same as a statement: what each kind says at O, at L and at R
abbrev pub KindSays : Owner → Arena → Value → ℕ → ℕ → Kind → Type 0
KindSays controller a choice v w Meant = (choice ≡ fin w) × MeantTarget a v w
KindSays controller a choice v w Disturbance = ((choice ≡ fin w) × MeantTarget a v w → ⊥) × DisturbedTo a v w
KindSays controller a choice v w Neither = ((choice ≡ fin w) × MeantTarget a v w → ⊥) × (DisturbedTo a v w → ⊥)
KindSays environment a choice v w Meant = MeantTarget a v w
KindSays environment a choice v w Disturbance = ⊥
KindSays environment a choice v w Neither = MeantTarget a v w → ⊥
KindSays nobody a choice v w Meant = ⊥
KindSays nobody a choice v w Disturbance = DisturbedTo a v w
KindSays nobody a choice v w Neither = DisturbedTo a v w → ⊥

-- In rows: the i-th move is of the kind sought and leads to w
unfoldable pub leads_to : (meant : Bool) (w : ℕ) (costs tos : List ℕ) → ℕ → Bool
leads_to meant w costs tos i = of_kind meant (get_or costs i 0) && eqb (get_or tos i 0) w

-- the first move that leaves v or a later position
pub record FirstFrom (m : ℕ) (froms : List ℕ) (v first : ℕ) : Type 0 where
  pub within : first ≤ m
  pub before : (i : ℕ) → i < first → get_or froms i 0 < v
  pub after : (i : ℕ) → first ≤ i → i < m → v ≤ get_or froms i 0

-- the answer to a chart's rows and a choice as a number, for every arena that the rows hold
pub record KindIs (n m : ℕ) (owners costs froms tos : List ℕ) (number v w : ℕ) (r : Kind) : Type 0 where
  pub answer : (a : Arena) (marks : List ℕ) → RowsOf a n m owners marks costs froms tos → (choice : Value) → number ≡ number_of choice → r ≡ move_kind a choice v w

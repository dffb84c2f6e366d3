-- Charts written out: that one is well-formed, and what the value at a position is, by computing the rounds.
use Rattle.std.specs.Prelude.{ℕ, ◌<◌, ◌≡◌, Bool, ◌&&◌, T, ltb}
use Rattle.std.proofs.Common.{subst, ◌∙◌}
use Rattle.std.proofs.Math.Dec.{ltb→lt}
use Rattle.search.specs.Below.{some_below}
use Rattle.game.specs.Value.{Value, value_eq}
use Rattle.game.specs.Arena.{Arena, Position, controller, environment, nobody, WellFormed, size}
use Rattle.game.specs.Worth.{IsValue}
use Rattle.game.specs.Table.{some_move, every_move, meant_from, disturbance_from, is_placed, has_value, ready_as, ready, begins, place, table_after, table_before, table, placed_value, round_value}
use Rattle.game.proofs.ValueLaws.{value_eq-sound}
use Rattle.game.proofs.MoveTests.{and_left, and_right}
use Rattle.game.proofs.WellFormedTest.{leaves, fits, is_well_formed, well-formed}
use Rattle.game.proofs.RoundValues.{rounds-give-the-values, the-value-is-the-rounds}

-- positions by owner and mark
abbrev pub O : ℕ → Position
O mark = record { owner = controller; mark = mark }

abbrev pub L : ℕ → Position
L mark = record { owner = environment; mark = mark }

abbrev pub R : ℕ → Position
R mark = record { owner = nobody; mark = mark }

-- a test that computes, with all that it stands on
unfoldable pub chart_is : Arena → ℕ → Value → Bool
unfolding is_well_formed fits leaves every_move some_move some_below meant_from disturbance_from round_value placed_value table table_before table_after place is_placed has_value begins ready ready_as value_eq
chart_is a v x = is_well_formed a && (ltb v (size a) && value_eq (round_value a v) x)

module _ (a : Arena) (v : ℕ) (x : Value) (h : T (chart_is a v x)) where
  abbrev rest : Bool
  rest = ltb v (size a) && value_eq (round_value a v) x

  pub chart-is-well-formed : WellFormed a
  unfolding chart_is
  chart-is-well-formed = well-formed a (and_left (is_well_formed a) rest h)

  pub chart-inside : v < size a
  unfolding chart_is
  chart-inside = ltb→lt v (size a) (and_left (ltb v (size a)) (value_eq (round_value a v) x) (and_right (is_well_formed a) rest h))

  pub chart-rounds : round_value a v ≡ x
  unfolding chart_is
  chart-rounds = (value_eq-sound (round_value a v) x).0 (and_right (ltb v (size a)) (value_eq (round_value a v) x) (and_right (is_well_formed a) rest h))

  pub chart-value : IsValue a v x
  chart-value = subst (IsValue a v) chart-rounds (rounds-give-the-values a chart-is-well-formed v chart-inside)

  pub chart-value-only : (y : Value) → IsValue a v y → y ≡ x
  chart-value-only y i = the-value-is-the-rounds a chart-is-well-formed v y chart-inside i ∙ chart-rounds

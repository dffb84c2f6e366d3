-- The rounds' test finds the good moves. A controller that makes only good moves keeps the values, so it is worth them; and an optimal
-- positional one makes no other, since its worths do not fall along its choices.
use Rattle.std.specs.Prelude.{ℕ, ◌<◌, ◌≡◌, refl, ◌↔◌, ◌&&◌, T, eqb}
use Rattle.std.proofs.Math.Path.{sym}
use Rattle.std.proofs.Common.{subst, subst₂, eqb→eq}
use mathlib.Core.List.Memᴰ
use mathlib.Core.List.{Memᴰ}
use Rattle.game.specs.Value.{Value, ◌≼◌}
use Rattle.game.proofs.ValueLaws.{value_le-sound}
use Rattle.game.specs.Arena.{Arena, Move, Owner, controller, environment, nobody, WellFormed, size, owner_at, Meant}
use Rattle.game.specs.Play.{Trail, Controller, Legal, Play, last, picked, positional, target_of, controller-inside}
use Rattle.game.proofs.PlayLaws.{environment-is-not-controller, nobody-is-not-controller, meant-inside, positional-pick}
use Rattle.game.specs.Worth.{WorthIs}
use Rattle.game.proofs.Certified.{keeping-gives-worth}
use Rattle.game.proofs.Optimal.{WorthsAre, optimal-never-falls}
use Rattle.game.specs.Table.{round_value, round_step}
use Rattle.game.specs.Best.{best_at}
use Rattle.game.specs.Restrict.{is_controller}
use Rattle.game.proofs.MoveTests.{and-test}
use Rattle.game.proofs.RoundCertificate.{rounds-have-a-certificate}
use Rattle.game.proofs.RoundValues.{rounds-give-the-values, the-value-is-the-rounds}
use Rattle.game.specs.Good.{Good, GoodMove}
use Rattle.game.specs.GoodMoves.{holds_value, good_move}

-- the controller makes good moves only, wherever a play of its own from v stands at a position of its own
abbrev pub OnlyGood : (a : Arena) → Controller a → ℕ → Type 0
OnlyGood a σ v = (t : Trail) → Play a σ v t → owner_at a (last v t) ≡ controller → Good a (last v t) (σ.pick v t)

-- all choices of a row at positions of the controller are good
abbrev pub AllGood : Arena → (ℕ → Value) → Type 0
AllGood a choice = (v : ℕ) → owner_at a v ≡ controller → Good a v (target_of (choice v))

controller-test : (o : Owner) → T (is_controller o) ↔ (o ≡ controller)
controller-test controller = (λ h. refl, λ e. tt)
controller-test environment = (λ h. absurd h, λ e. absurd (environment-is-not-controller e))
controller-test nobody = (λ h. absurd h, λ e. absurd (nobody-is-not-controller e))

meant-test : (c : ℕ) → T (eqb c 0) ↔ (c ≡ 0)
meant-test c = (eqb→eq c 0, λ e. subst (λ (x : ℕ). T (eqb x 0)) (sym e) tt)

module _ (a : Arena) (wf : WellFormed a) where
  good-from : (v w : ℕ) → owner_at a v ≡ controller → Meant a v w → round_value a v ≼ round_value a w → Good a v w
  good-from v w own m h = record {
    own = own;
    target = m;
    value = round_value a v;
    is-value = rounds-give-the-values a wf v (controller-inside a v own);
    target-value = round_value a w;
    is-target-value = rounds-give-the-values a wf w (meant-inside a wf v w m);
    at_least = h;
  }

  -- the values of a good move are the rounds'
  pub good-holds : (v w : ℕ) → Good a v w → round_value a v ≼ round_value a w
  good-holds v w g =
      subst₂ ◌≼◌ (the-value-is-the-rounds a wf v g.value (controller-inside a v g.own) g.is-value)
      (the-value-is-the-rounds a wf w g.target-value (meant-inside a wf v w g.target) g.is-target-value) g.at_least

  holds_test : (m : Move) → T (holds_value a m) ↔ (round_value a m.from ≼ round_value a m.to)
  unfolding holds_value
  holds_test m = value_le-sound (round_value a m.from) (round_value a m.to)

  -- the test is the definition, of every move
  pub good-exactly : (m : Move) → Memᴰ m a.moves → T (good_move a m) ↔ GoodMove a m
  unfolding good_move
  good-exactly m i =
      let steered = and-test (is_controller (owner_at a m.from)) (holds_value a m) (controller-test (owner_at a m.from)) (holds_test m) in
      let tests = and-test (eqb m.cost 0) (is_controller (owner_at a m.from) && holds_value a m) (meant-test m.cost) steered in (
        λ h.
            let (free, (own, holds)) = tests.0 h in
            let target : Meant a m.from m.to = Memᴰ.cast (λ j. record { cost = sym free j; from = m.from; to = m.to }) i in
            (free, good-from m.from m.to own target holds),
        λ (free, g). tests.1 (free, (g.own, good-holds m.from m.to g)),
      )

  -- with any memory
  pub only-good-is-worth : (σ : Controller a) (v : ℕ) → v < size a → OnlyGood a σ v → WorthIs a σ v (round_value a v)
  only-good-is-worth σ v inside only =
      keeping-gives-worth a wf (round_value a) (best_at a (round_value a)) (round_step a) (rounds-have-a-certificate a wf) σ v inside
      (λ t p own. good-holds (last v t) (σ.pick v t) (only t p own))

  -- positional
  module _ (choice : ℕ → Value) (legal : Legal a choice) where
    pub optimal-exactly-good : WorthsAre a (positional a choice legal) (round_value a) ↔ AllGood a choice
    optimal-exactly-good = (
      λ worths v own.
          let inside = controller-inside a v own in
          good-from v (target_of (choice v)) own (picked a choice v own (legal v inside)) (optimal-never-falls a choice legal (round_value a) wf worths v inside own),
      λ all v inside. only-good-is-worth (positional a choice legal) v inside (λ t p own. rw (positional-pick a choice legal v t) (all (last v t) own)),
    )

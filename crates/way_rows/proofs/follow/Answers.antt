-- `follow` meets its contract: the invariant says that the first i steps are noted.
use native.Mathlib.Omega.{arith}
use Prim.Native.Nat.{ℕ, ◌<◌}
use mathlib.Core.Path.{◌≡◌, ◌∙◌}
use lib.ListN.{length, get_or, length-set}
use Rattle.way_rows.specs.StepsLaws.{following-none, following-next, next-inside, next-no-higher}
use Rattle.way_rows.proofs.follow.Goals as goal

pub loop-i-init : goal.loop-i-init
loop-i-init c =
    following-none c.args.positions.now c.args.led.now c.requires.leads_on.2 (omega (arith, c.requires)) (omega (arith, c.requires))

pub bounds-worths-there : goal.bounds-worths-there
bounds-worths-there c = let onward : ℕ = get_or c.args.next.now c.loop-i.here 0 in
    let onward-inside : onward < c.args.n = next-inside c.requires.leads_on.0 c.loop-i.invariant c.requires.leads_on.3 c.loop-i-test.true in
    omega (arith, onward-inside, c.requires)

pub overflow_sub-led : goal.overflow_sub-led
overflow_sub-led c = next-no-higher c.requires.leads_on.0 c.loop-i.invariant c.requires.leads_on.3 c.loop-i-test.true

pub loop-i-preserved : goal.loop-i-preserved
loop-i-preserved c =
    let positions-length : length c.loop-i.positions ≡ length c.args.positions.now = c.loop-i.auto.positions ∙ length-set c.args.positions.now 0 c.args.start in
    let led-length : length c.loop-i.led ≡ length c.args.led.now = c.loop-i.auto.led ∙ length-set c.args.led.now 0 0 in following-next c.requires.leads_on.0 c.loop-i.invariant c.requires.leads_on.3 c.loop-i-test.true (omega (arith, positions-length, c.requires)) (omega (arith, led-length, c.requires))

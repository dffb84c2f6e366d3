-- `next_value` meets its contract: the flags are the positions that a disturbance leads from into the last value, and round
-- (k, 0) takes them.
use Prim.Native.Nat.{◌+◌, ◌<◌}
use native.Mathlib.Omega.{arith}
use mathlib.Core.Path.{refl}
use Rattle.solver.specs.SolveLaws.{solving-next, solving-stops}
use Rattle.solver.proofs.next_value.Goals as goal

pub returns-then-count-eq0 : goal.returns-then-count-eq0
returns-then-count-eq0 c =
    let noted = c.flag_disturbed.ensures in
    let round = c.place-count.ensures in
    let small : c.args.last + 1 < 65535 = omega (arith, c.requires) in
    record { goes_on = λ so_far some. absurd (some refl); stops = λ so_far none. solving-stops so_far small noted round c.if-count-eq0.true }

pub returns : goal.returns
returns c =
    let noted = c.flag_disturbed.ensures in
    let round = c.place-count.ensures in
    let settled = c.settle.ensures in
    let small : c.args.last + 1 < 65535 = omega (arith, c.requires) in
    record { goes_on = λ so_far some. solving-next so_far small noted round settled; stops = λ so_far none. absurd (c.if-count-eq0.false none) }

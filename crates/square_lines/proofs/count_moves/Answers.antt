-- `count_moves` meets its contract: the invariant says that the moves of the positions below v are counted. There are at most 18.
use Prim.Native.Nat.{◌+◌, ◌≤◌}
use native.Mathlib.Omega.{arith}
use native.Mathlib.Nat.{mul-le-mul}
use mathlib.Core.Path.{◌≡◌, refl}
use Rattle.search.specs.Below.{count_below}
use Rattle.squares.specs.Held.{cell}
use Rattle.square_lines.specs.Lines.{moves_count}
use Rattle.square_lines.specs.LinesLaws.{moves_next, moves-bound}
use Rattle.square_lines.proofs.count_moves.Goals as goal
use Rattle.square_lines.proofs.count_moves.Goals.{In-loop-v}

-- the moves of one position more, and that they are few
next : (c : In-loop-v) → let a = c.args in let v = c.loop-v.v in
    moves_count a.n a.meant a.disturbances (v + 1) ≡ moves_count a.n a.meant a.disturbances v + count_below (cell a.meant v) a.n + count_below (cell a.disturbances v) a.n
next c = moves_next c.args.n c.args.meant c.args.disturbances c.loop-v.v

few : (c : In-loop-v) → moves_count c.args.n c.args.meant c.args.disturbances (c.loop-v.v + 1) ≤ 18
few c =
    let a = c.args in
    let each : a.n + a.n ≤ 6 = omega arith in
    omega (arith, moves-bound a.n a.meant a.disturbances (c.loop-v.v + 1), mul-le-mul c.loop-v-test.true each)

pub loop-v-init : goal.loop-v-init
unfolding moves_count
loop-v-init c = refl

pub overflow_add-count : goal.overflow_add-count
overflow_add-count c = let at = (goal.at.overflow_add-count c).In-loop-v in omega (arith, next at, few at)

pub overflow_add-count-in-loop-v : goal.overflow_add-count-in-loop-v
overflow_add-count-in-loop-v c = let at = (goal.at.overflow_add-count-in-loop-v c).In-loop-v in omega (arith, next at, few at)

pub loop-v-preserved : goal.loop-v-preserved
loop-v-preserved c = omega (arith, next (goal.at.loop-v-preserved c).In-loop-v)

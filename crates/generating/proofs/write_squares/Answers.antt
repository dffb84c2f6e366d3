-- `write_squares` meets its contract: the header's line stands at the front, and each of the two calls after it writes the part behind.
use native.Mathlib.Omega.{arith}
use Rattle.generating.specs.GeneratingLaws.{few-moves, lines-set-out}
use Rattle.generating.proofs.write_squares.Goals as goal

pub overflow_cast-m : goal.overflow_cast-m
overflow_cast-m c =
    let few = few-moves c.args.n c.args.meant c.args.disturbances c.requires.few in
    let counted = c.requires.counted in
    omega arith

pub returns : goal.returns
returns c =
    lines-set-out c.args.n c.args.m _ _ c.args.meant c.args.disturbances _ _ _ _ c.requires c.write_line.ensures c.write_positions.ensures c.write_moves.ensures

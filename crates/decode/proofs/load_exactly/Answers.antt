-- `decode::load_exactly` meets its contract: a refusal clears the rows, and an accepted text's rows are those of its arena.
use native.Mathlib.Omega.{arith}
use mathlib.Core.Path.{sym, ◌∙◌}
use Rattle.decode.specs.LoadedLaws.{positions-fit, moves-fit, accepted-loads, refused-loads}
use borrow.Author.Rules.{rules}
use Rattle.decode.proofs.load_exactly.Goals as goal

pub decode_positions-requires : goal.decode_positions-requires
decode_positions-requires c =
    let e = sym c.examine.ensures ∙ c.in-Ok.is in
    let few = (positions-fit c.args.text.now _ e).few in
    record { text_value = e; positions_in_bounds = (omega (arith, few, c.requires.in_bounds), omega (arith, few, c.requires.in_bounds)) }

pub decode_moves-requires : goal.decode_moves-requires
decode_moves-requires c =
    let e = sym c.examine.ensures ∙ c.in-Ok.is in
    let few = (moves-fit c.args.text.now _ e).few.1 in
    record { text_value = e; moves_in_bounds = (omega (arith, few, c.requires.in_bounds_2), omega (arith, few, c.requires.in_bounds_2), omega (arith, few, c.requires.in_bounds_2)) }

pub returns-in-Err : goal.returns-in-Err
returns-in-Err c =
    refused-loads _ _ _ _ _ _ _ _ _ _ _ _ (sym c.examine.ensures ∙ c.in-Err.is) c.clear_rows.ensures

pub returns-in-Ok : goal.returns-in-Ok
returns-in-Ok c =
    accepted-loads _ _ _ _ _ _ _ _ _ _ _ _ (sym c.examine.ensures ∙ c.in-Ok.is) (search rules, search rules) (search rules, search rules, search rules)
    c.decode_positions.ensures c.decode_moves.ensures

-- `walk::walk` meets its contract: the header's counts are within the limits, so that the rows and the text have room, and lines that pass
-- after a good header are an accepted text.
use native.Mathlib.Omega.{arith}
use lib.ListN.{replicate}
use Rattle.rows.specs.Filling.{kept_same, row-replicate}
use Rattle.walk.specs.Walked.{Numbers}
use Rattle.walk.specs.WalkLaws.{stopped, went_on, header-fits, moves-pass, lines-pass}
use Rattle.std.proofs.lemmas.Bool.{not_from_true}
use Rattle.walk.proofs.walk.Goals as goal

pub spell_lines-requires : goal.spell_lines-requires
spell_lines-requires c =
    let fits = header-fits c.args.text.now c.args.chart c.requires.text_value in
    (fits.positions, omega arith, omega arith, omega arith)

pub walk_positions-requires : goal.walk_positions-requires
walk_positions-requires c =
    let fits = header-fits c.args.text.now c.args.chart c.requires.text_value in
    let lines = c.spell_lines.ensures in record { n_bound = (fits.positions, omega arith); row_is = (lines.opening.row, omega (arith, lines.opening.same_length)); row_is_2 = (lines.middle.row, omega (arith, lines.middle.same_length)); n_in_bounds = (omega (arith, c.requires.in_bounds.0), omega (arith, c.requires.in_bounds.1)) }

pub returns-then-not-walk_positions : goal.returns-then-not-walk_positions
returns-then-not-walk_positions c =
    let walked = c.walk_positions.ensures in
    record {
      told = stopped;
      owners-kept = walked.owners-kept;
      marks-kept = walked.marks-kept;
      costs-kept = kept_same _ _;
      froms-kept = kept_same _ _;
      tos-kept = kept_same _ _;
    }

pub file_numbers-requires : goal.file_numbers-requires
file_numbers-requires c =
    let fits = header-fits c.args.text.now c.args.chart c.requires.text_value in
    let lines = c.spell_lines.ensures in
    let zeros : Numbers (replicate 1024 0) 1 = record { below = λ k h. omega (arith, row-replicate 1024 0 (omega arith) k h); slots = omega arith } in
    (fits.positions, omega (arith, lines.closing.same_length), zeros, fits.some)

pub walk_moves-requires : goal.walk_moves-requires
walk_moves-requires c =
    let fits = header-fits c.args.text.now c.args.chart c.requires.text_value in
    let lines = c.spell_lines.ensures in
    let rows = c.requires.in_bounds_2 in record {
      tables = record {
        few = fits.positions;
        opening = lines.opening.row;
        middle = lines.middle.row;
        closing = lines.closing.row;
        number = c.file_numbers.ensures;
        openings-row = omega (arith, lines.opening.same_length);
        middles-row = omega (arith, lines.middle.same_length);
        closings-row = omega (arith, lines.closing.same_length);
      };
      row_is = (row-replicate 1024 0 (omega arith), omega arith);
      m_bound = (fits.moves, omega arith);
      m_in_bounds = (omega (arith, rows.0), omega (arith, rows.1), omega (arith, rows.2));
    }

pub returns-then-not-walk_moves : goal.returns-then-not-walk_moves
returns-then-not-walk_moves c =
    let positions = c.walk_positions.ensures in
    let moves = c.walk_moves.ensures in
    record {
      told = stopped;
      owners-kept = positions.owners-kept;
      marks-kept = positions.marks-kept;
      costs-kept = moves.costs-kept;
      froms-kept = moves.froms-kept;
      tos-kept = moves.tos-kept;
    }

pub kinds_allowed-requires : goal.kinds_allowed-requires
kinds_allowed-requires c =
    let fits = header-fits c.args.text.now c.args.chart c.requires.text_value in
    let wide = c.walk_positions.ensures.owners-kept.same_length in
    let kinds = c.walk_moves.ensures.kinds_kept.same_length in
    (fits.positions, omega (arith, c.requires.in_bounds.0), omega arith)

pub returns : goal.returns
returns c =
    let positions = c.walk_positions.ensures in
    let moves = c.walk_moves.ensures in
    record {
      told = λ e.
          let read = positions.told (went_on _ (not_from_true _ c.if-not-walk_positions.false)) in
          let stand = moves.told (went_on _ (not_from_true _ c.if-not-walk_moves.false)) in
          lines-pass _ _ _ _ _ _ _ _ _ _ _ _ c.requires.text_value read (moves-pass _ _ _ _ _ _ _ _ _ _ _ read.rows.owner.row (c.kinds_allowed.ensures e) stand);
      owners-kept = positions.owners-kept;
      marks-kept = positions.marks-kept;
      costs-kept = moves.costs-kept;
      froms-kept = moves.froms-kept;
      tos-kept = moves.tos-kept;
    }

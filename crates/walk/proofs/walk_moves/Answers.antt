-- `walk::walk_moves` meets its contract. The invariant: the first i lines stand, ranks below `lowest` are theirs, their kinds are noted, and the
-- rows are filled up to i.
use Prim.Native.Nat.{ℕ, ◌+◌, ◌≤◌, ◌<◌, ◌-◌}
use native.Mathlib.Omega.{arith}
use mathlib.Core.Path.{◌≡◌, subst}
use Rattle.rows.specs.Filling.{filled_none, filled-kept, kept_same}
use Rattle.walk.specs.Walked.{MovesStand}
use Rattle.walk.specs.WalkLaws.{stopped, went_on, move-reads, rank_of, so-far-none, so-far-next, kinds-none, kinds-next, rows_next, kept_set}
use Rattle.std.proofs.lemmas.Bool.{not_from_true}
use Rattle.walk.proofs.walk_moves.Goals as goal
use Rattle.walk.proofs.walk_moves.Goals.{After-cost_at-cost}

-- what was read of a line stays within the tables
inside : (c : After-cost_at-cost) → (c.number_at-from.result < c.args.n) × (c.number_at-to.result < c.args.n) × (c.cost_at-cost.result ≤ 1) × (c.args.n ≤ 512)
inside c = let tables = c.requires.tables in (c.number_at-from.ensures _ tables.number, c.number_at-to.ensures _ tables.number, c.cost_at-cost.ensures, tables.few)

pub loop-i-init : goal.loop-i-init
loop-i-init c =
    (omega arith, so-far-none _ _, kinds-none _ _ _ c.requires.row_is.0, kept_same _ _, record { cost = filled_none _ _; from = filled_none _ _; to = filled_none _ _ })

pub overflow_mul-kind : goal.overflow_mul-kind
overflow_mul-kind c =
    let l = inside (goal.at.overflow_mul-kind c).After-cost_at-cost in
    omega arith

pub overflow_add-kind : goal.overflow_add-kind
overflow_add-kind c =
    let l = inside (goal.at.overflow_add-kind c).After-cost_at-cost in
    omega arith

pub offset_bounds-openings-kind : goal.offset_bounds-openings-kind
offset_bounds-openings-kind c =
    let l = inside (goal.at.offset_bounds-openings-kind c).After-cost_at-cost in
    omega arith

pub bounds-openings-kind : goal.bounds-openings-kind
bounds-openings-kind c =
    let l = inside (goal.at.bounds-openings-kind c).After-cost_at-cost in
    omega arith

pub offset_bounds-middles-from : goal.offset_bounds-middles-from
offset_bounds-middles-from c =
    let l = inside (goal.at.offset_bounds-middles-from c).After-cost_at-cost in
    omega arith

pub bounds-middles-from : goal.bounds-middles-from
bounds-middles-from c =
    let l = inside (goal.at.bounds-middles-from c).After-cost_at-cost in
    omega arith

pub offset_bounds-closings-to : goal.offset_bounds-closings-to
offset_bounds-closings-to c =
    let l = inside (goal.at.offset_bounds-closings-to c).After-cost_at-cost in
    omega arith

pub bounds-closings-to : goal.bounds-closings-to
bounds-closings-to c =
    let l = inside (goal.at.bounds-closings-to c).After-cost_at-cost in
    omega arith

pub returns-then-not-line_is : goal.returns-then-not-line_is
returns-then-not-line_is c =
    let inv = c.loop-i.invariant in
    record {
      told = stopped;
      kinds_kept = inv.3;
      costs-kept = filled-kept inv.0 inv.4.cost;
      froms-kept = filled-kept inv.0 inv.4.from;
      tos-kept = filled-kept inv.0 inv.4.to;
    }

pub overflow_mul-rank : goal.overflow_mul-rank
overflow_mul-rank c =
    let l = inside (goal.at.overflow_mul-rank c).After-cost_at-cost in
    omega arith

pub overflow_add-rank : goal.overflow_add-rank
overflow_add-rank c =
    let l = inside (goal.at.overflow_add-rank c).After-cost_at-cost in
    omega arith

pub returns-then-rank-lowest : goal.returns-then-rank-lowest
returns-then-rank-lowest c =
    let inv = c.loop-i.invariant in
    record {
      told = stopped;
      kinds_kept = inv.3;
      costs-kept = filled-kept inv.0 inv.4.cost;
      froms-kept = filled-kept inv.0 inv.4.from;
      tos-kept = filled-kept inv.0 inv.4.to;
    }

pub overflow_cast-froms : goal.overflow_cast-froms
overflow_cast-froms c =
    let l = inside (goal.at.overflow_cast-froms c).After-cost_at-cost in
    omega arith

pub overflow_cast-tos : goal.overflow_cast-tos
overflow_cast-tos c =
    let l = inside (goal.at.overflow_cast-tos c).After-cost_at-cost in
    omega arith

pub bounds-kinds-kind : goal.bounds-kinds-kind
bounds-kinds-kind c =
    let l = inside (goal.at.bounds-kinds-kind c).After-cost_at-cost in
    omega arith

pub overflow_add-lowest : goal.overflow_add-lowest
overflow_add-lowest c =
    let l = inside (goal.at.overflow_add-lowest c).After-cost_at-cost in
    omega arith

pub loop-i-preserved : goal.loop-i-preserved
unfolding rank_of
loop-i-preserved c =
    let a = c.args in
    let inv = c.loop-i.invariant in
    let i = c.loop-i.i in
    let l = inside (goal.at.loop-i-preserved c).After-cost_at-cost in
    let text = a.text.now in
    let reads = move-reads text a.n (a.n + 1 + i) _ _ _ _ _ _ _ c.requires.tables l.0 l.1 l.2 (c.line_is.ensures (went_on _ (not_from_true _ c.if-not-line_is.false))) in (
      omega arith,
      so-far-next text a.n i _ _ _ l.3 l.0 l.1 l.2 reads _ inv.1 c.if-rank-lowest.false,
      kinds-next text a.n i _ _ _ l.3 l.0 l.1 l.2 reads _ (omega arith) inv.2,
      kept_set _ _ inv.3 (omega arith),
      rows_next text a.n i _ _ _ l.3 l.0 l.1 l.2 reads (omega arith, omega arith, omega arith) inv.4,
    )

pub returns : goal.returns
returns c =
    let a = c.args in
    let inv = c.loop-i.invariant in
    let all : c.loop-i.i ≡ a.m = omega arith in
    record {
      told = λ _.
          subst (λ (k : ℕ). MovesStand a.text.now a.n k c.loop-i.kinds a.costs.now c.loop-i.costs a.froms.now c.loop-i.froms a.tos.now c.loop-i.tos) all
          (record { stands = inv.1.stands; kind = inv.2; rows = inv.4 });
      kinds_kept = inv.3;
      costs-kept = filled-kept inv.0 inv.4.cost;
      froms-kept = filled-kept inv.0 inv.4.from;
      tos-kept = filled-kept inv.0 inv.4.to;
    }

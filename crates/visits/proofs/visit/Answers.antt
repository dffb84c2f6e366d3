-- `visit` meets its contract: the invariant says that the entries before place j of the file were looked at.
use Prim.Native.Nat.{ℕ, ◌+◌, ◌≤◌, ◌<◌}
use native.Mathlib.Omega.{arith}
use mathlib.Core.Path.{◌≡◌}
use lib.ListN.{get_or}
use Rattle.filing.specs.Filing.{start_of}
use Rattle.filing.specs.FilingLaws.{start-most, start-rises}
use Rattle.visits.specs.Lists.{listed-most}
use Rattle.visits.specs.Standing.{Wide, Progress}
use Rattle.visits.specs.VisitLaws.{as-long-same, as-long-wide, seen_at, entries_from, entries-to, visit-none, visit-turn, visit-done, entry-inside, entry-needs, order-room, later-room}
use Rattle.visits.proofs.visit.Goals as goal

pub offset_bounds-order-head : goal.offset_bounds-order-head
offset_bounds-order-head c = let head-inside : c.args.head < c.requires.0.0 = omega (arith, listed-most c.requires.0.1.1.standing.placed, c.requires.1) in
    omega (arith, head-inside, c.requires.0.1.0.few-positions)

pub bounds-order-head : goal.bounds-order-head
bounds-order-head c = let head-inside : c.args.head < c.requires.0.0 = omega (arith, listed-most c.requires.0.1.1.standing.placed, c.requires.1) in
    omega (arith, head-inside, c.requires.0.1.1.wide.order_row)

pub loop-j-init : goal.loop-j-init
loop-j-init c =
    let position : ℕ = get_or c.args.order.now c.args.head 0 in (
      as-long-same,
      λ n g ready more.
          let at = entries_from g ready more in
          (omega arith, rw at (start-rises g.tos g.m (position) (position + 1) (omega arith)), visit-none g ready more at),
    )

pub bounds-entries-j : goal.bounds-entries-j
bounds-entries-j c = let position : ℕ = get_or c.args.order.now c.args.head 0 in
    let ends_at : get_or c.args.starts.now (position + 1) 0 ≡ start_of c.requires.0.1.0.tos c.requires.0.1.0.m (position + 1) = entries-to c.requires.0.1.0 c.requires.0.1.1 c.requires.1 in
    let ends-most : get_or c.args.starts.now (position + 1) 0 ≤ c.requires.0.1.0.m = rw (ends_at) (start-most c.requires.0.1.0.tos c.requires.0.1.0.m (position + 1)) in
    omega (arith, ends-most, c.loop-j-test.true, c.requires.0.1.0.entries-row)

pub look-grown-requires : goal.look-grown-requires
look-grown-requires c =
    let position : ℕ = get_or c.args.order.now c.args.head 0 in
    let ends_at : get_or c.args.starts.now (position + 1) 0 ≡ start_of c.requires.0.1.0.tos c.requires.0.1.0.m (position + 1) = entries-to c.requires.0.1.0 c.requires.0.1.1 c.requires.1 in
    let so_far : Progress c.requires.0.1.0 c.args.k c.args.s (seen_at c.requires.0.1.0 c.args.order.now c.args.head (position) c.loop-j.j) c.args.lists c.args.needs.now c.args.values.now c.args.steps.now c.args.order.now c.loop-j.grown c.loop-j.needs c.loop-j.values c.loop-j.steps c.loop-j.order c.loop-j.due c.loop-j.later = (c.loop-j.invariant.1 _ c.requires.0.1.0 c.requires.0.1.1 c.requires.1).2 in
    let wide : Wide c.requires.0.0 c.loop-j.needs c.loop-j.values c.loop-j.steps c.loop-j.order c.loop-j.due c.loop-j.later = as-long-wide c.requires.0.1.1.wide c.loop-j.invariant.0 in
    let g = c.requires.0.1.0 in
    let ready = c.requires.0.1.1 in
    let low = (c.loop-j.invariant.1 _ g ready c.requires.1).0 in
    let high : c.loop-j.j < start_of g.tos g.m (position + 1) = omega (arith, ends_at, c.loop-j-test.true) in
    let e = entry-inside g ready c.requires.1 (so_far) low high in
    let w = wide in
    let few = g.few-positions in record { e_bound = (omega arith, omega (arith, w.needs-row), entry-needs g ready c.requires.1 (so_far) low high, ready.small, omega (arith, w.values-row), omega (arith, w.steps-row), omega (arith, w.due-row)); tail_bound = (omega (arith, listed-most (so_far).state.placed), omega (arith, listed-most (so_far).state.waiting), order-room g ready c.requires.1 (so_far) low high w, later-room g ready c.requires.1 (so_far) low high w) }

pub loop-j-preserved : goal.loop-j-preserved
loop-j-preserved c =
    let position : ℕ = get_or c.args.order.now c.args.head 0 in
    let look = c.look-grown in
    let long = c.loop-j.invariant.0 in (
      record { needs-row = omega (arith, look.auto, long); values-row = omega (arith, look.auto, long); steps-row = omega (arith, look.auto, long); order_row = omega (arith, look.auto, long); due-row = omega (arith, look.auto, long); later-row = omega (arith, look.auto, long) },
      λ n g ready more.
          let inv = c.loop-j.invariant.1 _ g ready more in
          let high : c.loop-j.j < start_of g.tos g.m (position + 1) = omega (arith, entries-to g ready more, c.loop-j-test.true) in
          (omega (arith, inv.0), omega arith, visit-turn g ready more inv.2 inv.0 high (as-long-wide ready.wide long) look.ensures),
    )

pub returns : goal.returns
returns c =
    record {
      long = c.loop-j.invariant.0;
      goes_on = λ n g ready more.
          let inv = c.loop-j.invariant.1 _ g ready more in
          visit-done g ready more inv.2 (omega (arith, inv.1, entries-to g ready more, c.loop-j-test.false));
    }

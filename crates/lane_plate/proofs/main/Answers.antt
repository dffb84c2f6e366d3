-- `main` meets its contract: what was read and what was answered are within their buffers.
use Rattle.std.proofs.Common.{sym}
use lib.Seq.{length-take-le}
use Rattle.response.specs.Response.{responded-fits}
use Rattle.lane_plate.proofs.main.Goals as goal

pub slice_bounds-out-end : goal.slice_bounds-out-end
slice_bounds-out-end c = responded-fits c.respond-size.ensures

pub slice_bounds-write_all-end : goal.slice_bounds-write_all-end
slice_bounds-write_all-end c = sym (length-take-le _ _ (responded-fits c.respond-size.ensures))

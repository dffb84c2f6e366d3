-- `is_index` meets its contract: each of the three tests is the definition's, in its order.
use borrow.Author.Tests.{le-leb, lt-leb}
use Rattle.generating.specs.Generating.{is_index}
use Rattle.generating.proofs.is_index.Goals as goal

pub returns-then-positions-lt1 : goal.returns-then-positions-lt1
unfolding is_index
returns-then-positions-lt1 c = rw (lt-leb 1 _ c.if-positions-lt1.true)

pub returns-then-positions-gt3 : goal.returns-then-positions-gt3
unfolding is_index
returns-then-positions-gt3 c = rw (le-leb 1 _ c.if-positions-lt1.false, lt-leb _ 3 c.if-positions-gt3.true)

pub returns : goal.returns
unfolding is_index
returns c = rw (c.chart_count.ensures, le-leb 1 _ c.if-positions-lt1.false, le-leb _ 3 c.if-positions-gt3.false)

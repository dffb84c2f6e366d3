-- `chart::judge_owner` meets its contract: the tests say which case of `judged_owner` holds.
use Rattle.search.proofs.Cases.{cases}
use Rattle.chart.specs.Examined.{judged_owner}
use Rattle.chart.proofs.judge_owner.Goals as goal

pub returns-then-owner-eq76 : goal.returns-then-owner-eq76
unfolding judged_owner
returns-then-owner-eq76 c = search cases

pub returns-then-letter-eq68 : goal.returns-then-letter-eq68
unfolding judged_owner
returns-then-letter-eq68 c = search cases

pub returns-then-owner-eq82 : goal.returns-then-owner-eq82
unfolding judged_owner
returns-then-owner-eq82 c = search cases

pub returns-then-letter-eq77 : goal.returns-then-letter-eq77
unfolding judged_owner
returns-then-letter-eq77 c = search cases

pub returns : goal.returns
unfolding judged_owner
returns c = search cases

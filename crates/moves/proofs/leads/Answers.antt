-- `leads` meets its contract: the answer is the definition's two tests.
use Rattle.search.proofs.Cases.{cases}
use Rattle.moves.specs.Moves.{leads_to}
use Rattle.moves.proofs.leads.Goals as goal

pub returns : goal.returns
unfolding leads_to
returns c = search cases

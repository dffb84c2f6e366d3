-- `index_rows` meets its contract: rows of more than 3 positions or with one of rest are those of no small chart; of the others the squares hold
-- the arena's moves, and their index is the arena's.
use Rattle.std.specs.Prelude.{Ok}
use mathlib.Core.Path.{sym, ap, ◌∙◌}
use Rattle.rows.specs.Holding.{holds}
use Rattle.indexing.specs.IndexingLaws.{within-three, too_many, at_rest, some-meant, is-small}
use Rattle.indexing.proofs.index_rows.Goals as goal

pub returns-then-n-gt3 : goal.returns-then-n-gt3
returns-then-n-gt3 c = record { answer = λ a d. too_many a _ _ _ _ _ _ _ d c.if-n-gt3.true }

pub returns-then-some_rest : goal.returns-then-some_rest
returns-then-some_rest c = record { answer = λ a d. at_rest a _ _ _ _ _ _ _ d (sym c.some_rest.ensures ∙ c.if-some_rest.true) }

pub square_of-meant-requires : goal.square_of-meant-requires
square_of-meant-requires c = within-three c.if-n-gt3.false c.args.rows.now.within

pub square_of-disturbances-requires : goal.square_of-disturbances-requires
square_of-disturbances-requires c = within-three c.if-n-gt3.false c.args.rows.now.within

pub index_of-requires : goal.index_of-requires
index_of-requires c =
    let few = c.if-n-gt3.false in
    let d = holds c.args.rows.now in
    (few, d.owners-row, d.marks-row, some-meant _ _ _ _ _ _ _ _ d few (sym c.some_rest.ensures ∙ c.if-some_rest.false) c.square_of-meant.result c.square_of-meant.ensures)

pub returns : goal.returns
returns c =
    record {
      answer = λ a d.
          ap Ok c.index_of.ensures
          ∙ is-small a _ _ _ _ _ _ _ d c.if-n-gt3.false (sym c.some_rest.ensures ∙ c.if-some_rest.false) _ _ c.square_of-meant.ensures c.square_of-disturbances.ensures;
    }

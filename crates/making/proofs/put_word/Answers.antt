-- `making::put_word` meets its contract: its five stores are those of `sets`. A store keeps the length.
use native.Mathlib.Omega.{arith}
use native.Mathlib.Numerals.{towards_suc}
use lib.ListN.{length-set}
use Rattle.making.specs.Words.{word_text}
use Rattle.making.proofs.put_word.Goals as goal

pub bounds-part-at-2 : goal.bounds-part-at-2
bounds-part-at-2 c = simp length-set (omega arith)

pub bounds-part-at-3 : goal.bounds-part-at-3
bounds-part-at-3 c = simp length-set (omega arith)

pub bounds-part-at-4 : goal.bounds-part-at-4
bounds-part-at-4 c = simp length-set (omega arith)

pub bounds-part-at-5 : goal.bounds-part-at-5
bounds-part-at-5 c = simp length-set (omega arith)

pub returns : goal.returns
unfolding word_text
returns c = simp towards_suc

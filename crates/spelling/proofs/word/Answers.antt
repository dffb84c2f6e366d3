-- `spelling::word` meets its contract: each of the four is a byte, so that their word fits 32 bits.
use Rattle.std.proofs.Common.{rules}
use Rattle.spelling.specs.Words.{word_at}
use Rattle.spelling.proofs.word.Goals as goal

pub returns : goal.returns
unfolding word_at
returns c =
    record {
      is = c.from_le_bytes.ensures;
      first = search rules;
      second = search rules;
      third = search rules;
      fourth = search rules;
    }

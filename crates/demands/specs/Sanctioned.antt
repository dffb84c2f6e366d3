-- The plates that the demands speak of: "every plate that the library writes or accepts" for a chart. The facts are those that the
-- functions' contracts give.
use Rattle.std.specs.Prelude.{ℕ, ◌≡◌, List, take, Ok}
use Rattle.writing.specs.Writing.{WrittenIs}
use Rattle.checking.specs.Checking.{checked}

pub data Sanctioned (text plate : List ℕ) : Type 0 where
  -- the first k bytes of a buffer into which Writing, given the chart, wrote a plate of length k
  by_writing : {out out' : List ℕ} {k : ℕ} → WrittenIs text out out' (Ok k) → plate ≡ take k out' → Sanctioned text plate
  -- a plate that Checking accepts with the chart
  by_checking : checked text plate ≡ Ok tt → Sanctioned text plate

-- What an accepted header says: its form, the limits, and the length of the text.
use Rattle.std.specs.Prelude.{ℕ, ◌+◌, ◌*◌, ◌≤◌, ◌≡◌, refl, Bool, true, false, List, length, ltb, eqb, Ok, Err}
use Rattle.std.proofs.Common.{arith, ltb-false, eqb-true}
use Rattle.chart.specs.Text.{positions_of, moves_of}
use Rattle.chart.specs.Examined.{limits_of, header_formed, header_of}
use Rattle.rows.specs.declared.Chart.{Chart}

pub record WithinLimits (ok : Bool) (size n m : ℕ) : Type 0 where
  pub form : ok ≡ true
  pub some-position : 1 ≤ n
  pub positions : n ≤ 512
  pub some-move : 1 ≤ m
  pub moves : m ≤ 4096
  pub lines : size ≡ (1 + n + m) * 12

refused : (r : Rattle.refusal.specs.declared.Misdrawn.Misdrawn) (chart : Chart) → Err r ≡ Ok chart → ⊥
refused r chart e = let z : ◌≡◌ {A = ℕ} 0 1 = cc in omega arith

limits-accept : (ok : Bool) (size n m : ℕ) (chart : Chart) → limits_of ok size n m ≡ Ok chart → WithinLimits ok size n m × (chart ≡ record { positions = n; moves = m })
unfolding limits_of
limits-accept false size n m chart e = absurd (refused _ chart e)
limits-accept true size n m chart e = go (ltb n 1) (ltb 512 n) (ltb m 1) (ltb 4096 m) (eqb size ((1 + n + m) * 12)) refl refl refl refl refl
  where
    go : (a b c d f : Bool) → ltb n 1 ≡ a → ltb 512 n ≡ b → ltb m 1 ≡ c → ltb 4096 m ≡ d → eqb size ((1 + n + m) * 12) ≡ f →
        WithinLimits true size n m × (chart ≡ record { positions = n; moves = m })
    go true b c d f p q r s t = absurd (refused _ chart (simp p at e))
    go false true c d f p q r s t = absurd (refused _ chart (simp (p, q) at e))
    go false false true d f p q r s t = absurd (refused _ chart (simp (p, q, r) at e))
    go false false false true f p q r s t = absurd (refused _ chart (simp (p, q, r, s) at e))
    go false false false false false p q r s t = absurd (refused _ chart (simp (p, q, r, s, t) at e))
    go false false false false true p q r s t =
        let same : Ok (record { positions = n; moves = m }) ≡ Ok chart = simp (p, q, r, s, t) at e in (
          record {
            form = refl;
            some-position = ltb-false n 1 p;
            positions = ltb-false 512 n q;
            some-move = ltb-false m 1 r;
            moves = ltb-false 4096 m s;
            lines = eqb-true size ((1 + n + m) * 12) t;
          },
          cc,
        )

-- an accepted header's counts are within the limits, and there are as many lines as they say
pub header-accepts : (text : List ℕ) (chart : Chart) → header_of text ≡ Ok chart →
    WithinLimits (header_formed text) (length text) (positions_of text) (moves_of text) × (chart ≡ record { positions = positions_of text; moves = moves_of text })
unfolding header_of
header-accepts text chart e = limits-accept (header_formed text) (length text) (positions_of text) (moves_of text) chart e

-- The twelve charts at the edges (document 01, "Charts at the edges"), as texts, with what is expected of each, gathered into one list; and
-- another list for positions of rest (document 02, order 4).
use Rattle.std.specs.Prelude.{ℕ, ◌<◌, ◌≡◌, List, [], ◌∷◌, ◌++◌, length, get_or, Ok, Err}
use Rattle.game.specs.Value.{Value, fin, ever}
use Rattle.game.specs.Arena.{size}
use Rattle.game.specs.Worth.{IsValue}
use Rattle.game.specs.Choice.{IsChoice}
use Rattle.game.specs.FirstLine.{pair_count, highest, ever_count}
use Rattle.chart.specs.Meaning.{arena_of, chart_line}
use Rattle.chart.specs.Examined.{examined}
use Rattle.chart.specs.Refusals.{Applies, First}
use Rattle.refusal.specs.Numbers.{misdrawn_number, misdrawn_line}
use Rattle.rows.specs.declared.Chart.{Chart}
use Rattle.refusal.specs.declared.Misdrawn.{Misdrawn}
use Rattle.valuing.specs.ValuedMeans.{PairIs}

-- what is expected: a refusal, or the plate's columns and the numbers of its first line
pub data Expected : Type 0 where
  refusal : (number line : ℕ) → Expected
  plate : (values choices steps : List Value) (rounds : ℕ) (highest : Value) (evers : ℕ) → Expected

pub record Edge : Type 0 where
  pub text : List ℕ
  pub expected : Expected

-- an entry of an expected column
abbrev pub entry : List Value → ℕ → Value
entry column v = get_or column v ever

-- no refusal applies to the chart and it is taken, and its plate is right: at every position the value by plays and controllers, the
-- choice and the pair; and the first line's numbers
pub record PlateHolds (text : List ℕ) (values choices steps : List Value) (rounds : ℕ) (top : Value) (evers : ℕ) : Type 0 where
  pub chart : Chart
  pub drawn : (r : Misdrawn) → Applies text r → ⊥
  pub taken : examined text ≡ Ok chart
  pub sized : length values ≡ size (arena_of text)
  pub value : (v : ℕ) → v < size (arena_of text) → IsValue (arena_of text) v (entry values v)
  pub choice : (v : ℕ) → v < size (arena_of text) → IsChoice (arena_of text) (entry values) v (entry choices v)
  pub pair : (v : ℕ) → v < size (arena_of text) → PairIs (arena_of text) v (entry values v) (entry steps v)
  pub rounds-counted : rounds ≡ pair_count (entry values) (entry steps) (size (arena_of text))
  pub highest-value : top ≡ highest (entry values) (size (arena_of text))
  pub evers-counted : evers ≡ ever_count (entry values) (size (arena_of text))

-- a refusal with this number and line applies to the chart and nothing before it in the table's order does, and it is answered
pub record RefusalHolds (text : List ℕ) (number line : ℕ) : Type 0 where
  pub refusal : Misdrawn
  pub first : First text refusal
  pub turned : examined text ≡ Err refusal
  pub number_is : misdrawn_number refusal ≡ number
  pub line-is : misdrawn_line refusal ≡ line

abbrev pub Holds : List ℕ → Expected → Type 0
Holds text (refusal number line) = RefusalHolds text number line
Holds text (plate values choices steps rounds top evers) = PlateHolds text values choices steps rounds top evers

-- lines of charts
abbrev H : ℕ → ℕ → List ℕ
H n m = chart_line 72 n m

abbrev O : ℕ → ℕ → List ℕ
O v mark = chart_line 79 v mark

abbrev L : ℕ → ℕ → List ℕ
L v mark = chart_line 76 v mark

abbrev R : ℕ → ℕ → List ℕ
R v mark = chart_line 82 v mark

abbrev M : ℕ → ℕ → List ℕ
M v w = chart_line 77 v w

abbrev D : ℕ → ℕ → List ℕ
D v w = chart_line 68 v w

-- chart a, byte for byte as document 01 prints it
unfoldable pub document_chart : List ℕ
document_chart =
    -- H    5    8
    (72 ∷ 32 ∷ 32 ∷ 32 ∷ 32 ∷ 53 ∷ 32 ∷ 32 ∷ 32 ∷ 32 ∷ 56 ∷ 10 ∷ [])
    ++
    -- O    0    0
    (79 ∷ 32 ∷ 32 ∷ 32 ∷ 32 ∷ 48 ∷ 32 ∷ 32 ∷ 32 ∷ 32 ∷ 48 ∷ 10 ∷ [])
    ++
    -- L    1    0
    (76 ∷ 32 ∷ 32 ∷ 32 ∷ 32 ∷ 49 ∷ 32 ∷ 32 ∷ 32 ∷ 32 ∷ 48 ∷ 10 ∷ [])
    ++
    -- O    2    0
    (79 ∷ 32 ∷ 32 ∷ 32 ∷ 32 ∷ 50 ∷ 32 ∷ 32 ∷ 32 ∷ 32 ∷ 48 ∷ 10 ∷ [])
    ++
    -- L    3    1
    (76 ∷ 32 ∷ 32 ∷ 32 ∷ 32 ∷ 51 ∷ 32 ∷ 32 ∷ 32 ∷ 32 ∷ 49 ∷ 10 ∷ [])
    ++
    -- O    4    0
    (79 ∷ 32 ∷ 32 ∷ 32 ∷ 32 ∷ 52 ∷ 32 ∷ 32 ∷ 32 ∷ 32 ∷ 48 ∷ 10 ∷ [])
    ++
    -- M    0    1
    (77 ∷ 32 ∷ 32 ∷ 32 ∷ 32 ∷ 48 ∷ 32 ∷ 32 ∷ 32 ∷ 32 ∷ 49 ∷ 10 ∷ [])
    ++
    -- D    0    2
    (68 ∷ 32 ∷ 32 ∷ 32 ∷ 32 ∷ 48 ∷ 32 ∷ 32 ∷ 32 ∷ 32 ∷ 50 ∷ 10 ∷ [])
    ++
    -- M    1    0
    (77 ∷ 32 ∷ 32 ∷ 32 ∷ 32 ∷ 49 ∷ 32 ∷ 32 ∷ 32 ∷ 32 ∷ 48 ∷ 10 ∷ [])
    ++
    -- M    2    0
    (77 ∷ 32 ∷ 32 ∷ 32 ∷ 32 ∷ 50 ∷ 32 ∷ 32 ∷ 32 ∷ 32 ∷ 48 ∷ 10 ∷ [])
    ++
    -- M    2    2
    (77 ∷ 32 ∷ 32 ∷ 32 ∷ 32 ∷ 50 ∷ 32 ∷ 32 ∷ 32 ∷ 32 ∷ 50 ∷ 10 ∷ [])
    ++
    -- D    2    3
    (68 ∷ 32 ∷ 32 ∷ 32 ∷ 32 ∷ 50 ∷ 32 ∷ 32 ∷ 32 ∷ 32 ∷ 51 ∷ 10 ∷ [])
    ++
    -- M    3    3
    (77 ∷ 32 ∷ 32 ∷ 32 ∷ 32 ∷ 51 ∷ 32 ∷ 32 ∷ 32 ∷ 32 ∷ 51 ∷ 10 ∷ [])
    ++
    -- M    4    4
    (77 ∷ 32 ∷ 32 ∷ 32 ∷ 32 ∷ 52 ∷ 32 ∷ 32 ∷ 32 ∷ 32 ∷ 52 ∷ 10 ∷ [])

-- a to l, in document 01's order and words
unfoldable pub edge_charts : List Edge
unfolding document_chart
edge_charts =
    -- a: "the chart above"
    record {
      text = document_chart;
      expected = plate (fin 2 ∷ fin 2 ∷ fin 1 ∷ fin 0 ∷ ever ∷ []) (fin 1 ∷ ever ∷ fin 0 ∷ ever ∷ fin 4 ∷ []) (fin 0 ∷ fin 1 ∷ fin 0 ∷ fin 0 ∷ ever ∷ []) 4 (fin 2) 1;
    }
    -- b: "L unsafe, M to itself: 0, step 0"
    ∷ record { text = H 1 1 ++ L 0 1 ++ M 0 0; expected = plate (fin 0 ∷ []) (ever ∷ []) (fin 0 ∷ []) 1 (fin 0) 0 }
    -- c: "O safe, M to itself: ever"
    ∷ record { text = H 1 1 ++ O 0 0 ++ M 0 0; expected = plate (ever ∷ []) (fin 0 ∷ []) (ever ∷ []) 0 ever 1 }
    -- d: "c with D to itself: ever"
    ∷ record { text = H 1 2 ++ O 0 0 ++ M 0 0 ++ D 0 0; expected = plate (ever ∷ []) (fin 0 ∷ []) (ever ∷ []) 0 ever 1 }
    -- e: "O, M to itself, D to unsafe 1: value 1"
    ∷ record { text = H 2 3 ++ O 0 0 ++ L 1 1 ++ M 0 0 ++ D 0 1 ++ M 1 1; expected = plate (fin 1 ∷ fin 0 ∷ []) (fin 0 ∷ ever ∷ []) (fin 0 ∷ fin 0 ∷ []) 2 (fin 1) 0 }
    -- f: "O with M and D to a safe L that stays: ever"
    ∷ record { text = H 2 3 ++ O 0 0 ++ L 1 0 ++ M 0 1 ++ D 0 1 ++ M 1 1; expected = plate (ever ∷ ever ∷ []) (fin 1 ∷ ever ∷ []) (ever ∷ ever ∷ []) 0 ever 2 }
    -- g: "L with M to itself and to unsafe 1: value 0, step 1"
    ∷ record { text = H 2 3 ++ L 0 0 ++ L 1 1 ++ M 0 0 ++ M 0 1 ++ M 1 1; expected = plate (fin 0 ∷ fin 0 ∷ []) (ever ∷ ever ∷ []) (fin 1 ∷ fin 0 ∷ []) 2 (fin 0) 0 }
    -- h: "O, its one M to unsafe 1: 0, step 1, choice 1"
    ∷ record { text = H 2 2 ++ O 0 0 ++ L 1 1 ++ M 0 1 ++ M 1 1; expected = plate (fin 0 ∷ fin 0 ∷ []) (fin 1 ∷ ever ∷ []) (fin 1 ∷ fin 0 ∷ []) 2 (fin 0) 0 }
    -- i: "O unsafe, its one M to a safe L that stays: 0, step 0, choice 1"
    ∷ record { text = H 2 2 ++ O 0 1 ++ L 1 0 ++ M 0 1 ++ M 1 1; expected = plate (fin 0 ∷ ever ∷ []) (fin 1 ∷ ever ∷ []) (fin 0 ∷ ever ∷ []) 1 (fin 0) 1 }
    -- j: "two safe L, each moving to the other: ever"
    ∷ record { text = H 2 2 ++ L 0 0 ++ L 1 0 ++ M 0 1 ++ M 1 0; expected = plate (ever ∷ ever ∷ []) (ever ∷ ever ∷ []) (ever ∷ ever ∷ []) 0 ever 2 }
    -- k: "refusal 9 above", n = 1, O, only D 0 0
    ∷ record { text = H 1 1 ++ O 0 0 ++ D 0 0; expected = refusal 9 1 }
    -- l: "refusal 8 above", M 0 0 twice
    ∷ record { text = H 1 2 ++ O 0 0 ++ M 0 0 ++ M 0 0; expected = refusal 8 3 }
    ∷ []

-- positions of rest
unfoldable pub rest_charts : List Edge
rest_charts =
    -- "A safe R is placed only by a disturbance, so without one it is "ever"": here L's only target
    record { text = H 2 1 ++ L 0 0 ++ R 1 0 ++ M 0 1; expected = plate (ever ∷ ever ∷ []) (ever ∷ ever ∷ []) (ever ∷ ever ∷ []) 0 ever 2 }
    -- disturbed into an unsafe R: value 1, step 0; nothing but R, and no meant move
    ∷ record { text = H 2 1 ++ R 0 0 ++ R 1 1 ++ D 0 1; expected = plate (fin 1 ∷ fin 0 ∷ []) (ever ∷ ever ∷ []) (fin 0 ∷ fin 0 ∷ []) 2 (fin 1) 0 }
    -- disturbed into "ever"
    ∷ record { text = H 2 1 ++ R 0 0 ++ R 1 0 ++ D 0 1; expected = plate (ever ∷ ever ∷ []) (ever ∷ ever ∷ []) (ever ∷ ever ∷ []) 0 ever 2 }
    -- disturbed into itself
    ∷ record { text = H 1 1 ++ R 0 0 ++ D 0 0; expected = plate (ever ∷ []) (ever ∷ []) (ever ∷ []) 0 ever 1 }
    -- O whose only target is an R that a disturbance leads from into an unsafe L: both have value 1, R at step 0
    ∷ record {
      text = H 3 3 ++ O 0 0 ++ R 1 0 ++ L 2 1 ++ M 0 1 ++ D 1 2 ++ M 2 2;
      expected = plate (fin 1 ∷ fin 1 ∷ fin 0 ∷ []) (fin 1 ∷ ever ∷ ever ∷ []) (fin 1 ∷ fin 0 ∷ fin 0 ∷ []) 3 (fin 1) 0;
    }
    -- 17, "a meant move from R", on the line of the move
    ∷ record { text = H 1 1 ++ R 0 0 ++ M 0 0; expected = refusal 17 2 }
    -- before 8 on the same line, after 6
    ∷ record { text = H 2 2 ++ R 0 0 ++ O 1 0 ++ M 1 0 ++ M 0 0; expected = refusal 17 4 }
    ∷ record { text = H 1 1 ++ R 0 0 ++ M 0 1; expected = refusal 6 2 }
    -- "Refusal 9 is for O and L only"
    ∷ record { text = H 2 1 ++ R 0 0 ++ O 1 0 ++ D 1 0; expected = refusal 9 2 }
    ∷ []

-- chart a's plate, byte for byte as document 01 prints it
unfoldable pub document_plate : List ℕ
document_plate =
    -- P    5    4    2    1
    (80 ∷ 32 ∷ 32 ∷ 32 ∷ 32 ∷ 53 ∷ 32 ∷ 32 ∷ 32 ∷ 32 ∷ 52 ∷ 32 ∷ 32 ∷ 32 ∷ 32 ∷ 50 ∷ 32 ∷ 32 ∷ 32 ∷ 32 ∷ 49 ∷ 10 ∷ [])
    ++
    -- V    0    2    1    0
    (86 ∷ 32 ∷ 32 ∷ 32 ∷ 32 ∷ 48 ∷ 32 ∷ 32 ∷ 32 ∷ 32 ∷ 50 ∷ 32 ∷ 32 ∷ 32 ∷ 32 ∷ 49 ∷ 32 ∷ 32 ∷ 32 ∷ 32 ∷ 48 ∷ 10 ∷ [])
    ++
    -- V    1    2    -    1
    (86 ∷ 32 ∷ 32 ∷ 32 ∷ 32 ∷ 49 ∷ 32 ∷ 32 ∷ 32 ∷ 32 ∷ 50 ∷ 32 ∷ 32 ∷ 32 ∷ 32 ∷ 45 ∷ 32 ∷ 32 ∷ 32 ∷ 32 ∷ 49 ∷ 10 ∷ [])
    ++
    -- V    2    1    0    0
    (86 ∷ 32 ∷ 32 ∷ 32 ∷ 32 ∷ 50 ∷ 32 ∷ 32 ∷ 32 ∷ 32 ∷ 49 ∷ 32 ∷ 32 ∷ 32 ∷ 32 ∷ 48 ∷ 32 ∷ 32 ∷ 32 ∷ 32 ∷ 48 ∷ 10 ∷ [])
    ++
    -- V    3    0    -    0
    (86 ∷ 32 ∷ 32 ∷ 32 ∷ 32 ∷ 51 ∷ 32 ∷ 32 ∷ 32 ∷ 32 ∷ 48 ∷ 32 ∷ 32 ∷ 32 ∷ 32 ∷ 45 ∷ 32 ∷ 32 ∷ 32 ∷ 32 ∷ 48 ∷ 10 ∷ [])
    ++
    -- V    4 ever    4    -
    (86 ∷ 32 ∷ 32 ∷ 32 ∷ 32 ∷ 52 ∷ 32 ∷ 101 ∷ 118 ∷ 101 ∷ 114 ∷ 32 ∷ 32 ∷ 32 ∷ 32 ∷ 52 ∷ 32 ∷ 32 ∷ 32 ∷ 32 ∷ 45 ∷ 10 ∷ [])

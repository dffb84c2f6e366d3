-- The mission's first demand, of the answers: "no misdrawn sheet is taken, and no refusal changes a lent buffer". With it stands document
-- 01's sentence "the table is exact: a number is returned if its condition holds, and only then", in its order: "then 9; then 10 to 16
-- by number as far as the job has them", with 18 between 14 and 15 (document 02, order 5), 19 after 13 (order 6), 20 before the chart's own
-- (order 7) and 21 before 10 (order 9). Each job has its rows of the table in one list, a house one for the house and one for each lane. That nothing makes a job stop,
-- run on or read beyond its input is what every function of the library is proved for.
use Rattle.std.specs.Prelude.{ℕ, ◌+◌, ◌*◌, ◌≤◌, ◌<◌, ◌≡◌, ◌⊎◌, ◌↔◌, List, [], ◌∷◌, length, get_or, ⊤, Option, Result, Ok, Err}
use Rattle.comparing.specs.declared.Difference.{Difference}
use Rattle.search.specs.Below.{count_below}
use Rattle.rows.specs.Numbers.{row_value, number_of}
use Rattle.game.specs.Arena.{Arena, nobody, size, owner_at}
use Rattle.game.specs.Value.{ever}
use Rattle.game.specs.Play.{Trail, LegalAt, Legal, positional}
use Rattle.game.specs.Worth.{WorthIs}
use Rattle.way.specs.Way.{WayToRuin}
use Rattle.refusal.specs.declared.Misdrawn.{Misdrawn}
use Rattle.refusal.specs.declared.Refusal.{Refusal}
use Rattle.refusal.specs.declared.Refusal.TheVariants.{Lanes, Chart as OfChart, NotSmall, Short, Plate, Choice, Position, Ever, Fault, Held, Move, Seen}
use Rattle.chart.specs.Meaning.{arena_of, chart_text}
use Rattle.chart.specs.Refusals.{Applies, First}
use Rattle.numbering.specs.Numbering.{index_of, chart_count, Small}
use Rattle.plate.specs.Form.{BadAt}
use Rattle.plate.specs.Read.{header_in, value_in_plate, choice_in_plate, step_in_plate}
use Rattle.verdict.specs.Verdict.{FirstFaultIs}
use Rattle.moves.specs.Moves.{KindSays}
use Rattle.moves.specs.declared.Kind.{Kind}
use Rattle.moves.specs.declared.Kind.TheVariants.{Disturbance, Neither}
use Rattle.valuing.specs.Valuing.{ValuedIs}
use Rattle.writing.specs.Writing.{WrittenIs}
use Rattle.reading.specs.Reading.{ReadingIs}
use Rattle.checking.specs.Checking.{checked}
use Rattle.weighing.specs.Weighing.{WeighedIs}
use Rattle.listing.specs.Sheet.{SheetOf}
use Rattle.listing.specs.Listing.{ListedIs}
use Rattle.ruin.specs.Sheet.{way_sheet}
use Rattle.ruin.specs.Ruin.{RuinedIs}
use Rattle.generating.specs.Generating.{GeneratedIs}
use Rattle.indexing.specs.Indexing.{indexed}
use Rattle.comparing.specs.Compared.{ComparedIs}
use Rattle.run.specs.Running.{no_run, started, reported}
use Rattle.run.specs.declared.Run.{Run}
use Rattle.run.specs.declared.Reported.{Reported}
use Rattle.house.specs.Housing.{HouseIs, reporting}
use Rattle.run.specs.declared.Advice.{Advice}
use Rattle.rows.specs.declared.FirstLine.{FirstLine}
use Rattle.house.specs.Answers.{NotDrivable, Reports}

-- The table

-- a row: the refusals that it gives, each with its condition
abbrev pub Row : Type 1
Row = Refusal → Type 0

-- by rows in their order the refusal is x: its own condition holds, and none of a row before
unfoldable pub RefusedBy : List Row → Refusal → Type 0
RefusedBy [] x = ⊥
RefusedBy (row ∷ rest) x = row x ⊎ (((y : Refusal) → row y → ⊥) × RefusedBy rest x)

-- no row's condition holds
unfoldable pub Clear : List Row → Type 0
Clear [] = Unit {0}
Clear (row ∷ rest) = ((y : Refusal) → row y → ⊥) × Clear rest

-- a row that gives one refusal only
abbrev pub only : Refusal → Type 0 → Row
only y condition x = (x ≡ y) × condition

-- 1 to 9 and 17, which have an order of their own: r applies to the chart and nothing before it does (chart/specs/Refusals.antt)
abbrev pub misdrawn : (text : List ℕ) → Row
misdrawn text x = (r : Misdrawn) × (x ≡ OfChart r) × First text r

-- the count n of the chart's positions
abbrev pub count : (text : List ℕ) → ℕ
count text = size (arena_of text)

-- 10: "a lent buffer or row too short"
abbrev pub TooShort : ℕ → List ℕ → Type 0
TooShort needed lent = length lent < needed

-- 10 for the sheet of good moves, which "looks only at" its lines (document 02, order 2)
abbrev pub ShorterThanSheet : (text lent : List ℕ) → Type 0
ShorterThanSheet text lent = (sheet : List ℕ) × SheetOf (arena_of text) sheet × TooShort (length sheet) lent

-- 11: "plate's length not 22 times (n+1), or a line not of the plate's form", with the lowest bad line
abbrev pub malformed : (text plate : List ℕ) → Row
malformed text plate x = (line : ℕ) × (x ≡ Plate line) × BadAt (count text) plate line

-- 12: "a given choice not a meant target at O, or not 65,535 at L"
abbrev pub IllegalChoice : (text choices : List ℕ) → Type 0
IllegalChoice text choices = (v : ℕ) × (v < count text) × (LegalAt (arena_of text) (row_value choices) v → ⊥)

-- 19: "exactly when the worth there is "ever"" (document 02, order 6), that of the controller which makes the choices
abbrev pub WorthIsEver : (text choices : List ℕ) → ℕ → Type 0
WorthIsEver text choices v = (legal : Legal (arena_of text) (row_value choices)) × WorthIs (arena_of text) (positional (arena_of text) (row_value choices) legal) v ever

-- 10 for the way to ruin, which looks only at its lines
abbrev pub ShorterThanWay : (text choices : List ℕ) → ℕ → (lent : List ℕ) → Type 0
ShorterThanWay text choices v lent =
    (legal : Legal (arena_of text) (row_value choices))
    × ((t : Trail) × WayToRuin (arena_of text) (positional (arena_of text) (row_value choices) legal) v t × TooShort (length (way_sheet v t)) lent)

-- 21: "n outside 1 to 3, an index past the last" (document 02, order 9)
abbrev pub NoSuchIndex : (n i : ℕ) → Type 0
NoSuchIndex n i = (n < 1) ⊎ ((3 < n) ⊎ (chart_count n ≤ i))

-- 21: "or a chart of another sort", that is not "of 1 to 3 positions, letters O, L, M and D only"
abbrev pub OfAnotherSort : (text : List ℕ) → Type 0
OfAnotherSort text = (3 < count text) ⊎ ((v : ℕ) × (v < count text) × (owner_at (arena_of text) v ≡ nobody))

-- 10 for a small chart, the one of n positions that has the index
abbrev pub ShorterThanChart : (n i : ℕ) → (lent : List ℕ) → Type 0
ShorterThanChart n i lent = (a : Arena) × Small a × (size a ≡ n) × (index_of a ≡ i) × TooShort (length (chart_text a)) lent

-- 14: "checking finds a fault", with the first fault's position and condition
abbrev pub faulty : (text plate : List ℕ) → Row
faulty text plate x = (v : ℕ) × (c : ℕ) × (x ≡ Fault v c) × FirstFaultIs (arena_of text) (value_in_plate plate) (choice_in_plate plate) (step_in_plate plate) (header_in plate) v c

-- 13 of a report: "Its 13 covers the run's own position as well"
abbrev pub OffChart : Run → (text : List ℕ) → ℕ → Type 0
OffChart run text to = (count text ≤ run.position) ⊎ (count text ≤ to)

-- 18: "the plate's value at the run's position isn't the held one", as numbers, 65,535 for "ever"
abbrev pub NotHeld : Run → (plate : List ℕ) → Type 0
NotHeld run plate = number_of (value_in_plate plate run.position) ≡ run.value → ⊥

-- what the move from the run's position is: 15 is for one that "can't follow", 16 for a disturbance
abbrev pub MoveIs : Run → (text plate : List ℕ) → ℕ → Kind → Type 0
MoveIs run text plate to = KindSays (owner_at (arena_of text) run.position) (arena_of text) (choice_in_plate plate run.position) run.position to

-- The jobs' rows of the table, in its order

abbrev pub valuing_rows : (text values choices steps : List ℕ) → List Row
valuing_rows text values choices steps =
    misdrawn text ∷ only Short (TooShort (count text) values ⊎ (TooShort (count text) choices ⊎ TooShort (count text) steps)) ∷ []

abbrev pub writing_rows : (text out : List ℕ) → List Row
writing_rows text out = misdrawn text ∷ only Short (TooShort (22 * (count text + 1)) out) ∷ []

abbrev pub reading_rows : (text plate values choices steps : List ℕ) → List Row
reading_rows text plate values choices steps =
    misdrawn text
    ∷ only Short (TooShort (count text) values ⊎ (TooShort (count text) choices ⊎ TooShort (count text) steps))
    ∷ malformed text plate
    ∷ []

abbrev pub checking_rows : (text plate : List ℕ) → List Row
checking_rows text plate = misdrawn text ∷ malformed text plate ∷ faulty text plate ∷ []

abbrev pub weighing_rows : (text choices worths : List ℕ) → List Row
weighing_rows text choices worths =
    misdrawn text ∷ only Short (TooShort (count text) choices ⊎ TooShort (count text) worths) ∷ only Choice (IllegalChoice text choices) ∷ []

abbrev pub comparing_rows : (text plate choices : List ℕ) → List Row
comparing_rows text plate choices =
    misdrawn text
    ∷ only Short (TooShort (count text) choices)
    ∷ malformed text plate
    ∷ only Choice (IllegalChoice text choices)
    ∷ faulty text plate
    ∷ []

abbrev pub listing_rows : (text out : List ℕ) → List Row
listing_rows text out = misdrawn text ∷ only Short (ShorterThanSheet text out) ∷ []

-- "Refusals 10 for the row, 12 and 13 come first; 10 for the output is last. .. 19 .., tested after 13"
abbrev pub ruin_rows : (text choices : List ℕ) → ℕ → (out : List ℕ) → List Row
ruin_rows text choices position out =
    misdrawn text
    ∷ only Short (TooShort (count text) choices)
    ∷ only Choice (IllegalChoice text choices)
    ∷ only Position (count text ≤ position)
    ∷ only Ever (WorthIsEver text choices position)
    ∷ only Short (ShorterThanWay text choices position out)
    ∷ []

-- "tested after 9 and before 10"
abbrev pub generating_rows : (n i : ℕ) → (out : List ℕ) → List Row
generating_rows n i out = only NotSmall (NoSuchIndex n i) ∷ only Short (ShorterThanChart n i out) ∷ []

abbrev pub indexing_rows : (text : List ℕ) → List Row
indexing_rows text = misdrawn text ∷ only NotSmall (OfAnotherSort text) ∷ []

-- 13: "a position from n up"
abbrev pub start_rows : (text plate : List ℕ) → ℕ → List Row
start_rows text plate position = misdrawn text ∷ malformed text plate ∷ only Position (count text ≤ position) ∷ faulty text plate ∷ []

-- what a report tests last; 16: "a disturbance with 99,999 or more seen"
abbrev pub move_rows : Run → (text plate : List ℕ) → ℕ → List Row
move_rows run text plate to =
    only Held (NotHeld run plate)
    ∷ only Move (MoveIs run text plate to Neither)
    ∷ only Seen (MoveIs run text plate to Disturbance × (99999 ≤ run.seen))
    ∷ []

-- "A report shall check the plate (14), then compare" (document 02, order 5)
abbrev pub report_rows : Run → (text plate : List ℕ) → ℕ → List Row
report_rows run text plate to =
    misdrawn text ∷ malformed text plate ∷ only Position (OffChart run text to) ∷ faulty text plate ∷ move_rows run text plate to

-- of a house: "20 .., tested before the chart", then "The plate is tested once (11, 14), even when no lane reports" (document 02, order 7)
abbrev pub house_rows : List Run → (reports text plate : List ℕ) → List Row
house_rows runs reports text plate =
    only Lanes (NotDrivable (length runs) (length reports)) ∷ misdrawn text ∷ malformed text plate ∷ faulty text plate ∷ []

-- "then", of a lane's own report, "13, 18, 15, 16"
abbrev pub lane_rows : Run → (text plate : List ℕ) → ℕ → List Row
lane_rows run text plate to = only Position (OffChart run text to) ∷ move_rows run text plate to

-- those of each lane of a house
abbrev pub rows_at : List Run → (reports text plate : List ℕ) → ℕ → List Row
rows_at runs reports text plate lane = lane_rows (get_or runs lane no_run) text plate (get_or reports lane 65535)

-- The demand

-- a job's answer is a refusal exactly by its rows; an answer that is none is given only where no condition holds; and after a refusal
-- what was lent is as it was
pub record Exact {A : Type 0} (answer : A) (refused : Refusal → A) (rows : List Row) (stays : Type 0) : Type 0 where
  pub exactly : (x : Refusal) → (answer ≡ refused x) ↔ RefusedBy rows x
  pub taken : ((x : Refusal) → answer ≡ refused x → ⊥) → Clear rows
  pub unchanged : (x : Refusal) → answer ≡ refused x → stays

-- a lane's refusal x is answered: the house's rows are clear, and "of the reporting lanes" it is "the lowest refused"
pub record LaneRefusedBy (runs : List Run) (reports text plate : List ℕ) (lane : ℕ) (x : Refusal) : Type 0 where
  pub clear : Clear (house_rows runs reports text plate)
  pub inside : lane < length runs
  pub reports-here : Reports reports lane
  pub refused : RefusedBy (rows_at runs reports text plate lane) x
  pub lower : (k : ℕ) → k < lane → Reports reports k → Clear (rows_at runs reports text plate k)

-- no condition holds, of the house or of a lane that reports
pub record AllClear (runs : List Run) (reports text plate : List ℕ) : Type 0 where
  pub clear : Clear (house_rows runs reports text plate)
  pub lanes : (lane : ℕ) → lane < length runs → Reports reports lane → Clear (rows_at runs reports text plate lane)

-- the same of a house: its own refusals are answered at lane 0, and a count, "the count of lanes moved", is answered just where all is clear;
-- after a refusal "no record changes"
pub record HouseExact (runs after : List Run) (reports text plate : List ℕ) (answer : Result ℕ (ℕ × Refusal)) : Type 0 where
  pub exactly : (lane : ℕ) (x : Refusal) → (answer ≡ Err (lane, x))
      ↔ (((lane ≡ 0) × RefusedBy (house_rows runs reports text plate) x) ⊎ LaneRefusedBy runs reports text plate lane x)
  pub taken : (moved : ℕ) → (answer ≡ Ok moved) ↔ (AllClear runs reports text plate × (moved ≡ count_below (reporting reports) (length runs)))
  pub unchanged : (lane : ℕ) (x : Refusal) → answer ≡ Err (lane, x) → after ≡ runs

-- of every job, by what it ensures; Checking, Comparing, Indexing and a start are lent nothing that they could change
pub record Demand1 : Type 0 where
  pub valuing : {text values values' choices choices' steps steps' : List ℕ} {r : Result ℕ Refusal} → ValuedIs text values values' choices choices' steps steps' r
      → Exact r Err (valuing_rows text values choices steps) ((values' ≡ values) × (choices' ≡ choices) × (steps' ≡ steps))
  pub writing : {text out out' : List ℕ} {r : Result ℕ Refusal} → WrittenIs text out out' r → Exact r Err (writing_rows text out) (out' ≡ out)
  pub reading : {text plate values values' choices choices' steps steps' : List ℕ} {r : Result FirstLine Refusal} → ReadingIs text plate values values' choices choices' steps steps' r
      → Exact r Err (reading_rows text plate values choices steps) ((values' ≡ values) × (choices' ≡ choices) × (steps' ≡ steps))
  pub checking : {text plate : List ℕ} {r : Result ⊤ Refusal} → r ≡ checked text plate → Exact r Err (checking_rows text plate) (Unit {0})
  pub weighing : {text choices worths worths' : List ℕ} {r : Result ⊤ Refusal} → WeighedIs text choices worths worths' r
      → Exact r Err (weighing_rows text choices worths) (worths' ≡ worths)
  pub comparing : {text plate choices : List ℕ} {r : Result (Option Difference) Refusal} → ComparedIs text plate choices r → Exact r Err (comparing_rows text plate choices) (Unit {0})
  pub listing : {text out out' : List ℕ} {r : Result ℕ Refusal} → ListedIs text out out' r → Exact r Err (listing_rows text out) (out' ≡ out)
  pub ruin : {text choices out out' : List ℕ} {position : ℕ} {r : Result ℕ Refusal} → RuinedIs text choices position out out' r
      → Exact r Err (ruin_rows text choices position out) (out' ≡ out)
  pub generating : {n i : ℕ} {out out' : List ℕ} {r : Result ℕ Refusal} → GeneratedIs n i out out' r → Exact r Err (generating_rows n i out) (out' ≡ out)
  pub indexing : {text : List ℕ} {r : Result ℕ Refusal} → r ≡ indexed text → Exact r Err (indexing_rows text) (Unit {0})
  pub start : {text plate : List ℕ} {position : ℕ} {r : Result (Run × Advice) Refusal} → r ≡ started text plate position → Exact r Err (start_rows text plate position) (Unit {0})
  -- "the run comes back unchanged"
  pub report : {run : Run} {text plate : List ℕ} {to : ℕ} {r : Reported} → r ≡ reported run text plate to
      → Exact r.answer Err (report_rows run text plate to) (r.run ≡ run)
  pub house : {runs after : List Run} {reports text plate : List ℕ} {r : Result ℕ (ℕ × Refusal)} → HouseIs runs reports text plate after r
      → HouseExact runs after reports text plate r
  -- "no misdrawn sheet is taken": where any of 1 to 9 and 17 applies to a chart, one of them is the first, so the first row above refuses it
  pub misdrawn-is-refused : (text : List ℕ) (s : Misdrawn) → Applies text s → (r : Misdrawn) × First text r

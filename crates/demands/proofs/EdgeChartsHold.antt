-- What is expected of the charts at the edges holds of the definitions: one test that is computed over each list, and one law that makes
-- of a passed test what the definitions say.
use Rattle.std.specs.Prelude.{ℕ, zero, suc, ◌<◌, ◌≡◌, refl, Bool, true, false, ◌&&◌, length, T, eqb, Result, Ok, Err}
use Rattle.std.proofs.Common.{arith, sym, subst, ⊎_elim, eqb→eq}
use Rattle.std.proofs.Math.Decide.{ℕ_discrete}
use mathlib.Core.List.Memᴰ
use mathlib.Core.List.{List, [], ◌∷◌, ◌++◌, Memᴰ}
use Rattle.rows.specs.FirstLine.{first_line_of}
use Rattle.rows.specs.Numbers.{number_of, value_of}
use Rattle.search.specs.Below.{some_below, count_below}
use Rattle.search.specs.First.{first_from}
use Rattle.game.specs.Value.{Value, value_le, value_lt, value_eq}
use Rattle.game.proofs.ValueLaws.{value_eq-sound}
use Rattle.game.proofs.MoveTests.{and_left, and_right}
use Rattle.game.specs.Arena.{Arena, size, meant_move}
use Rattle.game.specs.Keep.{keep}
use Rattle.game.specs.GoodMoves.{holds_value, good_move, good_moves}
use Rattle.game.specs.Worth.{IsValue}
use Rattle.game.specs.Table.{some_move, every_move, meant_from, disturbance_from, is_placed, has_value, ready_as, ready, begins, place, table_after, table_before, table, placed_value, placed_step, round_value, round_step}
use Rattle.game.specs.Best.{better, best_in, best_as, best_at}
use Rattle.game.proofs.BestLaws.{best-is-the-choice}
use Rattle.game.specs.Choice.{IsChoice}
use Rattle.game.proofs.RoundValues.{rounds-give-the-values}
use Rattle.game.specs.FirstLine.{first_of_pair, pair_count, higher, highest, ever_count}
use Rattle.field.specs.Text.{digit_after, stepped, scan, ended, field_of, five, field_at, place_byte, number_text}
use Rattle.chart.specs.Text.{letter_at, first_at, second_at, end_at, mark_of, mark_at, field_number, is_number, positions_of, moves_of, from_at, to_at}
use Rattle.chart.specs.Meaning.{owner_of, cost_of, position_on, move_on, arena_of}
use Rattle.chart.specs.Examined.{numbered, header_letter, position_letter, move_letter, formed, header_formed, position_formed, move_formed, limits_of, header_of, judged_position, position_finding, above, rises, ordered, judged_owner, judged_move, move_finding, line_finding, or_else, meant_line, meant_in, missing_at, unflagged_at, answer, after_header, lines_after, examined}
use Rattle.chart.specs.Accepted.{accepted-chartable}
use Rattle.chart.specs.Exact.{refused-exactly, accepted-exactly}
use Rattle.refusal.specs.Numbers.{misdrawn_number, misdrawn_line}
use Rattle.rows.specs.declared.Chart.{Chart}
use Rattle.demands.specs.EdgeCharts.{Expected, refusal, plate, Edge, entry, PlateHolds, RefusalHolds, Holds, document_chart, document_plate, edge_charts, rest_charts}
use Rattle.line.specs.Text.{dash_text, ever_text, entry_text, fields_text, line_text}
use Rattle.line.specs.Joined.{joined}
use Rattle.plate.specs.Text.{value_entry, dash_entry, header_line, position_line, position_lines, plate_text}
use Rattle.listing.specs.Sheet.{good_line}
use Rattle.listing.specs.Listing.{good_count, good_sheet}
use Rattle.writing.specs.Writing.{plate_of}
use Rattle.refusal.specs.declared.Misdrawn.{Misdrawn}
use Rattle.valuing.specs.ValuedMeansHold.{pair_is}

-- two rows agree below n
unfoldable pub agree : (ℕ → Value) → (ℕ → Value) → ℕ → Bool
agree f g zero = true
agree f g (suc n) = value_eq (f n) (g n) && agree f g n

agree_at : (f g : ℕ → Value) (n v : ℕ) → T (agree f g n) → v < n → f v ≡ g v
unfolding agree
agree_at f g zero v h l = absurd (omega arith)
agree_at f g (suc n) v h l = here (ℕ_discrete v n) (agree_at f g n v (and_right (value_eq (f n) (g n)) (agree f g n) h))
  where
    here : Dec (v ≡ n) → (v < n → f v ≡ g v) → f v ≡ g v
    here (yes z) rec = rw z ((value_eq-sound (f n) (g n)).0 (and_left (value_eq (f n) (g n)) (agree f g n) h))
    here (no z) rec = rec (omega arith)

-- The tests

unfoldable pub is_refused : Result Chart Misdrawn → ℕ → ℕ → Bool
is_refused (Err r) number line = eqb (misdrawn_number r) number && eqb (misdrawn_line r) line
is_refused (Ok chart) number line = false

unfoldable pub is_accepted : Result Chart Misdrawn → Bool
is_accepted (Err r) = false
is_accepted (Ok chart) = true

unfoldable pub rows_right : Arena → (values choices steps : List Value) → Bool
rows_right a values choices steps =
    agree (entry values) (round_value a) (size a) && (agree (entry choices) (best_at a (entry values)) (size a) && agree (entry steps) (round_step a) (size a))

unfoldable pub counts_right : ℕ → (values steps : List Value) (rounds : ℕ) (top : Value) (evers : ℕ) → Bool
counts_right n values steps rounds top evers =
    eqb (length values) n
    && (eqb rounds (pair_count (entry values) (entry steps) n) && (value_eq top (highest (entry values) n) && eqb evers (ever_count (entry values) n)))

-- computed, with all that they stand on
unfoldable pub passes : List ℕ → Expected → Bool
unfolding examined lines_after after_header answer unflagged_at missing_at meant_in meant_line first_from or_else line_finding move_finding judged_move judged_owner ordered rises above position_finding judged_position header_of limits_of move_formed position_formed header_formed formed move_letter position_letter header_letter numbered to_at from_at moves_of positions_of is_number field_number mark_of mark_at end_at second_at first_at letter_at field_at five field_of ended scan stepped digit_after line_text fields_text entry_text number_text place_byte arena_of joined position_on move_on owner_of cost_of is_refused is_accepted rows_right counts_right agree value_eq value_lt round_value round_step placed_value placed_step table table_before table_after place is_placed has_value begins ready ready_as some_move every_move meant_from disturbance_from best_at best_as best_in better pair_count first_of_pair count_below some_below highest higher ever_count
passes text (refusal number line) = is_refused (examined text) number line
passes text (plate values choices steps rounds top evers) =
    is_accepted (examined text) && (rows_right (arena_of text) values choices steps && counts_right (size (arena_of text)) values steps rounds top evers)

-- What a passed test says

refusal-passes : (text : List ℕ) (number line : ℕ) → T (is_refused (examined text) number line) → RefusalHolds text number line
unfolding is_refused
refusal-passes text number line h = go (examined text) refl h
  where
    go : (x : Result Chart Misdrawn) → examined text ≡ x → T (is_refused x number line) → RefusalHolds text number line
    go (Err r) e h =
        record {
          refusal = r;
          first = (refused-exactly text r).0 e;
          turned = e;
          number_is = eqb→eq (misdrawn_number r) number (and_left (eqb (misdrawn_number r) number) (eqb (misdrawn_line r) line) h);
          line-is = eqb→eq (misdrawn_line r) line (and_right (eqb (misdrawn_number r) number) (eqb (misdrawn_line r) line) h);
        }
    go (Ok chart) e h = absurd h

accepted-chart : (text : List ℕ) → T (is_accepted (examined text)) → (chart : Chart) × (examined text ≡ Ok chart)
unfolding is_accepted
accepted-chart text h = go (examined text) refl h
  where
    go : (x : Result Chart Misdrawn) → examined text ≡ x → T (is_accepted x) → (chart : Chart) × (examined text ≡ Ok chart)
    go (Err r) e h = absurd h
    go (Ok chart) e h = (chart, e)

plate-passes : (text : List ℕ) (values choices steps : List Value) (rounds : ℕ) (top : Value) (evers : ℕ) → T (is_accepted (examined text))
    → T (rows_right (arena_of text) values choices steps) → T (counts_right (size (arena_of text)) values steps rounds top evers)
    → PlateHolds text values choices steps rounds top evers
unfolding rows_right counts_right
plate-passes text values choices steps rounds top evers taken rows counts =
    let t = accepted-chart text taken in
    let a = arena_of text in
    let n = size (arena_of text) in
    let wf = (accepted-chartable text t.0 t.1).well-formed in
    let same-values = agree (entry values) (round_value a) n in
    let same-choices = agree (entry choices) (best_at a (entry values)) n in
    let same-steps = agree (entry steps) (round_step a) n in
    let rest = and_right same-values (same-choices && same-steps) rows in
    let sized = eqb (length values) n in
    let pairs = eqb rounds (pair_count (entry values) (entry steps) n) in
    let top_right = value_eq top (highest (entry values) n) in
    let ever-right = eqb evers (ever_count (entry values) n) in
    let more = and_right sized (pairs && (top_right && ever-right)) counts in
    let last = and_right pairs (top_right && ever-right) more in
    let value-at : (v : ℕ) → v < n → entry values v ≡ round_value a v = λ v l. agree_at (entry values) (round_value a) n v (and_left same-values (same-choices && same-steps) rows) l in
    record {
      chart = t.0;
      drawn = ((accepted-exactly text t.0).0 t.1).0;
      taken = t.1;
      sized = eqb→eq (length values) n (and_left sized (pairs && (top_right && ever-right)) counts);
      value = λ v l. subst (IsValue a v) (sym (value-at v l)) (rounds-give-the-values a wf v l);
      choice = λ v l.
          subst (IsChoice a (entry values) v) (sym (agree_at (entry choices) (best_at a (entry values)) n v (and_left same-choices same-steps rest) l)) (best-is-the-choice a (entry values) wf v l);
      pair = λ v l. pair_is a wf v (entry values v) (entry steps v) (value-at v l) (agree_at (entry steps) (round_step a) n v (and_right same-choices same-steps rest) l);
      rounds-counted = eqb→eq rounds (pair_count (entry values) (entry steps) n) (and_left pairs (top_right && ever-right) more);
      highest-value = (value_eq-sound top (highest (entry values) n)).0 (and_left top_right ever-right last);
      evers-counted = eqb→eq evers (ever_count (entry values) n) (and_right top_right ever-right last);
    }

passed-holds : (text : List ℕ) (x : Expected) → T (passes text x) → Holds text x
unfolding passes
passed-holds text (refusal number line) h = refusal-passes text number line h
passed-holds text (plate values choices steps rounds top evers) h =
    let rows = rows_right (arena_of text) values choices steps in
    let counts = counts_right (size (arena_of text)) values steps rounds top evers in
    let rest = and_right (is_accepted (examined text)) (rows && counts) h in
    plate-passes text values choices steps rounds top evers (and_left (is_accepted (examined text)) (rows && counts) h) (and_left rows counts rest) (and_right rows counts rest)

-- The whole list

unfoldable pub all_pass : List Edge → Bool
unfolding passes
all_pass [] = true
all_pass (e ∷ es) = passes e.text e.expected && all_pass es

all_hold : (es : List Edge) → T (all_pass es) → (e : Edge) → Memᴰ e es → Holds e.text e.expected
unfolding all_pass
all_hold [] h e m = absurd (Memᴰ.not-nil m)
all_hold (x ∷ xs) h e m =
    ⊎_elim
    (λ q. subst (λ (y : Edge). Holds y.text y.expected) (sym q) (passed-holds x.text x.expected (and_left (passes x.text x.expected) (all_pass xs) h)))
    (λ k. all_hold xs (and_right (passes x.text x.expected) (all_pass xs) h) e k)
    (Memᴰ.cases_cons m)

pub edge-charts-hold : (e : Edge) → Memᴰ e edge_charts → Holds e.text e.expected
unfolding all_pass edge_charts
edge-charts-hold e m = all_hold edge_charts tt e m

pub rest-charts-hold : (e : Edge) → Memᴰ e rest_charts → Holds e.text e.expected
unfolding all_pass rest_charts
rest-charts-hold e m = all_hold rest_charts tt e m

-- chart a's plate is the bytes that document 01 prints
pub document-plate : plate_of (arena_of document_chart) ≡ document_plate
unfolding document_chart document_plate plate_of first_line_of plate_text header_line position_lines position_line joined line_text fields_text value_entry dash_entry entry_text dash_text ever_text number_of value_of passes
document-plate = refl

-- and its good moves: 0 goes to 1, 2 goes to 0 or stays, since a disturbance holds it down, 4 stays
pub document-sheet : good_sheet (arena_of document_chart) ≡ good_line (meant_move 0 1) ++ (good_line (meant_move 2 0) ++ (good_line (meant_move 2 2) ++ good_line (meant_move 4 4)))
unfolding document_chart good_sheet good_count good_moves good_move holds_value keep joined line_text fields_text entry_text value_le passes
document-sheet = refl

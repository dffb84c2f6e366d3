-- The rows of an accepted text, decoded line by line, are its arena's.
use Rattle.std.specs.Prelude.{ℕ, ◌+◌, ◌*◌, ◌≤◌, ◌<◌, ◌≡◌, refl, List, length, Result, Ok, Err}
use Rattle.std.proofs.Common.{arith, sym, ap, subst, ◌∙◌}
use Rattle.rows.specs.Rows.{RowIs, Filled, Kept, owner_number, Ascending, RowsOf}
use Rattle.rows.specs.declared.Rows.{Rows}
use Rattle.game.specs.Arena.{Position, Move}
use Rattle.field.specs.Text.{field_at, decimal_at}
use Rattle.field.specs.Laws.{field-spells, blank-spells}
use Rattle.field.specs.declared.Field.{Field}
use Rattle.field.specs.declared.Field.TheVariants.{Number, Blank, Bad}
use Rattle.chart.specs.Text.{letter_at, first_at, second_at, mark_of, mark_at, field_number, positions_of, moves_of, from_at, to_at}
use Rattle.chart.specs.Meaning.{cost_of, position_on, move_on, arena_of}
use Rattle.chart.specs.Examined.{header_of, examined}
use Rattle.chart.specs.Header.{header-accepts}
use Rattle.chart.specs.Arenas.{arena-position, arena-move}
use Rattle.chart.specs.Accepted.{accepted-chartable, accepted-size, accepted-moves, froms-rise}
use Rattle.chart.specs.Good.{GoodChart, accepted-good}
use Rattle.rows.specs.declared.Chart.{Chart}
use Rattle.refusal.specs.declared.Misdrawn.{Misdrawn}
use Rattle.walk.specs.Decoded.{PositionRows, MoveRows}
use Rattle.decode.specs.Loaded.{Loaded, Cleared, LoadIs, RowsTaken, RowsLoaded}

-- what decoding needs of an accepted text: the lines are there, the numbers fit the rows, and the bytes spell them
pub record PositionsFit (text : List ℕ) (n : ℕ) : Type 0 where
  pub few : n ≤ 512
  pub room : (n + 1) * 12 ≤ length text
  pub small : (v : ℕ) → v < n → field_number (mark_at text (v + 1)) ≤ 1
  pub mark-spelt : (v : ℕ) → v < n → decimal_at text ((v + 1) * 12 + 6) ≡ field_number (mark_at text (v + 1))

pub record MovesFit (text : List ℕ) (first m : ℕ) : Type 0 where
  pub few : (first ≤ 513) × (m ≤ 4096)
  pub room : (first + m) * 12 ≤ length text
  pub from-small : (i : ℕ) → i < m → from_at text (first + i) < 512
  pub to-small : (i : ℕ) → i < m → to_at text (first + i) < 512
  pub from-spelt : (i : ℕ) → i < m → decimal_at text ((first + i) * 12 + 1) ≡ from_at text (first + i)
  pub to-spelt : (i : ℕ) → i < m → decimal_at text ((first + i) * 12 + 6) ≡ to_at text (first + i)

-- the bytes of a good mark spell it, those of a blank too
mark-spells : (text : List ℕ) (i : ℕ) → mark_at text i ≡ Number (field_number (mark_at text i)) → decimal_at text (i * 12 + 6) ≡ field_number (mark_at text i)
unfolding mark_at mark_of field_number second_at
mark-spells text i e = go (field_at text (i * 12 + 6)) refl
  where
    go : (f : Field) → field_at text (i * 12 + 6) ≡ f → decimal_at text (i * 12 + 6) ≡ field_number (mark_of (field_at text (i * 12 + 6)))
    go (Number x) p = field-spells text (i * 12 + 6) x p ∙ sym (ap (λ (f : Field). field_number (mark_of f)) p)
    go Blank p = blank-spells text (i * 12 + 6) p ∙ sym (ap (λ (f : Field). field_number (mark_of f)) p)
    go Bad p = let bad : Bad ≡ Number _ = sym (ap mark_of p) ∙ e in let z : ◌≡◌ {A = ℕ} 0 1 = cc in absurd (omega arith)

good-positions : (text : List ℕ) → GoodChart text → PositionsFit text (positions_of text)
good-positions text g =
    let l = g.limits in
    record {
      few = l.positions;
      room = omega arith;
      small = λ v h. (g.position (v + 1) (omega arith) (omega arith)).small;
      mark-spelt = λ v h. mark-spells text (v + 1) (g.position (v + 1) (omega arith) (omega arith)).form.second-number;
    }

good-moves : (text : List ℕ) → GoodChart text → MovesFit text (positions_of text + 1) (moves_of text)
unfolding from_at to_at first_at second_at
good-moves text g =
    let l = g.limits in
    record {
      few = (omega arith, omega arith);
      room = omega arith;
      from-small = λ i h. let k = (g.move (positions_of text + 1 + i) (omega arith) (omega arith)).from-position in omega arith;
      to-small = λ i h. let k = (g.move (positions_of text + 1 + i) (omega arith) (omega arith)).to-position in omega arith;
      from-spelt = λ i h. field-spells text ((positions_of text + 1 + i) * 12 + 1) _ (g.move (positions_of text + 1 + i) (omega arith) (omega arith)).form.first-number;
      to-spelt = λ i h. field-spells text ((positions_of text + 1 + i) * 12 + 6) _ (g.move (positions_of text + 1 + i) (omega arith) (omega arith)).form.second-number;
    }

pub positions-fit : (text : List ℕ) (chart : Chart) → examined text ≡ Ok chart → PositionsFit text chart.positions
positions-fit text chart e =
    let w = accepted-good text chart e in
    subst (λ (k : Chart). PositionsFit text k.positions) (sym w.1) (good-positions text w.0)

pub moves-fit : (text : List ℕ) (chart : Chart) → examined text ≡ Ok chart → MovesFit text (chart.positions + 1) chart.moves
moves-fit text chart e =
    let w = accepted-good text chart e in
    subst (λ (k : Chart). MovesFit text (k.positions + 1) k.moves) (sym w.1) (good-moves text w.0)

-- the decoded rows of an accepted text are its arena's
accepted-rows-load : (text : List ℕ) (chart : Chart) (owners₀ owners marks₀ marks costs₀ costs froms₀ froms tos₀ tos : List ℕ) → examined text ≡ Ok chart →
    (512 ≤ length owners) × (512 ≤ length marks) → (4096 ≤ length costs) × (4096 ≤ length froms) × (4096 ≤ length tos) →
    PositionRows text chart.positions owners₀ owners marks₀ marks → MoveRows text (chart.positions + 1) chart.moves costs₀ costs froms₀ froms tos₀ tos →
    Loaded (arena_of text) chart.positions chart.moves owners₀ owners marks₀ marks costs₀ costs froms₀ froms tos₀ tos
unfolding position_on move_on
accepted-rows-load text chart owners₀ owners marks₀ marks costs₀ costs froms₀ froms tos₀ tos e long longer p m =
    let size_is = accepted-size text chart e in
    let moves-are = accepted-moves text chart e in
    let few = (accepted-chartable text chart e).few-positions in
    let some = (accepted-chartable text chart e).few-moves in
    let same : chart ≡ record { positions = positions_of text; moves = moves_of text } = (accepted-good text chart e).1 in
    let first : chart.positions ≡ positions_of text = ap (λ (k : Chart). k.positions) same in
    let second : chart.moves ≡ moves_of text = ap (λ (k : Chart). k.moves) same in
    let line : (i : ℕ) → chart.positions + 1 + i ≡ positions_of text + 1 + i = λ i. ap (λ (k : ℕ). k + 1 + i) first in
    record {
      rows = record {
        well = (accepted-chartable text chart e).well-formed;
        positions = size_is;
        moves = moves-are;
        few-positions = omega arith;
        few-moves = omega arith;
        owner = λ v h. p.owner.row v h ∙ ap (λ (q : Position). owner_number q.owner) (sym (arena-position text v (rw first at h)));
        mark = λ v h. p.mark.row v h ∙ ap (λ (q : Position). q.mark) (sym (arena-position text v (rw first at h)));
        cost = λ i h. m.cost.row i h ∙ ap (λ (k : ℕ). cost_of (letter_at text k)) (line i) ∙ ap (λ (q : Move). q.cost) (sym (arena-move text i (rw second at h)));
        from = λ i h. m.from.row i h ∙ ap (from_at text) (line i) ∙ ap (λ (q : Move). q.from) (sym (arena-move text i (rw second at h)));
        to = λ i h. m.to.row i h ∙ ap (to_at text) (line i) ∙ ap (λ (q : Move). q.to) (sym (arena-move text i (rw second at h)));
        owners-row = omega (arith, long.0);
        marks-row = omega (arith, long.1);
        costs-row = omega (arith, longer.0);
        froms-row = omega (arith, longer.1);
        tos-row = omega (arith, longer.2);
      };
      owners-past = p.owner.rest;
      marks-past = p.mark.rest;
      costs-past = m.cost.rest;
      froms-past = m.from.rest;
      tos-past = m.to.rest;
    }

-- so an accepted text is loaded
pub accepted-loads : (text : List ℕ) (chart : Chart) (owners₀ owners marks₀ marks costs₀ costs froms₀ froms tos₀ tos : List ℕ) → examined text ≡ Ok chart →
    (512 ≤ length owners) × (512 ≤ length marks) → (4096 ≤ length costs) × (4096 ≤ length froms) × (4096 ≤ length tos) →
    PositionRows text chart.positions owners₀ owners marks₀ marks → MoveRows text (chart.positions + 1) chart.moves costs₀ costs froms₀ froms tos₀ tos →
    LoadIs text (Ok chart) owners₀ owners marks₀ marks costs₀ costs froms₀ froms tos₀ tos
accepted-loads text chart owners₀ owners marks₀ marks costs₀ costs froms₀ froms tos₀ tos e long longer p m =
    record {
      answer = sym e;
      taken = λ other q.
          let same : chart ≡ other = cc in
          subst (λ (k : Chart). Loaded (arena_of text) k.positions k.moves owners₀ owners marks₀ marks costs₀ costs froms₀ froms tos₀ tos) same
          (accepted-rows-load text chart owners₀ owners marks₀ marks costs₀ costs froms₀ froms tos₀ tos e long longer p m);
      refused = λ s q. let z : ◌≡◌ {A = ℕ} 0 1 = cc in absurd (omega arith);
    }

-- and a refused one is not
pub refused-loads : (text : List ℕ) (s : Misdrawn) (owners₀ owners marks₀ marks costs₀ costs froms₀ froms tos₀ tos : List ℕ) → examined text ≡ Err s →
    Cleared owners marks costs froms tos → LoadIs text (Err s) owners₀ owners marks₀ marks costs₀ costs froms₀ froms tos₀ tos
refused-loads text s owners₀ owners marks₀ marks costs₀ costs froms₀ froms tos₀ tos e w =
    record {
      answer = sym e;
      taken = λ chart q. let z : ◌≡◌ {A = ℕ} 0 1 = cc in absurd (omega arith);
      refused = λ t q. w;
    }

-- an answer to a chart of these counts whose rows were written before: what lies past the counts is what was there at first
pub load_after : (text : List ℕ) (chart : Chart) (r : Result Chart Misdrawn) (owners₀ owners₁ owners marks₀ marks₁ marks costs₀ costs₁ costs froms₀ froms₁ froms tos₀ tos₁ tos : List ℕ) →
    header_of text ≡ Ok chart → Kept chart.positions owners₀ owners₁ → Kept chart.positions marks₀ marks₁ →
    Kept chart.moves costs₀ costs₁ → Kept chart.moves froms₀ froms₁ → Kept chart.moves tos₀ tos₁ →
    LoadIs text r owners₁ owners marks₁ marks costs₁ costs froms₁ froms tos₁ tos → LoadIs text r owners₀ owners marks₀ marks costs₀ costs froms₀ froms tos₀ tos
load_after text chart r owners₀ owners₁ owners marks₀ marks₁ marks costs₀ costs₁ costs froms₀ froms₁ froms tos₀ tos₁ tos h a b c d e w =
    record {
      answer = w.answer;
      taken = λ got q.
          let l = w.taken got q in
          let same : chart ≡ got = (header-accepts text chart h).1 ∙ sym (accepted-good text got (sym w.answer ∙ q)).1 in
          let few : chart.positions ≡ got.positions = ap (λ (k : Chart). k.positions) same in
          let some : chart.moves ≡ got.moves = ap (λ (k : Chart). k.moves) same in
          record {
            rows = l.rows;
            owners-past = λ j m. l.owners-past j m ∙ a.rest j (omega arith);
            marks-past = λ j m. l.marks-past j m ∙ b.rest j (omega arith);
            costs-past = λ j m. l.costs-past j m ∙ c.rest j (omega arith);
            froms-past = λ j m. l.froms-past j m ∙ d.rest j (omega arith);
            tos-past = λ j m. l.tos-past j m ∙ e.rest j (omega arith);
          };
      refused = w.refused;
    }

-- a row that was filled over its whole length
pub filled-all : {old new : List ℕ} {f : ℕ → ℕ} → Filled old new (length old) f → RowIs new (length new) f
filled-all {old} {new} {f} w k h = w.row k (subst (λ (n : ℕ). k < n) w.same_length h)

-- the loaded moves lie by their positions
pub decoded-ascending : (text : List ℕ) (chart : Chart) → examined text ≡ Ok chart → {n : ℕ} {owners marks costs froms tos : List ℕ}
    → RowsOf (arena_of text) n chart.moves owners marks costs froms tos → Ascending chart.moves froms
decoded-ascending text chart e d i j l k =
    let rise = froms-rise (arena_of text) (accepted-chartable text chart e) i j l (rw (accepted-moves text chart e) k) in
    omega (arith, d.from i (omega arith), d.from j k)

pub rows-taken : {text : List ℕ} {rows : Rows} → RowsTaken text rows → RowsLoaded text (Ok rows)
rows-taken {text} {rows} t =
    record {
      taken = λ other e. let same : rows ≡ other = cc in subst (RowsTaken text) same t;
      refused = λ s e. let z : ◌≡◌ {A = ℕ} 0 1 = cc in absurd (omega arith);
    }

pub rows-refused : {text : List ℕ} {s : Misdrawn} → examined text ≡ Err s → RowsLoaded text (Err s)
rows-refused {text} {s} e =
    record {
      taken = λ rows q. let z : ◌≡◌ {A = ℕ} 0 1 = cc in absurd (omega arith);
      refused = λ t q. let same : s ≡ t = cc in e ∙ ap Err same;
    }

-- All the good moves (document 02, order 2), of the bytes that Listing leaves in the lent buffer. Its first sentence is `sheet-is`, with
-- what can be read off the lines (`listed`); then "A positional controller is optimal exactly when all its choices are listed. One with
-- memory that makes only listed moves is worth the value at every position." Optimal is meant both ways: its worths are the values; no
-- controller is worth more anywhere.
use Rattle.std.specs.Prelude.{ℕ, ◌*◌, ◌<◌, ◌≡◌, ◌↔◌, List, length, take, drop, Ok}
use Rattle.field.specs.declared.Field.TheVariants.{Number}
use Rattle.game.specs.Value.{Value}
use Rattle.game.specs.Arena.{Arena, controller, size, owner_at}
use Rattle.game.specs.Play.{Trail, Controller, Play, Legal, last, target_of, positional}
use Rattle.game.specs.Worth.{WorthIs, IsValue}
use Rattle.game.proofs.Optimal.{Unsurpassed}
use Rattle.game.specs.Good.{Good}
use Rattle.chart.specs.Meaning.{arena_of}
use Rattle.chart.specs.Lines.{Reads}
use Rattle.plate.specs.Read.{choice_in_plate}
use Rattle.listing.specs.Sheet.{SheetOf}
use Rattle.listing.specs.Listing.{ListedIs}
use Rattle.demands.specs.Sanctioned.{Sanctioned}

-- the move from v to w is listed: one of the sheet's lines reads `G`, v, w
abbrev pub OnSheet : (sheet : List ℕ) → (lines v w : ℕ) → Type 0
OnSheet sheet lines v w = (i : ℕ) × (i < lines) × Reads sheet i 71 v (Number w)

-- "all its choices", those at O: at L there is nothing to choose
abbrev pub ChoicesListed : (sheet : List ℕ) → (lines : ℕ) → (a : Arena) → (ℕ → Value) → Type 0
ChoicesListed sheet lines a choice = (v : ℕ) → owner_at a v ≡ controller → OnSheet sheet lines v (target_of (choice v))

-- "makes only listed moves", from v: wherever a play of its own from v stands at O, its pick is listed
abbrev pub PicksListed : (sheet : List ℕ) → (lines : ℕ) → (a : Arena) → Controller a → ℕ → Type 0
PicksListed sheet lines a σ v = (t : Trail) → Play a σ v t → owner_at a (last v t) ≡ controller → OnSheet sheet lines (last v t) (σ.pick v t)

-- "is worth the value" at v
pub record WorthTheValue (a : Arena) (σ : Controller a) (v : ℕ) : Type 0 where
  pub value : Value
  pub is-value : IsValue a v value
  pub worth : WorthIs a σ v value

abbrev pub WorthTheValues : (a : Arena) → Controller a → Type 0
WorthTheValues a σ = (v : ℕ) → v < size a → WorthTheValue a σ v

-- of a buffer `out` that Listing left as `sheet`, with so many lines
pub record GoodMoves (text out sheet : List ℕ) (lines : ℕ) : Type 0 where
  -- the lines, 12 bytes each, are the arena's sheet, and what lies past them stayed
  pub sheet-is : SheetOf (arena_of text) (take (lines * 12) sheet)
  pub counted : length (take (lines * 12) sheet) ≡ lines * 12
  pub past : drop (lines * 12) sheet ≡ drop (lines * 12) out
  -- the moves that can be read off it are the good ones
  pub listed : (v w : ℕ) → OnSheet sheet lines v w ↔ Good (arena_of text) v w
  -- "A positional controller is optimal exactly when all its choices are listed"
  pub optimal : (choice : ℕ → Value) (legal : Legal (arena_of text) choice)
      → WorthTheValues (arena_of text) (positional (arena_of text) choice legal) ↔ ChoicesListed sheet lines (arena_of text) choice
  pub unsurpassed : (choice : ℕ → Value) (legal : Legal (arena_of text) choice)
      → Unsurpassed (arena_of text) (positional (arena_of text) choice legal) ↔ ChoicesListed sheet lines (arena_of text) choice
  -- so the choices of every plate that the library writes or accepts are listed
  pub of-plates : (plate : List ℕ) → Sanctioned text plate → ChoicesListed sheet lines (arena_of text) (choice_in_plate plate)
  -- "One with memory that makes only listed moves is worth the value at every position"
  pub with-memory : (σ : Controller (arena_of text)) (v : ℕ) → v < size (arena_of text) → PicksListed sheet lines (arena_of text) σ v → WorthTheValue (arena_of text) σ v

-- the request
abbrev pub AllTheGoodMoves : Type 0
AllTheGoodMoves = (text out sheet : List ℕ) (lines : ℕ) → ListedIs text out sheet (Ok lines) → GoodMoves text out sheet lines

-- What a `?` hands on is the error that it met, as the conversion says; and what a result is whose error was mapped.
use Rattle.std.specs.Prelude.{Result, Ok, Err, ◌≡◌, MatchResult}
use Rattle.std.specs.Result.{IsErrAnd}
use Rattle.std.proofs.Common.{ap, sym, refl, ◌∙◌}
use Rattle.std.proofs.lemmas.Result.{err_from_is_err_and}

pub handed-on : {T E : Type 0} {e : E} (r : Result T E) → IsErrAnd r (λ (x : E). x ≡ e) → r ≡ Err e
handed-on r h = let p = err_from_is_err_and r h in p.1 ∙ ap Err p.2

module _ {T E F : Type 0} (f : E → F) where
  -- b is a with its error mapped
  abbrev Mapped : Result T E → Result T F → Type 0
  Mapped a b = MatchResult a (λ (x : T). b ≡ Ok x) (λ (e : E). IsErrAnd b (λ (r : F). r ≡ f e))

  pub mapped-ok : (a : Result T E) (b : Result T F) {x : T} → Mapped a b → b ≡ Ok x → a ≡ Ok x
  mapped-ok (Ok y) b {x = x} h e = let same : ◌≡◌ {A = Result T F} (Ok y) (Ok x) = sym h ∙ e in cc
  mapped-ok (Err d) b {x = x} h e = let no : ◌≡◌ {A = Result T F} (Err (f d)) (Ok x) = sym (handed-on b h) ∙ e in cc

  pub mapped-err : (a : Result T E) (b : Result T F) {r : F} → Mapped a b → b ≡ Err r → (e : E) × (a ≡ Err e) × (r ≡ f e)
  mapped-err (Ok y) b {r = r} h e = let no : ◌≡◌ {A = Result T F} (Ok y) (Err r) = sym h ∙ e in cc
  mapped-err (Err d) b {r = r} h e = let same : ◌≡◌ {A = Result T F} (Err (f d)) (Err r) = sym (handed-on b h) ∙ e in (d, refl, cc)

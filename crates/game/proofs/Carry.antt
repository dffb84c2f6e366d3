-- A certificate carries over to equal values and steps with another row of choices, if that row is legal and doesn't fall:
-- at each position of the controller its target has at least the position's value. Only condition 4 speaks of choices.
use Rattle.std.specs.Prelude.{ℕ, ◌<◌, ◌≡◌, refl}
use Rattle.std.proofs.Common.{sym, ◌∙◌, inl, inr}
use Rattle.std.proofs.Math.Path.{subst, subst₂}
use Rattle.std.proofs.Math.Logic.{⊎_map}
use Rattle.game.specs.Value.{Value, ◌≼◌, ◌≺◌, ◌⊕◌}
use Rattle.game.specs.Arena.{Arena, Owner, controller, environment, nobody, size, owner_at, Meant, WellFormed}
use Rattle.game.specs.Play.{disturbance_cost, target_of, LegalAs, Legal}
use Rattle.game.specs.Certificate.{Certificate, Earlier, MeantHold, DisturbancesHold, MeantRuin, DisturbanceRuins}
use Rattle.game.proofs.ValueLaws.{fin-injective}
use Rattle.game.proofs.PlayLaws.{meant-inside, disturbance-inside}

-- two rows are equal at every position
abbrev pub SameRow : Arena → (ℕ → Value) → (ℕ → Value) → Type 0
SameRow a row row' = (v : ℕ) → v < size a → row v ≡ row' v

-- the choices don't fall
abbrev pub NeverFalls : Arena → (value choice : ℕ → Value) → Type 0
NeverFalls a value choice = (v : ℕ) → v < size a → owner_at a v ≡ controller → value v ≼ value (target_of (choice v))

module _
    (a : Arena) (wf : WellFormed a) (value choice step value' choice' step' : ℕ → Value)
    (values : SameRow a value value') (steps : SameRow a step step')
  where
    carry-earlier : (w v : ℕ) → w < size a → v < size a → Earlier a value choice step w v → Earlier a value' choice' step' w v
    carry-earlier w v iw iv (inl less) = inl (subst₂ (λ (x y : Value). x ≺ y) (values w iw) (values v iv) less)
    carry-earlier w v iw iv (inr (same, less)) =
        inr (sym (values w iw) ∙ same ∙ values v iv, subst₂ (λ (x y : Value). x ≺ y) (steps w iw) (steps v iv) less)

    carry-meant-hold :
        (v : ℕ) (o : Owner) → v < size a
        → LegalAs o a v (choice' v)
        → (o ≡ controller → value v ≼ value (target_of (choice' v)))
        → MeantHold a value choice step o v
        → MeantHold a value' choice' step' o v
    unfolding target_of
    carry-meant-hold v controller inside legal keeps h =
        λ w e.
        let m : Meant a v w = subst (Meant a v) (fin-injective legal.0 w (sym legal.1 ∙ e)) legal.2 in
        let low : value v ≼ value w = subst (λ (x : Value). value v ≼ value (target_of x)) e (keeps refl) in
        subst₂ (λ (x y : Value). x ≼ y) (values v inside) (values w (meant-inside a wf v w m)) low
    carry-meant-hold v environment inside legal keeps h =
        λ w m. subst₂ (λ (x y : Value). x ≼ y) (values v inside) (values w (meant-inside a wf v w m)) (h w m)
    carry-meant-hold v nobody inside legal keeps h = tt

    carry-disturbances-hold : (v : ℕ) → v < size a → DisturbancesHold a value choice step v → DisturbancesHold a value' choice' step' v
    carry-disturbances-hold v inside h w d =
        subst₂ (λ (x y : Value). x ≼ y ⊕ disturbance_cost a v w) (values v inside) (values w (disturbance-inside a wf v w d)) (h w d)

    carry-meant-ruin : (v : ℕ) (o : Owner) → v < size a → MeantRuin a value choice step o v → MeantRuin a value' choice' step' o v
    carry-meant-ruin v controller inside all = λ w m. carry-earlier w v (meant-inside a wf v w m) inside (all w m)
    carry-meant-ruin v environment inside (w, m, less) = (w, m, carry-earlier w v (meant-inside a wf v w m) inside less)
    carry-meant-ruin v nobody inside none = absurd none

    carry-disturbance-ruins : (v : ℕ) → v < size a → DisturbanceRuins a value choice step v → DisturbanceRuins a value' choice' step' v
    carry-disturbance-ruins v inside (w, d, less) =
        (w, d, subst₂ (λ (x y : Value). x ⊕ disturbance_cost a v w ≼ y) (values w (disturbance-inside a wf v w d)) (values v inside) less)

    pub certificate-carries :
        Certificate a value choice step
        → Legal a choice'
        → NeverFalls a value choice'
        → Certificate a value' choice' step'
    certificate-carries certificate legal keeps v inside =
        let c = certificate v inside in
        record {
          unsafe-zero = λ u. sym (values v inside) ∙ c.unsafe-zero u;
          dash = (λ e. sym (values v inside) ∙ c.dash.0 (steps v inside ∙ e), λ e. sym (steps v inside) ∙ c.dash.1 (values v inside ∙ e));
          legal = legal v inside;
          holding = (carry-meant-hold v (owner_at a v) inside (legal v inside) (keeps v inside) c.holding.0, carry-disturbances-hold v inside c.holding.1);
          ruin = λ safe k e. ⊎_map (carry-disturbance-ruins v inside) (carry-meant-ruin v (owner_at a v) inside) (c.ruin safe k (values v inside ∙ e));
        }

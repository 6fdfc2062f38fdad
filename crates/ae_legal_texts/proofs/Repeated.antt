-- Lines one after another have a text where each has, and the last one.
use Rattle.std.specs.Prelude.{ℕ, ◌≡◌, ◌⊎◌, List, [], ◌∷◌}
use Rattle.std.proofs.Common.{refl, inr}
use Rattle.ae_codes.specs.Codes.{Code, both, mapped}
use Rattle.ae_codes.specs.Plans.{fixed, inside, sequence, sends, coded_fits}
use Rattle.ae_codes.specs.Repeats.{Repeated, any_shape, sure_end, rest_plan, repeat_layers, repeated, EachStep}
use Rattle.ae_codes.specs.Rows.{empty}

module _ {A B : Type 0} (step : Code (A ⊎ B)) (b0 : B) (fits0 : step.Fits (inr b0)) (P : ℕ → Type 0) (first : (x : A ⊎ B) → step.Fits x → (y : ℕ) × (ys : List ℕ) × (step.text x ≡ y ∷ ys) × P y) where
  pub repeated_has : (xs : List A) (b : B) → EachStep step b0 fits0 P first xs b → (repeated step b0 fits0 P first).Fits (xs, b)
  unfolding repeated sends mapped sequence both fixed rest_plan inside empty
  repeated_has [] b f = coded_fits {T = λ u. Repeated step b0 fits0 P first} (any_shape step b0 fits0 P first) (sure_end step b0 fits0 P first) (repeat_layers step b0 fits0 P first) tt ([], b) ((f, refl), refl)
  repeated_has (a ∷ xs) b f = coded_fits {T = λ u. Repeated step b0 fits0 P first} (any_shape step b0 fits0 P first) (sure_end step b0 fits0 P first) (repeat_layers step b0 fits0 P first) tt (a ∷ xs, b)
      ((f.0, (repeated_has xs b f.1, refl)), refl)

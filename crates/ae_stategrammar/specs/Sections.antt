-- Sections of a text: lines that begin with one byte, and what comes behind them, which begins with another.
use Rattle.std.specs.Prelude.{ℕ, ◌⊎◌, true, false, nat_eq, List, [], ◌∷◌, ◌++◌, ◌≡◌}
use mathlib.Core.Path.{refl, sym}
use mathlib.Core.Logic.{inl, inr}
use Rattle.std.specs.List.{AllByRecursion, flat_map}
use Rattle.std.proofs.lemmas.Bool.{eq-eqb}
use Rattle.ae_codes.specs.Codes.{Code, Begins, both, one, mapped}
use Rattle.ae_codes.specs.Plans.{fixed, inside, sequence, sends, coded_fits}
use Rattle.ae_codes.specs.Repeats.{repeated, repeated_first, repeated_spelled}
use Rattle.ae_codes.specs.Repeats as repeats
use Rattle.ae_codes.specs.Rows.{empty}

-- none of these bytes
abbrev pub NoneOf : List ℕ → ℕ → Type 0
NoneOf [] y = Unit {0}
NoneOf (x ∷ xs) y = (nat_eq y x ≡ false) × NoneOf xs y

module _ {X B : Type 0} (x : ℕ) (c : Code X) (rest : Code B) (P : ℕ → Type 0) (here : P x) (starts : (a : X) → c.Fits a → (xs : List ℕ) × (c.text a ≡ x ∷ xs)) (behind : (b : B) → rest.Fits b → (y : ℕ) × (ys : List ℕ) × (rest.text b ≡ y ∷ ys) × (nat_eq y x ≡ false) × P y) where
  pub lines_begin : Begins c (λ y. nat_eq y x) true
  lines_begin a f = let s = starts a f in (x, s.0, s.1, eq-eqb x x refl)

  pub rest_begins : Begins rest (λ y. nat_eq y x) false
  rest_begins b f = let w = behind b f in (w.0, w.1, w.2, w.3)

  abbrev pub section_step : Code (X ⊎ B)
  section_step = one (λ y. nat_eq y x) c rest lines_begin rest_begins

  pub rest_fits : section_step.Fits (inr rest.some.0)
  unfolding one
  rest_fits = rest.some.1

  pub step_first : (v : X ⊎ B) → section_step.Fits v → (y : ℕ) × (ys : List ℕ) × (section_step.text v ≡ y ∷ ys) × P y
  unfolding one
  step_first (inl a) f = let s = starts a f in (x, s.0, s.1, here)
  step_first (inr b) f = let w = behind b f in (w.0, w.1, w.2, w.4)

  unfoldable pub section : Code ((vs : List X) × B)
  section = repeated section_step rest.some.0 rest_fits P step_first

  pub section_first : (v : (vs : List X) × B) → section.Fits v → (y : ℕ) × (ys : List ℕ) × (section.text v ≡ y ∷ ys) × P y
  unfolding section
  section_first v f = repeated_first section_step rest.some.0 rest_fits P step_first v f

  module _ (t : X → List ℕ) (u : B → List ℕ) (one_law : (a : X) → c.Fits a → c.text a ≡ t a) (last_law : (b : B) → rest.Fits b → rest.text b ≡ u b) where
    one_spelled : (a : X) → section_step.Fits (inl a) → section_step.text (inl a) ≡ t a
    unfolding one
    one_spelled a f = one_law a f

    last_spelled : (b : B) → section_step.Fits (inr b) → section_step.text (inr b) ≡ u b
    unfolding one
    last_spelled b f = last_law b f

    pub section_spelled : (vs : List X) (b : B) → section.Fits (vs, b) → section.text (vs, b) ≡ flat_map t vs ++ u b
    unfolding section
    section_spelled vs b f = repeated_spelled section_step rest.some.0 rest_fits P step_first t u one_spelled last_spelled vs b f

-- ---- a value that one byte closes, without that byte
module _ {X : Type 0} (c : Code ((x : X) × ℕ)) (e : ℕ) (closed : (v : (x : X) × ℕ) → c.Fits v → v.1 ≡ e) where
  unfoldable pub ended : Code X
  ended = mapped (λ v. v.0) (λ x. (x, e)) c (λ v f. λ i. (v.0, sym (closed v f) i))

  pub ended_fits : (x : X) → ended.Fits x → c.Fits (x, e)
  unfolding ended mapped
  ended_fits x f = f.0

  pub fits_ended : (x : X) → c.Fits (x, e) → ended.Fits x
  unfolding ended mapped
  fits_ended x f = (f, refl)

  pub ended_text : (x : X) → ended.text x ≡ c.text (x, e)
  unfolding ended mapped
  ended_text x = refl

-- ---- lines of which each has a text
module _ {A B : Type 0} (step : Code (A ⊎ B)) (b0 : B) (fits0 : step.Fits (inr b0)) (P : ℕ → Type 0) (first : (x : A ⊎ B) → step.Fits x → (y : ℕ) × (ys : List ℕ) × (step.text x ≡ y ∷ ys) × P y) where
  pub repeated_fits : (xs : List A) (b : B) → AllByRecursion (λ a. step.Fits (inl a)) xs → step.Fits (inr b) → (repeated step b0 fits0 P first).Fits (xs, b)
  unfolding repeated sends mapped sequence both fixed repeats.rest_plan inside empty
  repeated_fits [] b a f =
      coded_fits {T = λ u. (xs : List A) × B} (repeats.any_shape step b0 fits0 P first) (repeats.sure_end step b0 fits0 P first) (repeats.repeat_layers step b0 fits0 P first) tt ([], b) ((f, refl), refl)
  repeated_fits (x ∷ xs) b a f =
      coded_fits {T = λ u. (xs : List A) × B} (repeats.any_shape step b0 fits0 P first) (repeats.sure_end step b0 fits0 P first) (repeats.repeat_layers step b0 fits0 P first) tt (x ∷ xs, b)
      ((a.0, (repeated_fits xs b a.1 f, refl)), refl)

module _ {X B : Type 0} (x : ℕ) (c : Code X) (rest : Code B) (P : ℕ → Type 0) (here : P x) (starts : (a : X) → c.Fits a → (xs : List ℕ) × (c.text a ≡ x ∷ xs)) (behind : (b : B) → rest.Fits b → (y : ℕ) × (ys : List ℕ) × (rest.text b ≡ y ∷ ys) × (nat_eq y x ≡ false) × P y) where
  pub section_fits : (vs : List X) (b : B) → AllByRecursion (λ a. c.Fits a) vs → rest.Fits b → (section x c rest P here starts behind).Fits (vs, b)
  unfolding section one
  section_fits vs b a f =
      repeated_fits (section_step x c rest P here starts behind) rest.some.0 (rest_fits x c rest P here starts behind) P (step_first x c rest P here starts behind) vs b a f

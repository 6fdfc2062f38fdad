-- A section as the grammar reads it: line by line, and what stands behind the lines.
use Rattle.std.proofs.Common.{ℕ, ◌⊎◌, Bool, true, false, nat_eq, List, [], ◌∷◌, ◌≡◌, sym, ap, ◌∙◌}
use mathlib.Core.Logic.{inl, inr}
use Rattle.ae_codes.specs.Codes.{Read, got, stops, Code}
use Rattle.ae_readers.specs.Readers.{after_read, step_read}
use Rattle.ae_readers.proofs.Combinators.{after_after, mapped_is, one_is, one_none, on_side}
use Rattle.ae_readers.proofs.RowReading.{steps_turn}
use Rattle.ae_stategrammar.specs.Sections as sections
use Rattle.ae_stategrammar.specs.Sections.{section, section_step, lines_begin, rest_begins, step_first, ended}
use Rattle.ae_statereader.specs.Lines.{AnyLine, starts}

module _ {X B : Type 0} (x : ℕ) (c : Code X) (rest : Code B) (P : ℕ → Type 0) (here : P x)
    (first : (a : X) → c.Fits a → (xs : List ℕ) × (c.text a ≡ x ∷ xs)) (behind : (b : B) → rest.Fits b → (y : ℕ) × (ys : List ℕ) × (rest.text b ≡ y ∷ ys) × (nat_eq y x ≡ false) × P y) where
  abbrev is_first : ℕ → Bool
  is_first y = nat_eq y x

  abbrev pub all_read : List ℕ → Read ((vs : List X) × B)
  all_read bytes = (section x c rest P here first behind).read bytes

  abbrev after_line : X ⊎ B → List ℕ → Read ((vs : List X) × B)
  after_line z r = step_read z (all_read r) r

  turn : (bytes : List ℕ) → all_read bytes ≡ after_read ((section_step x c rest P here first behind).read bytes) after_line
  unfolding section
  turn bytes = steps_turn (section_step x c rest P here first behind) rest.some.0 (sections.rest_fits x c rest P here first behind) P (step_first x c rest P here first behind) bytes

  step_is : (y : ℕ) (ys : List ℕ) → (section_step x c rest P here first behind).read (y ∷ ys) ≡ on_side (nat_eq y x) (c.read (y ∷ ys)) (rest.read (y ∷ ys))
  step_is y ys = one_is is_first c rest (lines_begin x c rest P here first behind) (rest_begins x c rest P here first behind) y ys

  step_none : (section_step x c rest P here first behind).read [] ≡ stops []
  step_none = one_none is_first c rest (lines_begin x c rest P here first behind) (rest_begins x c rest P here first behind)

  pub section_none : all_read [] ≡ stops []
  section_none = turn [] ∙ ap (λ r. after_read r after_line) step_none

  no_line : starts x [] ≡ true → ⊥
  no_line e = cc

  pub section_on : (n : ℕ) (bytes : List ℕ) → AnyLine n → starts x bytes ≡ true → all_read bytes ≡ after_read (c.read bytes) (λ a m. after_read (all_read m) (λ v e. got (a ∷ v.0, v.1) e))
  section_on n [] l e = absurd (no_line e)
  section_on n (y ∷ ys) l e =
      turn (y ∷ ys)
      ∙ ap (λ r. after_read r after_line) (step_is y ys ∙ ap (λ b. on_side b (c.read (y ∷ ys)) (rest.read (y ∷ ys))) e)
      ∙ after_after (c.read (y ∷ ys)) (λ a r. got (inl a) r) after_line

  pub section_off : rest.read [] ≡ stops [] → (n : ℕ) (bytes : List ℕ) → starts x bytes ≡ false → all_read bytes ≡ after_read (rest.read bytes) (λ b e. got ([], b) e)
  section_off none n [] e = section_none ∙ ap (λ r. after_read r (λ b e. got ([], b) e)) (sym none)
  section_off none n (y ∷ ys) e =
      turn (y ∷ ys)
      ∙ ap (λ r. after_read r after_line) (step_is y ys ∙ ap (λ b. on_side b (c.read (y ∷ ys)) (rest.read (y ∷ ys))) e)
      ∙ after_after (rest.read (y ∷ ys)) (λ b r. got (inr b) r) after_line

-- ---- a value that one byte closes, without that byte
pub ended_is : {X : Type 0} (c : Code ((x : X) × ℕ)) (e : ℕ) (closed : (v : (x : X) × ℕ) → c.Fits v → v.1 ≡ e) (bytes : List ℕ) → (ended c e closed).read bytes ≡ after_read (c.read bytes) (λ v rest. got v.0 rest)
unfolding ended
ended_is c e closed bytes = mapped_is (λ v. v.0) (λ x. (x, e)) c (λ v f. λ i. (v.0, sym (closed v f) i)) bytes

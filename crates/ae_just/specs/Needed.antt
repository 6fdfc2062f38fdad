-- The steps that a step rests on, and the lines that derive its equation from their assumptions.
use Rattle.std.specs.Prelude.{ℕ, ◌<◌, List, [], ◌∷◌, ◌++◌, ◌≡◌, length, slice_get, Some}
use Rattle.std.specs.List.{AllByRecursion}
use Rattle.ae_base.specs.Options.{or_else, ◌>>=◌}
use Rattle.ae_core.specs.declared.terms.Term.{Term}
use Rattle.ae_core.specs.declared.formulas.Lit.{Lit}
use Rattle.ae_core.specs.declared.problems.Signature.{Signature}
use Rattle.ae_core.specs.declared.proofs.Deriv.{Deriv}
use Rattle.ae_core.specs.declared.proofs.EqLine.{EqLine}
use Rattle.ae_rules.specs.Built.{HasFactorsWithin}
use Rattle.ae_rules.specs.Lines.{states, Stated, AllAllowed, fact_ok}
use Rattle.ae_store.specs.Parts.{IsIn}
use Rattle.ae_just.specs.declared.steps.Step.{Step}
use Rattle.ae_just.specs.Steps.{premises, fact_of, literal, assumed, tag_of}

-- the steps that the step of number id rests on: itself, and the premises of each of them
pub data RestsOn (steps : List Step) (id : ℕ) : ℕ → Type 0 where
  itself : RestsOn steps id id
  premise : (k p : ℕ) (s : Step) → RestsOn steps id k → slice_get steps k ≡ Some s → IsIn p (premises s.rule) → RestsOn steps id p

-- each number is below those after it
pub record IsRising (ks : List ℕ) : Type 0 where
  pub each : (i j a b : ℕ) → i < j → slice_get ks i ≡ Some a → slice_get ks j ≡ Some b → a < b

-- these are exactly the numbers of the steps that id rests on, rising
pub record AreNeeded (steps : List Step) (id : ℕ) (ks : List ℕ) : Type 0 where
  pub rising : IsRising ks
  pub sound : (k : ℕ) → IsIn k ks → RestsOn steps id k
  pub all : (k : ℕ) → RestsOn steps id k → IsIn k ks

-- the literals that the steps of these numbers assume, and their tags, one for each assumption in their order
abbrev pub literals : List Term → List Step → List ℕ → List Lit
literals ts steps [] = []
literals ts steps (k ∷ ks) = or_else (slice_get steps k >>= λ s. Some (assumed (literal ts s) s.rule)) [] ++ literals ts steps ks

abbrev pub tags : List Step → List ℕ → List ℕ
tags steps [] = []
tags steps (k ∷ ks) = or_else (slice_get steps k >>= λ s. Some (tag_of s.rule)) [] ++ tags steps ks

-- the tags of the assumptions that a step rests on
pub record AreTags (steps : List Step) (id : ℕ) (found : List ℕ) : Type 0 where
  pub needed : List ℕ
  pub are_needed : AreNeeded steps id needed
  pub tags_are : found ≡ tags steps needed

-- lines that derive the equation of a step from the literals that it rests on: one allowed line for each step that it rests on, in their order,
-- which states that step's equation, with factors within their limits; the last states its own
pub record Derives (sig : Signature) (ts : List Term) (steps : List Step) (id : ℕ) (d : Deriv) : Type 0 where
  pub needed : List ℕ
  pub are_needed : AreNeeded steps id needed
  pub hyps : d.hyps ≡ literals ts steps needed
  pub allowed : AllAllowed sig (fact_ok sig) d.hyps [] d.lines
  pub factors : AllByRecursion HasFactorsWithin d.lines
  pub one_each : length d.lines ≡ length needed
  pub stated : (i k : ℕ) (s : Step) → slice_get needed i ≡ Some k → slice_get steps k ≡ Some s → Stated d.lines i (fact_of ts s)
  pub step : Step
  pub is : slice_get steps id ≡ Some step
  pub front : List EqLine
  pub last : EqLine
  pub lines : d.lines ≡ front ++ last ∷ []
  pub derived : states last ≡ fact_of ts step

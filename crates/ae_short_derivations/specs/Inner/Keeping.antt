-- Steps that are kept for those that a step rests on, one after the other.
use Rattle.std.specs.Prelude.{ℕ, ◌⊎◌, List, [], ◌∷◌, ◌++◌, ◌≡◌, map, length, slice_get, Some}
use Rattle.std.specs.List.{AllByRecursion}
use Rattle.ae_base.specs.Options.{or_else}
use Rattle.ae_core.specs.declared.terms.Term.{Term}
use Rattle.ae_core.specs.declared.problems.Signature.{Signature}
use Rattle.ae_rules.specs.Lines.{Fact, Stated}
use Rattle.ae_just.specs.declared.steps.Step.{Step}
use Rattle.ae_just.specs.declared.steps.Rule.{Rule}
use Rattle.ae_just.specs.declared.steps.Rule.TheVariants.{Hyp, Refl}
use Rattle.ae_just.specs.Inner.Emitting.{place}
use Rattle.ae_just.specs.Sides.{side_term}
use Rattle.ae_just.specs.Steps.{fact_of, own_line, premises, renamed_rule, AreRuleFactorsWithin, IsAllowedStep, IsStepOfNames, IsStepWithin, Fits}
use Rattle.ae_short_derivations.specs.Shortened.{SaysAs, IsAssumedBy}

-- the number of the step that was kept for a step, which has its place among those that are needed
abbrev pub place_of : List ℕ → List ℕ → ℕ → ℕ
place_of needed numbers k = or_else (slice_get numbers (place needed k)) 0

-- what the step of number p says is said by the one that was kept for it
abbrev pub IsCarried : List Term → List ℕ → List ℕ → List Step → List Step → ℕ → Type 0
IsCarried ts needed numbers earlier kept p = (f : Fact) → Stated (map (own_line ts) earlier) p f → Stated (map (own_line ts) kept) (place_of needed numbers p) f

-- the step is allowed after earlier ones, and what its premises say is said by kept ones
pub record IsKeepable (sig : Signature) (ts : List Term) (needed numbers : List ℕ) (kept : List Step) (s : Step) : Type 0 where
  pub earlier : List Step
  pub allowed : IsAllowedStep sig ts earlier s
  pub within : IsStepWithin (length ts) s
  pub built : IsStepOfNames sig ts s
  pub factors : AreRuleFactorsWithin s.rule
  pub carried : AllByRecursion (IsCarried ts needed numbers earlier kept) (premises s.rule)

-- a rule by which the step may stand behind the kept ones: the sides are the same term, or its own rule
abbrev pub MayStand : List Term → List ℕ → List ℕ → Step → Rule → Type 0
MayStand ts needed numbers s r = ((r ≡ Refl) × (side_term ts s.left ≡ side_term ts s.right)) ⊎ (r ≡ renamed_rule (place_of needed numbers) s.rule)

-- the kept step of number n says what the step says: it was there, or it is put behind the others
pub data IsKept (sig : Signature) (ts : List Term) (old new : List Step) (s : Step) (n : ℕ) : Type 0 where
  there : new ≡ old → SaysAs ts old n s → IsKept sig ts old new s n
  behind : (x : Step) → new ≡ old ++ x ∷ [] → n ≡ length old → fact_of ts x ≡ fact_of ts s → ((tag : ℕ) → x.rule ≡ Hyp tag → s.rule ≡ Hyp tag) → Fits sig ts new → IsKept sig ts old new s n

-- steps are kept for the first i of those that are needed
pub record AreKept (sig : Signature) (ts : List Term) (steps : List Step) (id : ℕ) (needed : List ℕ) (i : ℕ) (kept : List Step) (numbers : List ℕ) : Type 0 where
  pub fits : Fits sig ts kept
  pub long : length numbers ≡ i
  pub says : (j k n : ℕ) (s : Step) → slice_get needed j ≡ Some k → slice_get numbers j ≡ Some n → slice_get steps k ≡ Some s → SaysAs ts kept n s
  pub assumes : (k tag : ℕ) (s : Step) → slice_get kept k ≡ Some s → s.rule ≡ Hyp tag → IsAssumedBy ts steps id s tag

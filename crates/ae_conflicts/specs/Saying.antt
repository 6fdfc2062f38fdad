-- Assumed literals by their places, and what steps say that rest on them.
use Rattle.std.specs.Prelude.{ℕ, suc, List, [], ◌∷◌, ◌≡◌, map, length, slice_get, Some}
use Rattle.ae_core.specs.declared.terms.Term.{Term}
use Rattle.ae_core.specs.declared.formulas.Lit.{Lit}
use Rattle.ae_core.specs.declared.proofs.EqLine.{EqLine}
use Rattle.ae_rules.specs.Lines.{Fact, equal, Stated}
use Rattle.ae_just.specs.declared.steps.Step.{Step}
use Rattle.ae_just.specs.declared.steps.Rule.TheVariants.{Hyp}
use Rattle.ae_just.specs.Steps.{fact_of, literal}
use Rattle.ae_just.specs.Needed.{RestsOn}
use Rattle.ae_pmap.specs.Pairs.{found}
use Rattle.ae_theory.specs.Tagged.{Tagged}
use Rattle.ae_conflicts.specs.declared.assumed.Assumed.{Assumed}

-- ---- assumed literals
-- with their tags, in the order of their places
abbrev pub tagged : List (ℕ × Assumed) → List Tagged
tagged held = map (λ p. record { lit = (p.1).lit; tag = (p.1).tag }) held

-- this literal was assumed at the place, under this tag
pub record IsAssumedAt (held : List (ℕ × Assumed)) (place : ℕ) (lit : Lit) (tag : ℕ) : Type 0 where
  pub entry : Assumed
  pub at : found held place ≡ Some entry
  pub lit_is : entry.lit ≡ lit
  pub tag_is : entry.tag ≡ tag

-- what was assumed before is assumed after
pub record AreKept (before after : List (ℕ × Assumed)) : Type 0 where
  pub each : (place : ℕ) (entry : Assumed) → found before place ≡ Some entry → found after place ≡ Some entry

-- ---- steps
-- each literal that the step of number id rests on was assumed, under the tag that the steps have for it
pub record RestsOnAssumed (ts : List Term) (steps : List Step) (held : List (ℕ × Assumed)) (id : ℕ) : Type 0 where
  pub each : (k tag : ℕ) (s : Step) → RestsOn steps id k → slice_get steps k ≡ Some s → s.rule ≡ Hyp tag → (place : ℕ) × IsAssumedAt held place (literal ts s) tag

-- the step of number id says that two terms are equal, and rests on assumed literals alone
pub record SaysEqual (ts : List Term) (steps : List Step) (held : List (ℕ × Assumed)) (id : ℕ) (left right : Term) : Type 0 where
  pub step : Step
  pub is : slice_get steps id ≡ Some step
  pub states : fact_of ts step ≡ equal left right
  pub rests : RestsOnAssumed ts steps held id

-- the steps of these numbers say so of the terms of two lists, one by one
abbrev pub SayEqual : List Term → List Step → List (ℕ × Assumed) → List ℕ → List Term → List Term → Type 0
SayEqual ts steps held [] [] [] = Unit {0}
SayEqual ts steps held (k ∷ ks) (u ∷ us) (v ∷ vs) = SaysEqual ts steps held k u v × SayEqual ts steps held ks us vs
SayEqual ts steps held _ _ _ = ⊥

-- ---- derivations
-- the last line states the fact
pub record EndsWith (lines : List EqLine) (f : Fact) : Type 0 where
  pub last : ℕ
  pub long : length lines ≡ suc last
  pub is : Stated lines last f

-- The forms of names, each in its place.
use Rattle.std.specs.Prelude.{ℕ, suc, ◌≤◌, ◌≡◌, List, length, slice_get, Some}
use Rattle.ae_core.specs.declared.terms.Term.{Term}
use Rattle.ae_rules.specs.Linear.{Linear, form}
use Rattle.ae_store.specs.Terms.{named}
use Rattle.ae_constants.specs.declared.forms.ExactForm.{ExactForm}
use Rattle.ae_constants.specs.Forms.{meaning, IsExact}

-- a name's term, with its linear form
abbrev pub with_form : List Term → ℕ → Term × Linear
with_form ts a = (named ts a, form (named ts a))

-- the first names have these forms, over names up to themselves
pub record AreForms (ts : List Term) (fs : List ExactForm) : Type 0 where
  pub within : length fs ≤ length ts
  pub each : (n : ℕ) (f : ExactForm) → slice_get fs n ≡ Some f → IsExact ts (suc n) (form (named ts n)) (meaning f)

-- Exact linear forms over names, and when one is the linear form of a term.
use Rattle.std.specs.Prelude.{ℕ, ◌<◌, List, map}
use Rattle.std.specs.List.{AllByRecursion}
use Rattle.ae_math.specs.Fractions.{ℚ}
use Rattle.ae_math.specs.Forms.{Form}
use Rattle.ae_core.specs.declared.terms.Term.{Term}
use Rattle.ae_rules.specs.Linear.{Linear, IsSame}
use Rattle.ae_journal.specs.Values.{IsSettled}
use Rattle.ae_naturals.specs.Fractions.{value_of}
use Rattle.ae_store.specs.Terms.{named}
use Rattle.ae_constants.specs.declared.forms.Multiple.{Multiple}
use Rattle.ae_constants.specs.declared.forms.ExactForm.{ExactForm}

abbrev pub multiple : Multiple → ℕ × ℚ
multiple m = (m.name, value_of m.factor)

abbrev pub multiples : List Multiple → List (ℕ × ℚ)
multiples ms = map multiple ms

-- the sum of the multiples of names, and the constant
abbrev pub meaning : ExactForm → Form ℕ
meaning f = record { parts = multiples f.parts.items; constant = value_of f.constant }

-- the same over the terms of the names
abbrev pub over_terms : List Term → Form ℕ → Linear
over_terms ts f = record { parts = map (λ p. (named ts p.0, p.1)) f.parts; constant = f.constant }

-- over the terms of the names it is the linear form g; the names rise, are below a number, and none has the factor 0
pub record IsExact (ts : List Term) (below : ℕ) (g : Linear) (f : Form ℕ) : Type 0 where
  pub settled : IsSettled f.parts
  pub within : AllByRecursion (λ p. p.0 < below) f.parts
  pub means : IsSame (over_terms ts f) g

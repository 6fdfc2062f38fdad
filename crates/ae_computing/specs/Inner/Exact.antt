-- The linear forms that the program computes, read as those of the calculus.
use Rattle.std.specs.Prelude.{Bool, List, map}
use Rattle.ae_math.specs.Fractions.{ℚ, ◌*ℚ◌}
use Rattle.ae_math.specs.Forms.{is_zero, factor_in}
use Rattle.ae_core.specs.Decided.{Term_discrete}
use Rattle.ae_core.specs.declared.terms.Term.{Term}
use Rattle.ae_rules.specs.Linear.{Linear, form}
use Rattle.ae_naturals.specs.Fractions.{value_of}
use Rattle.ae_computing.specs.declared.forms.Multiple.{Multiple}
use Rattle.ae_computing.specs.declared.forms.ExactForm.{ExactForm}

abbrev pub multiple : Multiple → Term × ℚ
multiple m = (m.term.now, value_of m.factor)

abbrev pub multiples : List Multiple → List (Term × ℚ)
multiples ms = map multiple ms

abbrev pub meaning : ExactForm → Linear
meaning f = record { parts = multiples f.parts.items; constant = value_of f.constant }

abbrev pub scaled : ℚ → List (Term × ℚ) → List (Term × ℚ)
scaled x ps = map (λ p. (p.0, x *ℚ p.1)) ps

-- a term with its form
abbrev pub with_form : Term → Term × Linear
with_form t = (t, form t)

-- the factor of a multiple's term is 0
abbrev pub is_nought_in : List Multiple → Multiple → Bool
is_nought_in ms m = is_zero (factor_in Term_discrete (multiples ms) m.term.now)

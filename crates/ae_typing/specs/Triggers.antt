-- What is asked of triggers.
use Rattle.std.specs.Prelude.{ℕ, ◌&&◌, not, List, [], ◌∷◌}
use Rattle.ae_syntax.specs.declared.spans.Span.{Span}
use Rattle.ae_elab.specs.declared.faults.TypeFault.TheVariants as fault
use Rattle.ae_elab.specs.Conditions.{Condition, test}
use Rattle.ae_elab.specs.Formulas.{covering}
use Rattle.ae_elab.specs.Trees.{Tree, Trees, has_choice, is_application}

-- a term of a trigger
abbrev pub trigger_term : Span → Tree → List Condition
trigger_term place t = test (is_application t && not (has_choice t)) (fault.BadTrigger place.from place.to) ∷ []

-- a trigger's terms have these variables
abbrev pub trigger_covers : List ℕ → Span → Trees → List Condition
trigger_covers xs place us = covering xs us place ∷ []

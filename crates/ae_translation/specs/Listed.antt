-- The cases of one term, each as a list of it.
use Rattle.std.specs.Prelude.{List, [], ◌∷◌}
use Rattle.ae_core.specs.declared.terms.Term.{Term}
use Rattle.ae_elab.specs.Elaboration.{Cases, ◌|>◌, leaf}

abbrev pub listed : Cases Term → Cases (List Term)
listed c = c |> λ t. leaf (t ∷ [])

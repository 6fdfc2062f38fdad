-- A test of the values of applications.
use Rattle.std.specs.Prelude.{Bool, false, not, ◌&&◌, ◌||◌}
use Rattle.std.specs.List.{list_all}
use Rattle.ae_base.specs.Decided.{decided}
use Rattle.ae_base.specs.Options.{known}
use Rattle.ae_core.specs.Decided.{Head_discrete}
use Rattle.ae_core.specs.Sorts.{sort_of, same_sorts}
use Rattle.ae_core.specs.declared.problems.Signature.{Signature}
use Rattle.ae_core.specs.declared.terms.Term.{Term, Term-F, out-Term}
use Rattle.ae_core.specs.declared.terms.Term.TheOpen as layer
use Rattle.ae_journal.specs.declared.systems.System.{System}
use Rattle.ae_decide.specs.Values.{are_alike, all_alike}

-- one head applied to arguments of the same values
abbrev pub apply_alike_by : System → Term-F Term → Term-F Term → Bool
apply_alike_by y (layer.Apply h ss us) (layer.Apply g os ws) = decided (Head_discrete h g) && same_sorts ss os && all_alike y us ws
apply_alike_by y _ _ = false

abbrev pub apply_alike : System → Term → Term → Bool
apply_alike y t u = apply_alike_by y (out-Term t) (out-Term u)

-- two such terms of a sort have the same value
abbrev pub agree : Signature → System → Term → Term → Bool
agree sig y t u = not (apply_alike y t u && known (sort_of sig t)) || are_alike y t u

abbrev pub all_agree : Signature → System → Bool
all_agree sig y = list_all (λ t. list_all (agree sig y t) y.names) y.names

-- A test of the terms of a system.
use Rattle.std.specs.Prelude.{Bool, true, not, ◌&&◌, List, [], ◌∷◌, length, Some, None}
use Rattle.std.specs.List.{list_all, list_any}
use Rattle.ae_base.specs.Decided.{decided}
use Rattle.ae_core.specs.Decided.{Term_discrete}
use Rattle.ae_core.specs.Sorts.{sort_of, is_closed_sort, trigger_ok}
use Rattle.ae_core.specs.declared.problems.Signature.{Signature}
use Rattle.ae_core.specs.declared.terms.Sort.{Sort}
use Rattle.ae_core.specs.declared.terms.Term.{Term, Term-F, out-Term}
use Rattle.ae_core.specs.declared.terms.Term.TheOpen as layer
use Rattle.ae_journal.specs.Systems.{record_fields, field_terms}

abbrev pub stands_in : List Term → Term → Bool
stands_in ts t = list_any (λ u. decided (Term_discrete u t)) ts

-- no term stands twice
abbrev pub are_apart : List Term → Bool
are_apart [] = true
are_apart (t ∷ ts) = not (stands_in ts t) && are_apart ts

abbrev pub args_by : Term-F Term → List Term
args_by (layer.Apply h ss us) = us
args_by _ = []

abbrev pub args_of : Term → List Term
args_of t = args_by (out-Term t)

-- the fields of a term of a sort
abbrev pub fields_by : Signature → Term → Sort → List Term
fields_by sig t s = elim (record_fields sig s) [ Some ss ↦ field_terms s t (length ss) | None ↦ [] ]

abbrev pub fields_of : Signature → Term → List Term
fields_of sig t = elim (sort_of sig t) [ Some s ↦ fields_by sig t s | None ↦ [] ]

-- a name is closed, or a predicate's application, and its arguments and fields are names
abbrev pub is_entry : Signature → List Term → Term → Bool
is_entry sig names t =
    trigger_ok sig (is_closed_sort sig) [] t && list_all (stands_in names) (args_of t) && list_all (stands_in names) (fields_of sig t)

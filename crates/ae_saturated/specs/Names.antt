-- Tests of the names of a state, one by one: constructors, enumerations and integers.
use Rattle.std.specs.Prelude.{Bool, true, false, not, ◌&&◌, ◌||◌, List, [], slice_get, Option, Some, None}
use Rattle.std.specs.List.{list_all, list_any}
use Rattle.ae_base.specs.Decided.{decided}
use Rattle.ae_base.specs.Options.{◌>>=◌, only, or_else}
use Rattle.ae_core.specs.Decided.{Head_discrete}
use Rattle.ae_core.specs.Sorts.{sort_of, same_sort}
use Rattle.ae_core.specs.declared.problems.Nature.{Nature}
use Rattle.ae_core.specs.declared.problems.Nature.TheVariants.{Free, Ac, Choice}
use Rattle.ae_core.specs.declared.problems.Signature.{Signature}
use Rattle.ae_core.specs.declared.terms.Head.{Head}
use Rattle.ae_core.specs.declared.terms.Head.TheVariants as head
use Rattle.ae_core.specs.declared.terms.Sort.{Sort, Int, out-Sort}
use Rattle.ae_core.specs.declared.terms.Term.{Term, Term-F, Apply, out-Term}
use Rattle.ae_core.specs.declared.terms.Term.TheOpen as layer
use Rattle.ae_rules.specs.Instances.{choices_of}
use Rattle.ae_num.specs.declared.forms.Value.{Value, Value-F, out-Value}
use Rattle.ae_num.specs.declared.forms.Value.TheOpen as value_layer
use Rattle.ae_journal.specs.declared.systems.System.{System}
use Rattle.ae_decide.specs.Values.{value_of, are_alike}
use Rattle.ae_system_checks.proofs.WholeValues.{decide_whole}

-- ---- constructors
abbrev pub is_choice : Nature → Bool
is_choice Free = false
is_choice Ac = false
is_choice (Choice of place) = true

abbrev pub is_constructor : Signature → Head → Bool
is_constructor sig (head.Symbol n) = or_else (slice_get sig.symbols n >>= λ e. Some (is_choice e.nature)) false
is_constructor sig head.True = true
is_constructor sig head.False = true
is_constructor sig head.Void = true
is_constructor sig _ = false

-- the constructor that a term is
abbrev pub constructor_by : Signature → Term-F Term → Option Head
constructor_by sig (layer.Apply h [] []) = only (is_constructor sig h) (Some h)
constructor_by sig _ = None

abbrev pub constructor_of : Signature → Term → Option Head
constructor_of sig t = constructor_by sig (out-Term t)

abbrev pub same_if_both : Option Head → Option Head → Bool
same_if_both (Some h) (Some i) = decided (Head_discrete h i)
same_if_both _ _ = true

-- two constructors of one value are one
abbrev pub are_apart : Signature → System → Term → Term → Bool
are_apart sig y t u = same_if_both (constructor_of sig t) (constructor_of sig u) || not (are_alike y t u)

-- ---- enumerations
abbrev pub is_one_of : System → Term → Option (List Head) → Bool
is_one_of y t (Some hs) = list_any (λ h. are_alike y (Apply h [] []) t) hs
is_one_of y t None = true

abbrev pub choices_at : Signature → Option Sort → Option (List Head)
choices_at sig (Some s) = choices_of sig (out-Sort s)
choices_at sig None = None

-- a name of an enumeration has the value of a constructor
abbrev pub is_exhausted : Signature → System → Term → Bool
is_exhausted sig y t = is_one_of y t (choices_at sig (sort_of sig t))

-- ---- integers
abbrev pub is_int : Option Sort → Bool
is_int (Some s) = same_sort s Int
is_int None = false

abbrev pub is_whole_by : Value-F Value → Bool
is_whole_by (value_layer.Number f) = decided (decide_whole f)
is_whole_by _ = true

abbrev pub is_whole : Option Value → Bool
is_whole (Some v) = is_whole_by (out-Value v)
is_whole None = true

-- a name of integers has a value that no number but 1 divides
abbrev pub has_whole : Signature → System → Term → Bool
has_whole sig y t = not (is_int (sort_of sig t)) || is_whole (value_of y t)

-- ---- all of it
abbrev pub name_fits : Signature → System → Term → Bool
name_fits sig y t = list_all (are_apart sig y t) y.names && is_exhausted sig y t && has_whole sig y t

abbrev pub names_fit : Signature → System → Bool
names_fit sig y = list_all (name_fits sig y) y.names

-- A test of the values of records and of fields.
use Rattle.std.specs.Prelude.{ℕ, Bool, true, false, ◌&&◌, nat_eq, List, [], ◌∷◌, length, slice_get, Option, Some, None}
use Rattle.std.specs.List.{list_all}
use Rattle.ae_base.specs.Options.{◌>>=◌, only}
use Rattle.ae_core.specs.Sorts.{sort_of, same_sorts}
use Rattle.ae_core.specs.declared.problems.Signature.{Signature}
use Rattle.ae_core.specs.declared.terms.Head.TheVariants as head
use Rattle.ae_core.specs.declared.terms.Sort.{Sort}
use Rattle.ae_core.specs.declared.terms.Term.{Term, Term-F, out-Term}
use Rattle.ae_core.specs.declared.terms.Term.TheOpen as layer
use Rattle.ae_num.specs.declared.forms.Value.{Value, Value-F, out-Value}
use Rattle.ae_num.specs.declared.forms.Value.TheOpen as value_layer
use Rattle.ae_journal.specs.Systems.{record_fields, field_terms}
use Rattle.ae_journal.specs.declared.systems.System.{System}
use Rattle.ae_decide.specs.Values.{value_of, same_known, are_alike}

-- each value is written for the term at its place
abbrev pub are_written : System → List Term → List Value → Bool
are_written y [] [] = true
are_written y (t ∷ ts) (v ∷ vs) = same_known (value_of y t) (Some v) && are_written y ts vs
are_written y _ _ = false

abbrev pub is_record_by : System → List Term → Value-F Value → Bool
is_record_by y ts (value_layer.Fields vs) = are_written y ts vs
is_record_by y ts _ = false

-- the value of a record whose fields are these terms
abbrev pub is_record : System → List Term → Option Value → Bool
is_record y ts (Some v) = is_record_by y ts (out-Value v)
is_record y ts None = false

-- the fields of a term of a sort; none where the sort is no record's
abbrev pub fields_at : Signature → Term → Sort → Option (List Term)
fields_at sig t s = record_fields sig s >>= λ ss. Some (field_terms s t (length ss))

abbrev pub fields_of : Signature → Term → Option (List Term)
fields_of sig t = sort_of sig t >>= fields_at sig t

abbrev pub is_record_if : System → Option Value → Option (List Term) → Bool
is_record_if y v (Some ts) = is_record y ts v
is_record_if y v None = true

-- a name of a record sort has the values of its fields
abbrev pub has_fields : Signature → System → Term → Bool
has_fields sig y t = is_record_if y (value_of y t) (fields_of sig t)

-- the argument at a place of a written record of this type and these sorts
abbrev pub argument_at : ℕ → ℕ → List Sort → Term-F Term → Option Term
argument_at k place ss (layer.Apply (head.Build j) os us) = only (nat_eq j k && same_sorts os ss) (slice_get us place)
argument_at k place ss _ = None

-- what a field takes out of a written record
abbrev pub taken_by : Term-F Term → Option Term
taken_by (layer.Apply (head.Field k place) ss (w ∷ [])) = argument_at k place ss (out-Term w)
taken_by _ = None

abbrev pub taken : Term → Option Term
taken t = taken_by (out-Term t)

abbrev pub alike_if : System → Term → Option Term → Bool
alike_if y t (Some u) = are_alike y t u
alike_if y t None = true

-- a field of a written record has the value of what it takes out
abbrev pub has_taken : System → Term → Bool
has_taken y t = alike_if y t (taken t)

abbrev pub all_records : Signature → System → Bool
all_records sig y = list_all (λ t. has_fields sig y t && has_taken y t) y.names

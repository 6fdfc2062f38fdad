-- A record has the values of its fields, a field of a written record that of its argument.
use Rattle.std.specs.Prelude.{ℕ, ◌<◌, List, [], ◌∷◌, ◌≡◌, map, length, slice_get, Some}
use Rattle.std.proofs.Common.{ap, ◌∙◌, arith}
use Rattle.std.proofs.lemmas.Option.{slice_get_within}
use Rattle.ae_base.proofs.ListFacts.{value_at as there}
use Rattle.ae_core.specs.Sorts.{sort_of}
use Rattle.ae_core.specs.declared.terms.Sort.{Sort}
use Rattle.ae_core.specs.declared.terms.Term.{Term, Apply}
use Rattle.ae_core.specs.declared.terms.Head.TheVariants as head
use Rattle.ae_num.specs.declared.forms.Value.{Value}
use Rattle.ae_journal.specs.Values.{Val, fields, vals, meaning}
use Rattle.ae_journal.specs.Systems.{IsName, ValueOf, ValuesOf, value_at, record_fields, field_terms}
use Rattle.ae_journal.specs.declared.systems.System.{System}
use Rattle.ae_settled.specs.Held.{Held, system_of}
use Rattle.ae_settled.specs.Valued.{HasValue, HaveValues, AreValues}
use Rattle.ae_settled.proofs.Written.{meaning-Fields, value_of_written, written_value}

values_meant : (y : System) (ts : List Term) (vs : List Value) → HaveValues y ts vs → ValuesOf y ts (map meaning vs)
values_meant y [] [] h = tt
values_meant y [] (v ∷ vs) h = absurd h
values_meant y (t ∷ ts) [] h = absurd h
values_meant y (t ∷ ts) (v ∷ vs) h = (((h.0).name, (h.0).is, value_of_written y (h.0).name v (h.0).value), values_meant y ts vs h.1)

module _ (x : Held) (values : AreValues x.signature (system_of x)) where
  pub record_value : (n : ℕ) (t : Term) (s : Sort) (ss : List Sort) → IsName (system_of x) n t → sort_of x.signature t ≡ Some s → record_fields x.signature s ≡ Some ss
      → (vs : List Val) × (value_at (system_of x) n ≡ Some (fields (vals vs))) × ValuesOf (system_of x) (field_terms s t (length ss)) vs
  record_value n t s ss e o f =
      let l : n < length (system_of x).names = slice_get_within (system_of x).names n t e in
      let w = there x.values n (omega (arith, l, values.one_each)) in
      let h = values.records n t s ss w.0 e o w.1 f in (
        map meaning h.fields,
        value_of_written (system_of x) n w.0 w.1 ∙ ap (λ v. Some v) (ap meaning h.is ∙ meaning-Fields h.fields),
        values_meant (system_of x) (field_terms s t (length ss)) h.fields h.are,
      )

  pub written : (n : ℕ) (k place : ℕ) (ss : List Sort) (us : List Term) (u : Term) (v : Val) → IsName (system_of x) n (Apply (head.Field k place) ss (Apply (head.Build k) ss us ∷ []))
      → slice_get us place ≡ Some u → ValueOf (system_of x) u v → value_at (system_of x) n ≡ Some v
  written n k place ss us u v e at h =
      let w = written_value (system_of x) h.0 v h.2 in
      let has : HasValue (system_of x) u w.0 = record { name = h.0; is = h.1; value = w.1 } in
      value_of_written (system_of x) n w.0 (values.written n k place ss us u w.0 e at has) ∙ ap (λ v. Some v) w.2

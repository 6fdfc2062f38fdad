-- The least of the names that are the same.
use Rattle.std.specs.Prelude.{ℕ, ◌<◌, ◌≤◌, ◌⊎◌, List, ◌≡◌, nat_eq, length, slice_get, Some, IsTrue}
use Rattle.std.proofs.Common.{sym, ap, ◌∙◌, subst, arith, inl, inr}
use Rattle.std.proofs.lemmas.Bool.{cases_lt, eqb-true}
use Rattle.std.proofs.lemmas.List.{length-map, get_or_past}
use Rattle.std.proofs.lemmas.Option.{same_Some, slice_get_within, get_or_from_slice_get}
use Rattle.ae_base.specs.Options.{◌>>=◌}
use Rattle.ae_base.proofs.AllOf.{all_from_places}
use Rattle.ae_base.proofs.Options.{bind_some}
use Rattle.ae_base.proofs.ListFacts.{get_front, value_at as there}
use Rattle.ae_base.proofs.Tests.{by_either}
use Rattle.ae_core.specs.Sorts.{sort_of}
use Rattle.ae_core.specs.declared.terms.Sort.{Sort}
use Rattle.ae_core.specs.declared.terms.Term.{Term}
use Rattle.ae_core.specs.declared.problems.Signature.{Signature}
use Rattle.ae_num.specs.declared.forms.Value.{Value}
use Rattle.ae_journal.specs.Values.{Val, meaning}
use Rattle.ae_journal.specs.Systems.{Has, IsNormalValue}
use Rattle.ae_journal.specs.declared.systems.System.{System}
use Rattle.ae_decide.proofs.NormalValues.{one_written}
use Rattle.ae_store.specs.Shapes.{shapes, shape_of}
use Rattle.ae_store.specs.Stores.{Stored}
use Rattle.ae_store.specs.Terms.{IsOfSort}
use Rattle.ae_store.proofs.TermLaws.{length_terms}
use Rattle.ae_settled.specs.Valued.{AreValues}
use Rattle.ae_settled.proofs.Leaves.{normal}
use Rattle.ae_settled.proofs.Sorts.{predicate_of, predicate_unsorted}
use Rattle.ae_theory.specs.Names.{terms_in}
use Rattle.ae_sweeps.specs.Given.{rep_in}
use Rattle.ae_value_table.specs.declared.patterns.Entry.{Entry}
use Rattle.ae_value_table.specs.Table.{value_in, held, values}
use Rattle.ae_value_table.specs.Alike.{alike, alike_entries, IsLeastAlike}
use Rattle.ae_value_table.proofs.Least.{alike_itself}
use Rattle.ae_value_fitting.specs.Fitting.{system_in, held_by}
use Rattle.ae_state.specs.declared.holding.Holding.{Holding}
use Rattle.ae_state.proofs.Alikeness.{AreOne, one_by, from_known, had, alike_through, alike_sorted}
use Rattle.ae_state.proofs.Shown.{within_store}
use Rattle.ae_turns.specs.Representing.{IsTaken, AreRepresentatives, LeastNamesRepresent, RepresentativesAreLeast, RepresentativesAreNames}

-- ---- the representative in a list
module _ (o : Holding) (reps : List ℕ) (r : AreRepresentatives o reps) where
  -- the least of the names that are the same
  pub rep_least : (n : ℕ) → n < length reps → IsLeastAlike o.values n (rep_in reps n)
  rep_least n l =
      let g = there reps n l in
      subst (IsLeastAlike o.values n) (sym (get_or_from_slice_get reps n g.0 n g.1)) (r.least n g.0 g.1)

  -- or the name, where it has no value
  rep_by : (n : ℕ) → (n < length reps) ⊎ (length reps ≤ n) → IsLeastAlike o.values n (rep_in reps n) ⊎ (rep_in reps n ≡ n)
  rep_by n (inl l) = inl (rep_least n l)
  rep_by n (inr l) = inr (get_or_past reps n n l)

  rep_is : (n : ℕ) → IsLeastAlike o.values n (rep_in reps n) ⊎ (rep_in reps n ≡ n)
  rep_is n = rep_by n (cases_lt n (length reps))

  below_by : (n : ℕ) → IsLeastAlike o.values n (rep_in reps n) ⊎ (rep_in reps n ≡ n) → rep_in reps n ≤ n
  below_by n (inl x) = x.first n (alike_itself o.values n)
  below_by n (inr e) = omega (arith, e)

  own_by : (n : ℕ) → IsLeastAlike o.values n (rep_in reps n) ⊎ (rep_in reps n ≡ n) → IsLeastAlike o.values (rep_in reps n) (rep_in reps (rep_in reps n)) ⊎ (rep_in reps (rep_in reps n) ≡ rep_in reps n)
      → rep_in reps (rep_in reps n) ≡ rep_in reps n
  own_by n (inr e) y = ap (rep_in reps) e
  own_by n (inl x) (inr e) = e
  own_by n (inl x) (inl y) =
      let q = rep_in reps n in
      let down : rep_in reps q ≤ q = y.first q (alike_itself o.values q) in
      let up : q ≤ rep_in reps q = x.first (rep_in reps q) (alike_through o.values (rep_in reps q) q n y.alike_to x.alike_to) in
      omega (arith, down, up)

pub representatives_are_least : RepresentativesAreLeast
representatives_are_least o reps r =
    record { below = λ n. below_by o reps r n (rep_is o reps r n); own = λ n. own_by o reps r n (rep_is o reps r n) (rep_is o reps r (rep_in reps n)) }

pub representatives_are_names : RepresentativesAreNames
representatives_are_names o s reps t r =
    all_from_places (λ k. k < length s.nodes) reps
    (λ n k e.
    let low : k ≤ n = (r.least n k e).first n (alike_itself o.values n) in
    omega (arith, low, slice_get_within reps n k e, r.one_each, within_store o s t.fits, length_terms (shapes s.nodes), length-map s.nodes shape_of))

-- ---- a name with its entry
record IsHere (o : Holding) (sort : Sort) (v : Val) (n : ℕ) : Type 0 where
  pub entry : Entry
  pub at : slice_get (held o.values) n ≡ Some entry
  pub sort_is : entry.sort ≡ sort
  pub value : slice_get (values o.values) n ≡ Some (value_in o.values entry.pattern)
  pub means : meaning (value_in o.values entry.pattern) ≡ v

module _ (o : Holding) (s : Stored) (t : IsTaken o s) where
  abbrev y : System
  y = system_in (terms_in s) o.values

  pub valued : AreValues s.signature y
  valued =
      subst (λ (x : Signature × List Term). AreValues x.0 (system_in x.1 o.values)) (λ i. (sym ((t.fits).terms).signature i, t.all i)) ((t.fits).right).valued

  normal_at : (n : ℕ) (w : Value) → slice_get (values o.values) n ≡ Some w → IsNormalValue w
  normal_at n w e = normal (held_by s.signature s.nodes o.values) t.store valued n w e

  sort_by : (term : Term) (e : Entry) (sort : Sort) → IsOfSort o.signature term e.sort → sort_of s.signature term ≡ Some sort → e.sort ≡ sort
  sort_by term e sort (inl x) h = same_Some e.sort sort (sym x ∙ ap (λ sig. sort_of sig term) (sym ((t.fits).terms).signature) ∙ h)
  sort_by term e sort (inr x) h =
      absurd (predicate_unsorted o.signature term sort (predicate_of o.signature term x.0) (ap (λ sig. sort_of sig term) (sym ((t.fits).terms).signature) ∙ h))

  here : (sort : Sort) (v : Val) (n : ℕ) → Has s.signature y sort v n → IsHere o sort v n
  here sort v n h =
      let w = bind_some (slice_get (values o.values) n) (λ (x : Value). Some (meaning x)) v h.value in
      let l : n < length (held o.values) = omega (arith, slice_get_within (values o.values) n w.0 w.1, length-map (held o.values) (λ (x : Entry). value_in o.values x.pattern)) in
      let e = there (held o.values) n l in
      let a = had o s t.fits n e.0 h.term e.1 h.is in
      let same : value_in o.values (e.0).pattern ≡ w.0 = same_Some (value_in o.values (e.0).pattern) w.0 (sym a.value ∙ w.1) in
      record { entry = e.0; at = e.1; sort_is = sort_by h.term e.0 sort a.sort h.sort; value = a.value; means = ap meaning same ∙ same_Some (meaning w.0) v w.2 }

  -- names of one sort and one value are the same
  both : (sort : Sort) (v : Val) (m n : ℕ) → IsHere o sort v m → IsHere o sort v n → IsTrue (alike o.values m n)
  both sort v m n a b =
      from_known o.values m n
      (record {
        first = a.entry;
        second = b.entry;
        first_is = a.at;
        second_is = b.at;
        sorts = a.sort_is ∙ sym b.sort_is;
        values_are =
            one_written (value_in o.values (a.entry).pattern) (value_in o.values (b.entry).pattern) (normal_at m (value_in o.values (a.entry).pattern) a.value)
            (normal_at n (value_in o.values (b.entry).pattern) b.value) (a.means ∙ sym b.means);
      })

  pub alike_by : (sort : Sort) (v : Val) (m n : ℕ) → Has s.signature y sort v m → Has s.signature y sort v n → IsTrue (alike o.values m n)
  alike_by sort v m n h k = both sort v m n (here sort v m h) (here sort v n k)

  -- a name that is the same has the value
  has_by : (sort : Sort) (v : Val) (q n : ℕ) → Has s.signature y sort v n → IsHere o sort v n → IsTrue (alike o.values q n) → AreOne o.values (slice_get (held o.values) q) (slice_get (held o.values) n)
      → Has s.signature y sort v q
  has_by sort v q n h b same one =
      let l : q < o.values.taken = (get_front o.values.entries o.values.taken q one.first one.first_is).1 in
      let w = there (terms_in s) q (omega (arith, l, within_store o s t.fits)) in
      let a = had o s t.fits q one.first w.0 one.first_is w.1 in
      let entry : one.second ≡ b.entry = same_Some one.second b.entry (sym one.second_is ∙ b.at) in
      let value : value_in o.values (one.first).pattern ≡ value_in o.values (b.entry).pattern = one.values_are ∙ ap (λ (e : Entry). value_in o.values e.pattern) entry in
      record {
        term = w.0;
        is = w.1;
        sort = alike_sorted o s t.fits q n same w.0 h.term w.1 h.is ∙ h.sort;
        value = ap (λ x. x >>= (λ (z : Value). Some (meaning z))) a.value ∙ ap (λ (z : Value). Some (meaning z)) value ∙ ap Some b.means;
      }

  pub has_same : (sort : Sort) (v : Val) (q n : ℕ) → Has s.signature y sort v n → IsTrue (alike o.values q n) → Has s.signature y sort v q
  has_same sort v q n h same =
      by_either (nat_eq q n) (alike_entries o.values (slice_get (held o.values) q) (slice_get (held o.values) n)) same (λ e. subst (Has s.signature y sort v) (sym (eqb-true q n e)) h)
      (λ f. has_by sort v q n h (here sort v n h) same (one_by o.values (slice_get (held o.values) q) (slice_get (held o.values) n) f))

pub least_names_represent : LeastNamesRepresent
least_names_represent o s reps t r sort v n h =
    let b = here o s t sort v n h in
    let l : n < length reps = omega (arith, (get_front o.values.entries o.values.taken n b.entry b.at).1, r.one_each) in
    let x = rep_least o reps r n l in
    record {
      has = has_same o s t sort v (rep_in reps n) n h x.alike_to;
      least = λ m k. x.first m (both o s t sort v m n (here o s t sort v m k) b);
    }

-- Representatives are those of the lines.
use Rattle.std.specs.Prelude.{ℕ, ◌<◌, ◌≤◌, List, [], ◌≡◌, nat_eq, length, slice_get, Some}
use Rattle.std.proofs.Common.{sym, ap, ◌∙◌, subst, arith, inl, inr}
use Rattle.std.proofs.lemmas.Bool.{cases_lt, eqb-true}
use Rattle.std.proofs.lemmas.List.{append-nil, get_or_past}
use Rattle.std.proofs.lemmas.Option.{same_Some}
use Rattle.ae_base.specs.Options.{◌>>=◌}
use Rattle.ae_base.proofs.ListFacts.{value_at as there}
use Rattle.ae_base.proofs.Tests.{by_either}
use Rattle.ae_core.specs.declared.terms.Sort.{Sort}
use Rattle.ae_core.specs.declared.terms.Term.{Term}
use Rattle.ae_core.specs.declared.problems.Signature.{Signature}
use Rattle.ae_num.specs.declared.forms.Value.{Value, Leaf}
use Rattle.ae_journal.specs.Journals.{live}
use Rattle.ae_journal.specs.Standing.{Setting, Represents as RepresentsNow}
use Rattle.ae_journal.specs.Systems.{Has, Represents, IsPredicateName}
use Rattle.ae_journal.specs.TermValues.{IsLeast}
use Rattle.ae_journal.specs.Values.{Val, meaning}
use Rattle.ae_journal.specs.declared.lines.Line.{Line}
use Rattle.ae_journal.specs.declared.systems.System.{System}
use Rattle.ae_name_lines.specs.Closed.{AreClosed}
use Rattle.ae_name_lines.specs.InStep.{AreLineValues}
use Rattle.ae_name_lines.specs.Laws.{LeastNamesRepresent, LeastNamesRepresentNow}
use Rattle.ae_name_lines.proofs.MoreNames.{least_names_stay}
use Rattle.ae_rule_lines.specs.Lineage.{AreOfLines}
use Rattle.ae_rule_lines.specs.Changes.{KeepsLeast}
use Rattle.ae_settled.proofs.Nodes.{named_at}
use Rattle.ae_settled.proofs.Sorts.{predicate_unsorted}
use Rattle.ae_state_steps.specs.ManySteps.{IsOfSort}
use Rattle.ae_store.specs.Stores.{Stored}
use Rattle.ae_store.specs.Terms.{named}
use Rattle.ae_sweeps.specs.Given.{rep_in}
use Rattle.ae_theory.specs.Names.{IsNamedBy, terms_in}
use Rattle.ae_value_table.specs.Table.{value_in, held, values}
use Rattle.ae_value_table.specs.Alike.{alike_entries}
use Rattle.ae_value_fitting.specs.Fitting.{system_in}
use Rattle.ae_state.specs.declared.holding.Holding.{Holding}
use Rattle.ae_state.specs.Names.{terms_now}
use Rattle.ae_state.proofs.Alikeness.{AreOne, one_by, had, alike_sorted}
use Rattle.ae_turns.specs.Representing.{IsTaken, AreRepresentatives}
use Rattle.ae_turns.proofs.Representatives.{least_names_represent, representatives_are_least, valued}
use Rattle.ae_representatives.proofs.Taken.{as_many, seen_now, sorted_within, alike_rep}

module _ (o : Holding) (s : Stored) (t : IsTaken o s) where
  abbrev y : System
  y = system_in (terms_in s) o.values

  pub closed_names : AreClosed s.signature (terms_in s)
  closed_names = subst (λ (z : Signature × List Term). AreClosed z.0 z.1) (seen_now o s t) ((t.fits).right).closed

  pub line_values : (js : List Line) → AreLineValues o.signature (terms_now o) (values o.values) js → AreLineValues s.signature (terms_in s) (values o.values) js
  line_values js h = subst (λ (z : Signature × List Term). AreLineValues z.0 z.1 (values o.values) js) (seen_now o s t) h

  -- a name of a sort has a value
  has_value : (sort : Sort) (n : ℕ) → IsOfSort s.signature (terms_in s) sort n → (v : Val) × Has s.signature y sort v n
  has_value sort n e =
      let l = sorted_within o s t sort n e in
      let v = there (values o.values) n (omega (arith, l, (valued o s t).one_each)) in (
        meaning v.0,
        record { term = named (terms_in s) n; is = named_at (terms_in s) n l; sort = e; value = ap (λ z. z >>= (λ (u : Value). Some (meaning u))) v.1 },
      )

  -- what was a representative by the first lines is one also where a journal has more names
  pub keeps_least : (x : Setting) (js : List Line) → IsNamedBy x s js → KeepsLeast s.signature (terms_in s) x.names (live js)
  keeps_least x js by before after n r e h =
      subst (λ (ts : List Term). IsLeast s.signature ts before n r) (sym by.names) (least_names_stay s.signature (terms_in s) by.more before n r closed_names h)

  module _ (reps : List ℕ) (r : AreRepresentatives o reps) where
    -- ---- an application of a predicate is its own representative
    value_own : (n : ℕ) → n < length (terms_in s) → IsPredicateName s.signature (named (terms_in s) n) → slice_get (values o.values) n ≡ Some (Leaf n)
    value_own n l p = (valued o s t).predicates n (named (terms_in s) n) (named_at (terms_in s) n l) p

    own_by : (q n : ℕ) → q < length (terms_in s) → n < length (terms_in s) → IsPredicateName s.signature (named (terms_in s) q) → IsPredicateName s.signature (named (terms_in s) n)
        → AreOne o.values (slice_get (held o.values) q) (slice_get (held o.values) n) → q ≡ n
    own_by q n k l p h one =
        let a = (had o s t.fits q one.first (named (terms_in s) q) one.first_is (named_at (terms_in s) q k)).value in
        let b = (had o s t.fits n one.second (named (terms_in s) n) one.second_is (named_at (terms_in s) n l)).value in
        let first : value_in o.values (one.first).pattern ≡ Leaf q = same_Some (value_in o.values (one.first).pattern) (Leaf q) (sym a ∙ value_own q k p) in
        let second : value_in o.values (one.second).pattern ≡ Leaf n = same_Some (value_in o.values (one.second).pattern) (Leaf n) (sym b ∙ value_own n l h) in
        let leaf : Leaf q ≡ Leaf n = sym first ∙ one.values_are ∙ second in
        cc leaf

    predicate_own : (n : ℕ) → n < length (terms_in s) → IsPredicateName s.signature (named (terms_in s) n) → rep_in reps n ≡ n
    predicate_own n l p =
        let q = rep_in reps n in
        let low : q ≤ n = (representatives_are_least o reps r).below n in
        let k : q < length (terms_in s) = omega (arith, low, l) in
        let h = alike_rep o s t reps r n in
        let one_sort = alike_sorted o s t.fits q n h (named (terms_in s) q) (named (terms_in s) n) (named_at (terms_in s) q k) (named_at (terms_in s) n l) in
        by_either (nat_eq q n) (alike_entries o.values (slice_get (held o.values) q) (slice_get (held o.values) n)) h (eqb-true q n)
        (λ f. elim (closed_names.sorted q (named (terms_in s) q) (named_at (terms_in s) q k)) [
          | inl e ↦ absurd (predicate_unsorted s.signature (named (terms_in s) n) e.0 p (sym one_sort ∙ e.1))
          | inr g ↦ own_by q n k l g p (one_by o.values (slice_get (held o.values) q) (slice_get (held o.values) n) f)
        ])

    -- ---- by the lines
    pub reps_of_lines : LeastNamesRepresent → (js : List Line) → AreLineValues s.signature (terms_in s) (values o.values) js → AreOfLines s.signature (terms_in s) js (rep_in reps)
    reps_of_lines law js lines n = elim (cases_lt n (length (terms_in s))) [
      | inr l ↦ inl (get_or_past reps n n (omega (arith, l, r.one_each, as_many o s t)))
      | inl l ↦ elim (closed_names.sorted n (named (terms_in s) n) (named_at (terms_in s) n l)) [
        | inr p ↦ inl (predicate_own n l p)
        | inl e ↦
            let v = has_value e.0 n e.1 in
            inr (js, [], sym (append-nil js), law s.signature y js e.0 v.0 n (rep_in reps n) (valued o s t).one_each lines v.1 (least_names_represent o s reps t r e.0 v.0 n v.1))
      ]
    ]

    -- a name of a sort that is its own represents itself in a journal
    pub own_represents : LeastNamesRepresentNow → (x : Setting) (js : List Line) → IsNamedBy x s js → AreLineValues s.signature (terms_in s) (values o.values) (live js) → (sort : Sort) (n : ℕ)
        → IsOfSort s.signature (terms_in s) sort n → rep_in reps n ≡ n → RepresentsNow x js n n
    own_represents law x js by lines sort n e own =
        let v = has_value sort n e in
        let represents : Represents s.signature y sort v.0 n = subst (Represents s.signature y sort v.0) own (least_names_represent o s reps t r sort v.0 n v.1) in
        let g = by.signature in
        law x y by.more js sort v.0 n n by.names (subst (λ (sg : Signature). AreClosed sg (terms_in s)) (sym g) closed_names) (valued o s t).one_each
        (subst (λ (sg : Signature). AreLineValues sg (terms_in s) (values o.values) (live js)) (sym g) lines) (subst (λ (sg : Signature). Has sg y sort v.0 n) (sym g) v.1)
        (subst (λ (sg : Signature). Represents sg y sort v.0 n) (sym g) represents)

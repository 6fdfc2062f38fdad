-- Names that are equal by plain consequence are the same where nothing is left to do, and those of predicates' applications are the same as themselves alone.
use Rattle.std.specs.Prelude.{ℕ, ◌<◌, ◌≡◌, ◌⊎◌, List, length, nat_eq, slice_get, IsTrue, Option, Some}
use Rattle.std.proofs.Common.{sym, ap, ◌∙◌, subst, arith, inl, inr}
use Rattle.std.proofs.lemmas.Bool.{eqb-true}
use Rattle.std.proofs.lemmas.List.{length-map}
use Rattle.std.proofs.lemmas.Option.{same_Some, slice_get_within}
use Rattle.ae_base.proofs.ListFacts.{get_map, value_at}
use Rattle.ae_base.proofs.Tests.{by_either}
use Rattle.ae_base.specs.Options.{◌>>=◌}
use Rattle.ae_core.specs.Signatures.{IsLawful}
use Rattle.ae_core.specs.Sorts.{sort_of}
use Rattle.ae_core.specs.declared.formulas.Formula.{Eq}
use Rattle.ae_core.specs.declared.problems.Signature.{Signature}
use Rattle.ae_core.specs.declared.terms.Sort.{Sort}
use Rattle.ae_core.specs.declared.terms.Term.{Term}
use Rattle.ae_decide.proofs.NormalValues.{one_written}
use Rattle.ae_evaluation.specs.Consequences.{Stated, MakesTrue, ConsequencesHaveOneValue}
use Rattle.ae_exact_names.specs.Exact.{assumed_of, AreOfOneSort, PlainConsequencesAreSame, PredicatesAreThemselvesAlone}
use Rattle.ae_journal.proofs.Splits.{contains_at}
use Rattle.ae_journal.specs.Systems.{IsPredicateName, ValueOf}
use Rattle.ae_journal.specs.Values.{meaning}
use Rattle.ae_journal.specs.declared.systems.System.{System}
use Rattle.ae_num.specs.declared.forms.Value.{Value, Leaf}
use Rattle.ae_rules.specs.Clauses.{is_true}
use Rattle.ae_rules.specs.Lines.{PlainConseq}
use Rattle.ae_settled.proofs.Nodes.{named_at}
use Rattle.ae_settled.proofs.Sorts.{predicate_unsorted}
use Rattle.ae_settled.specs.Valued.{AreValues}
use Rattle.ae_state.proofs.Alikeness.{AreOne, one_by, from_known, alike_sorted}
use Rattle.ae_state.specs.Complete.{AreWellSorted, IsComplete}
use Rattle.ae_state.specs.Names.{system_now}
use Rattle.ae_state.specs.declared.holding.Holding.{Holding}
use Rattle.ae_store.specs.Stores.{Stored}
use Rattle.ae_store.specs.Terms.{named}
use Rattle.ae_theory.specs.Names.{terms_in}
use Rattle.ae_turns.specs.Representing.{IsTaken}
use Rattle.ae_value_fitting.specs.Fitting.{system_in, ArePatterns}
use Rattle.ae_value_table.specs.Alike.{alike, alike_entries}
use Rattle.ae_value_table.specs.Table.{Contents, held, value_in, values}
use Rattle.ae_value_table.specs.declared.patterns.Entry.{Entry}
use Rattle.ae_value_turns.proofs.TakenNames.{patterns_are, values_are, closed_are}

module _ (o : Holding) (s : Stored) (t : IsTaken o s) where
  abbrev sig : Signature
  sig = s.signature

  abbrev ts : List Term
  ts = terms_in s

  abbrev c : Contents
  c = o.values

  all : AreValues sig (system_in ts c)
  all = values_are o s t

  many : length (values c) ≡ length (held c)
  many = length-map (held c) (λ (e : Entry). value_in c e.pattern)

  entry_of : (n : ℕ) → n < length ts → (e : Entry) × (slice_get (held c) n ≡ Some e)
  entry_of n w = value_at (held c) n (omega (arith, w, all.one_each, many))

  value_of : (n : ℕ) (e : Entry) → slice_get (held c) n ≡ Some e → slice_get (values c) n ≡ Some (value_in c e.pattern)
  value_of n e at = get_map (λ (d : Entry). value_in c d.pattern) (held c) n e at

  name_within : (n : ℕ) (e : Entry) → slice_get (held c) n ≡ Some e → n < length ts
  name_within n e at = omega (arith, slice_get_within (held c) n e at, all.one_each, many)

  -- ---- predicates
  two_leaves : (m n : ℕ) → (a b : Value) → a ≡ Leaf m → b ≡ Leaf n → a ≡ b → m ≡ n
  two_leaves m n a b e f g = let h : Leaf m ≡ Leaf n = sym e ∙ g ∙ f in cc h

  both_predicates : (m n : ℕ) (u w : Term) → slice_get ts m ≡ Some u → slice_get ts n ≡ Some w → IsPredicateName sig u → IsPredicateName sig w → AreOne c (slice_get (held c) m) (slice_get (held c) n) → m ≡ n
  both_predicates m n u w at_m at_n p q one =
      let a : value_in c one.first.pattern ≡ Leaf m = same_Some (value_in c one.first.pattern) (Leaf m) (sym (value_of m one.first one.first_is) ∙ all.predicates m u at_m p) in
      let b : value_in c one.second.pattern ≡ Leaf n = same_Some (value_in c one.second.pattern) (Leaf n) (sym (value_of n one.second one.second_is) ∙ all.predicates n w at_n q) in
      two_leaves m n (value_in c one.first.pattern) (value_in c one.second.pattern) a b one.values_are

  other_predicate : (u w : Term) → IsPredicateName sig u → sort_of sig u ≡ sort_of sig w → ((r : Sort) × (sort_of sig w ≡ Some r)) ⊎ IsPredicateName sig w → IsPredicateName sig w
  other_predicate u w p same (inl h) = absurd (predicate_unsorted sig u h.0 p (same ∙ h.1))
  other_predicate u w p same (inr h) = h

  pub is_itself : (m n : ℕ) (u : Term) → slice_get ts m ≡ Some u → IsPredicateName sig u → IsTrue (alike c m n) → m ≡ n
  is_itself m n u at p h =
      by_either (nat_eq m n) (alike_entries c (slice_get (held c) m) (slice_get (held c) n)) h (λ e. eqb-true m n e)
      (λ e. by_one (one_by c (slice_get (held c) m) (slice_get (held c) n) e))
    where
      by_one : AreOne c (slice_get (held c) m) (slice_get (held c) n) → m ≡ n
      by_one one =
          let w = value_at ts n (name_within n one.second one.second_is) in
          let same : sort_of sig u ≡ sort_of sig w.0 = alike_sorted o s t.fits m n h u w.0 at w.1 in
          both_predicates m n u w.0 at w.1 p (other_predicate u w.0 p same ((closed_are o s t).sorted n w.0 w.1)) one

  -- ---- plain consequences
  module _ (law : ConsequencesHaveOneValue) (complete : IsComplete o) (sorted : AreWellSorted o) where
    abbrev y : System
    y = system_now o

    lawful : IsLawful o.signature
    lawful = subst IsLawful t.fits.terms.signature t.store.lawful

    makes : MakesTrue o.signature y (assumed_of o)
    makes a b given ok = (complete.satisfied sorted).equal a b (contains_at (assumed_of o) given.0 (is_true (Eq a b)) given.1)

    has_value : (n : ℕ) (e : Entry) → n < length ts → slice_get (held c) n ≡ Some e → ValueOf y (named ts n) (meaning (value_in c e.pattern))
    has_value n e w at = (
      n,
      ap (λ (us : List Term). slice_get us n) t.all ∙ named_at ts n w,
      ap (λ (q : Option Value). q >>= λ v. Some (meaning v)) (value_of n e at),
    )

    pub are_same : (m n : ℕ) → AreOfOneSort s m n → PlainConseq sig (Stated (assumed_of o)) (named ts m) (named ts n) → IsTrue (alike c m n)
    are_same m n one plain =
        let a = entry_of m one.left_within in
        let b = entry_of n one.right_within in
        let d : Entry = a.0 in
        let e : Entry = b.0 in
        let over : PlainConseq o.signature (Stated (assumed_of o)) (named ts m) (named ts n) =
        subst (λ (x : Signature). PlainConseq x (Stated (assumed_of o)) (named ts m) (named ts n)) t.fits.terms.signature plain in
        let means : meaning (value_in c d.pattern) ≡ meaning (value_in c e.pattern) =
        law o.signature y lawful complete.completed (assumed_of o) makes (named ts m) (named ts n) (meaning (value_in c d.pattern)) (meaning (value_in c e.pattern)) over
        (has_value m d one.left_within a.1) (has_value n e one.right_within b.1) in
        let same : value_in c d.pattern ≡ value_in c e.pattern =
        one_written (value_in c d.pattern) (value_in c e.pattern) (complete.completed.normal m (value_in c d.pattern) (value_of m d a.1)) (complete.completed.normal n (value_in c e.pattern) (value_of n e b.1)) means in
        let patterns : ArePatterns sig ts (held c) = patterns_are o s t in
        let first : d.sort ≡ one.sort = patterns.sorts m (named ts m) one.sort d (named_at ts m one.left_within) one.left a.1 in
        let second : e.sort ≡ one.sort = patterns.sorts n (named ts n) one.sort e (named_at ts n one.right_within) one.right b.1 in
        from_known c m n (record { first = d; second = e; first_is = a.1; second_is = b.1; sorts = first ∙ sym second; values_are = same })

pub plain_consequences_are_same : ConsequencesHaveOneValue → PlainConsequencesAreSame
plain_consequences_are_same law o s t complete sorted m n one plain = are_same o s t law complete sorted m n one plain

pub predicates_are_themselves_alone : PredicatesAreThemselvesAlone
predicates_are_themselves_alone o s t m n u at p h = is_itself o s t m n u at p h

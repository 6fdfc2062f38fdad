-- Names that are no records: whether they are numbers, and that the leaves of the others are their own.
use Rattle.std.specs.Prelude.{ℕ, ◌<◌, ◌≡◌, ◌≢◌, Bool, true, false, List, length, slice_get, Some, None}
use Rattle.std.proofs.Common.{sym, ap, ◌∙◌, subst, arith, inl, inr}
use Rattle.std.proofs.lemmas.List.{length-map}
use Rattle.ae_base.proofs.ListFacts.{value_at}
use Rattle.ae_base.proofs.Tests.{true_false}
use Rattle.ae_core.specs.Sorts.{sort_of, is_numeric}
use Rattle.ae_core.specs.declared.terms.Sort.{Sort}
use Rattle.ae_core.specs.declared.terms.Term.{Term}
use Rattle.ae_core.specs.declared.problems.Signature.{Signature}
use Rattle.ae_evaluation.proofs.SortFacts.{numeric_is}
use Rattle.ae_journal.specs.Systems.{record_fields}
use Rattle.ae_num.specs.declared.forms.Value as value
use Rattle.ae_settled.specs.Valued.{AreValues, IsOwnLeaf}
use Rattle.ae_solving.specs.Inner.Apart.{AreToJoin}
use Rattle.ae_state.specs.declared.holding.Holding.{Holding}
use Rattle.ae_state.proofs.Alikeness.{from_known}
use Rattle.ae_state_steps.specs.ValueSteps.{IsNumberName}
use Rattle.ae_store.specs.Stores.{Stored}
use Rattle.ae_store.specs.Terms.{named}
use Rattle.ae_store.proofs.StoreLaws.{name_term}
use Rattle.ae_strips.proofs.FieldTerms.{length_is}
use Rattle.ae_theory.specs.Names.{terms_in}
use Rattle.ae_turns.specs.Representing.{IsTaken}
use Rattle.ae_value_fitting.specs.Fitting.{system_in, ArePatterns}
use Rattle.ae_value_fitting.proofs.Lookups.{pattern_there}
use Rattle.ae_value_table.specs.Alike.{alike}
use Rattle.ae_value_table.specs.Table.{Contents, number_at, leaf_at, value_in, held, values}
use Rattle.ae_value_table.specs.declared.patterns.Entry.{Entry}
use Rattle.ae_value_table.specs.declared.patterns.Pattern.{Leaf}
use Rattle.ae_value_table.proofs.ValueLaws.{by-Leaf, same_leaves}
use Rattle.ae_value_turns.proofs.TakenNames.{each_held, one_each, patterns_are}

-- the name is of the sort, which is neither a number's nor a record's
pub record IsPlain (sig : Signature) (ts : List Term) (s : Sort) (n : ℕ) : Type 0 where
  pub within : n < length ts
  pub sorted : sort_of sig (named ts n) ≡ Some s
  pub other : is_numeric s ≡ false
  pub plain : record_fields sig s ≡ None

module _ (sig : Signature) (ts : List Term) (c : Contents) (patterns : ArePatterns sig ts (held c)) (are : AreValues sig (system_in ts c)) where
  -- a name with its entry, which is made of its own leaf
  record IsThere (s : Sort) (n : ℕ) : Type 0 where
    pub term : Term
    pub is : slice_get ts n ≡ Some term
    pub sorted : sort_of sig term ≡ Some s
    pub entry : Entry
    pub there : slice_get (held c) n ≡ Some entry
    pub pattern : entry.pattern ≡ Leaf n

  there : (s : Sort) (n : ℕ) → IsPlain sig ts s n → IsThere s n
  there s n p =
      let t = value_at ts n p.within in
      let sorted : sort_of sig t.0 ≡ Some s = sym (ap (sort_of sig) (name_term ts n t.0 t.1)) ∙ p.sorted in
      let e = value_at (held c) n (let l = p.within in omega (arith, l, are.one_each, length-map (held c) (λ (x : Entry). value_in c x.pattern))) in
      record { term = t.0; is = t.1; sorted = sorted; entry = e.0; there = e.1; pattern = patterns.others n t.0 s e.0 t.1 sorted e.1 p.other p.plain }

  leaf_value : (s : Sort) (n : ℕ) → IsThere s n → slice_get (values c) n ≡ Some (value.Leaf (leaf_at c n))
  leaf_value s n w = pattern_there c n w.entry (Leaf n) w.there w.pattern ∙ ap (λ v. Some v) (by-Leaf (number_at c) (leaf_at c) n)

  -- the leaf of such a name is its own
  pub own_leaf : (s : Sort) (n : ℕ) → IsPlain sig ts s n → IsOwnLeaf sig (system_in ts c) s (leaf_at c n)
  own_leaf s n p =
      let w = there s n p in
      let o = are.others n w.term s (value.Leaf (leaf_at c n)) w.is w.sorted (leaf_value s n w) p.other p.plain in
      subst (IsOwnLeaf sig (system_in ts c) s) (sym (same_leaves (leaf_at c n) o.leaf o.is)) o.over

  -- the leaves of two that aren't the same differ
  pub leaves_differ : (s : Sort) (m n : ℕ) → IsPlain sig ts s m → IsPlain sig ts s n → alike c m n ≡ false → leaf_at c m ≢ leaf_at c n
  leaves_differ s m n p q apart e =
      let v = there s m p in
      let w = there s n q in
      let first : value_in c v.entry.pattern ≡ value.Leaf (leaf_at c m) = ap (value_in c) v.pattern ∙ by-Leaf (number_at c) (leaf_at c) m in
      let second : value_in c w.entry.pattern ≡ value.Leaf (leaf_at c n) = ap (value_in c) w.pattern ∙ by-Leaf (number_at c) (leaf_at c) n in
      true_false
      (sym
      (from_known c m n
      (record {
        first = v.entry;
        second = w.entry;
        first_is = v.there;
        second_is = w.there;
        sorts = patterns.sorts m v.term s v.entry v.is v.sorted v.there ∙ sym (patterns.sorts n w.term s w.entry w.is w.sorted w.there);
        values_are = first ∙ ap value.Leaf e ∙ sym second;
      })) ∙ apart)

-- ---- whether names are numbers, by what is known of the first for good
module _ (o : Holding) (s : Stored) (t : IsTaken o s) (m n : ℕ) (j : AreToJoin s.signature (terms_in s) o.values m n) where
  pub known_within : m < length o.values.entries
  known_within = let l = j.left_within in omega (arith, l, one_each o s t)

  pub sort_by : (b : Bool) → ((e : Entry) → slice_get o.values.entries m ≡ Some e → b ≡ is_numeric e.sort) → b ≡ is_numeric j.sort
  sort_by b h =
      let e = value_at o.values.entries m known_within in
      let w = value_at (terms_in s) m j.left_within in
      let sorted : sort_of s.signature w.0 ≡ Some j.sort = sym (ap (sort_of s.signature) (name_term (terms_in s) m w.0 w.1)) ∙ j.left in
      let there : slice_get (held o.values) m ≡ Some e.0 = ap (λ (es : List Entry). slice_get es m) (each_held o s t) ∙ e.1 in
      h e.0 e.1 ∙ ap is_numeric ((patterns_are o s t).sorts m w.0 j.sort e.0 w.1 sorted there)

  pub nodes_within : (m < length s.nodes) × (n < length s.nodes)
  nodes_within =
      let same = length_is s.signature s.nodes t.store in
      let k = j.left_within in
      let l = j.right_within in
      (omega (arith, k, same), omega (arith, l, same))

  pub numbers_are : is_numeric j.sort ≡ true → (real : Bool) × IsNumberName s.signature (terms_in s) real m × IsNumberName s.signature (terms_in s) real n
  numbers_are h =
      elim (numeric_is j.sort h) [
        | inl e ↦ (false, j.left ∙ ap (λ x. Some x) e, j.right ∙ ap (λ x. Some x) e)
        | inr e ↦ (true, j.left ∙ ap (λ x. Some x) e, j.right ∙ ap (λ x. Some x) e)
      ]

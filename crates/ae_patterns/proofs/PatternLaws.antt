-- Patterns by the sorts of nodes.
use Rattle.std.specs.Prelude.{ℕ, zero, suc, ◌+◌, false, List, [], ◌∷◌, ◌++◌, ◌≡◌, map, length, slice_get, Option, Some, None}
use Rattle.std.proofs.Common.{refl, sym, ap, ◌∙◌, subst, arith, inl, inr}
use Rattle.std.proofs.lemmas.List.{length-map}
use Rattle.std.proofs.lemmas.Option.{same_Some, none-some}
use Rattle.ae_base.specs.Options.{◌>>=◌}
use Rattle.ae_base.proofs.Tests.{by_bool}
use Rattle.ae_core.specs.Putting.{put_sort}
use Rattle.ae_core.specs.Sorts.{is_numeric}
use Rattle.ae_core.specs.declared.terms.Sort.{Sort, Sort-F, Int, Real, Bool as BoolSort, Named, Var, Rigid, Unit as UnitSort, out-Sort}
use Rattle.ae_core.specs.declared.terms.Sort.TheOpen as layer
use Rattle.ae_core.specs.declared.terms.Sort.TheVariants.{outs-Int, outs-Real, outs-Bool, outs-Named, outs-Var, outs-Rigid, outs-Unit}
use Rattle.ae_core.specs.declared.terms.Term.{Term, Apply}
use Rattle.ae_core.specs.declared.terms.Head.TheVariants as head
use Rattle.ae_core.specs.declared.problems.Signature.{Signature}
use Rattle.ae_core.specs.declared.problems.TypeEntry.{TypeEntry}
use Rattle.ae_core.specs.declared.problems.FieldEntry.{FieldEntry}
use Rattle.ae_core.specs.declared.problems.Kind.{Kind}
use Rattle.ae_core.specs.declared.problems.Kind.TheVariants.{Abstract, Choices, Fields}
use Rattle.ae_rules.specs.Lines.{fields_from}
use Rattle.ae_journal.specs.Systems.{record_fields, fields_of, field_terms, field_terms_of}
use Rattle.ae_evaluation.proofs.SortFacts.{numeric_is, of_numeric}
use Rattle.ae_settled.proofs.Sorts.{predicate_of}
use Rattle.ae_store.specs.Terms.{IsOfSort}
use Rattle.ae_value_table.specs.declared.patterns.Pattern.{Pattern, Number, Leaf, Fields as FieldsOf}
use Rattle.ae_patterns.specs.Patterns.{IsPatternOf, of_number, of_record, of_other, of_predicate, ArePatternsOf, no_term, a_term}
use Rattle.ae_patterns.specs.Inner.Counts.{count_of, count_in}

-- ---- the number of fields of a type
pub count_here : (sig : Signature) (n : ℕ) (e : TypeEntry) (k : Kind) → slice_get sig.types n ≡ Some e → e.kind ≡ k → count_of k ≡ count_in sig n
count_here sig n e k at is = ap count_of (sym is) ∙ sym (ap (λ (o : Option TypeEntry). o >>= λ e. count_of e.kind) at)

pub count_nowhere : (sig : Signature) (n : ℕ) → slice_get sig.types n ≡ None → None ≡ count_in sig n
count_nowhere sig n at = sym (ap (λ (o : Option TypeEntry). o >>= λ e. count_of e.kind) at)

-- the sorts of the fields of a record type
pub record HasCount (sig : Signature) (n k : ℕ) (ss : List Sort) : Type 0 where
  pub sorts : List Sort
  pub fields : record_fields sig (Named n ss) ≡ Some sorts
  pub count : length sorts ≡ k

module _ (sig : Signature) (n : ℕ) (ss : List Sort) where
  fields_at : (e : TypeEntry) (k : Kind) → slice_get sig.types n ≡ Some e → e.kind ≡ k
      → record_fields sig (Named n ss) ≡ elim k as (λ _. Option (List Sort)) [ Fields fs ↦ Some (map (λ f. put_sort ss f.sort) fs) | Abstract ↦ None | Choices cs ↦ None ]
  fields_at e k at is =
      ap (fields_of sig) (outs-Named n ss)
      ∙ ap (λ (o : Option TypeEntry). o >>= λ e. elim e.kind as (λ _. Option (List Sort)) [ Fields fs ↦ Some (map (λ f. put_sort ss f.sort) fs) | Abstract ↦ None | Choices cs ↦ None ]) at
      ∙ ap (λ (k : Kind). elim k as (λ _. Option (List Sort)) [ Fields fs ↦ Some (map (λ f. put_sort ss f.sort) fs) | Abstract ↦ None | Choices cs ↦ None ]) is

  counted_by : (c : ℕ) (e : TypeEntry) (k : Kind) → slice_get sig.types n ≡ Some e → e.kind ≡ k → count_of k ≡ Some c → HasCount sig n c ss
  counted_by c e Abstract at is h = absurd (none-some c h)
  counted_by c e (Choices cs) at is h = absurd (none-some c h)
  counted_by c e (Fields fs) at is h = record {
    sorts = map (λ (f : FieldEntry). put_sort ss f.sort) fs;
    fields = fields_at e (Fields fs) at is;
    count = length-map fs (λ (f : FieldEntry). put_sort ss f.sort) ∙ same_Some (length fs) c h;
  }

  by_entry : (c : ℕ) (o : Option TypeEntry) → slice_get sig.types n ≡ o → (o >>= λ e. count_of e.kind) ≡ Some c → HasCount sig n c ss
  by_entry c None at h = absurd (none-some c h)
  by_entry c (Some e) at h = counted_by c e e.kind at refl h

  pub counted : (c : ℕ) → count_in sig n ≡ Some c → HasCount sig n c ss
  counted c h = by_entry c (slice_get sig.types n) refl h

  uncounted_by : (e : TypeEntry) (k : Kind) → slice_get sig.types n ≡ Some e → e.kind ≡ k → count_of k ≡ None → record_fields sig (Named n ss) ≡ None
  uncounted_by e Abstract at is h = fields_at e Abstract at is
  uncounted_by e (Choices cs) at is h = fields_at e (Choices cs) at is
  uncounted_by e (Fields fs) at is h = absurd (none-some (length fs) (sym h))

  without_entry : (o : Option TypeEntry) → slice_get sig.types n ≡ o → (o >>= λ e. count_of e.kind) ≡ None → record_fields sig (Named n ss) ≡ None
  without_entry None at h =
      ap (fields_of sig) (outs-Named n ss)
      ∙ ap (λ (o : Option TypeEntry). o >>= λ e. elim e.kind as (λ _. Option (List Sort)) [ Fields fs ↦ Some (map (λ f. put_sort ss f.sort) fs) | Abstract ↦ None | Choices cs ↦ None ]) at
  without_entry (Some e) at h = uncounted_by e e.kind at refl h

  pub uncounted : count_in sig n ≡ None → record_fields sig (Named n ss) ≡ None
  uncounted h = without_entry (slice_get sig.types n) refl h

-- ---- sorts of names that are neither numbers nor records
pub record IsPlain (sig : Signature) (s : Sort) : Type 0 where
  pub numeric : is_numeric s ≡ false
  pub fields : record_fields sig s ≡ None

not_numeric : (s : Sort) (l : Sort-F Sort) → out-Sort s ≡ l → (l ≡ layer.Int → ⊥) → (l ≡ layer.Real → ⊥) → is_numeric s ≡ false
not_numeric s l o i r =
    by_bool (is_numeric s) (λ t. absurd (elim (numeric_is s t) [ inl e ↦ i (sym o ∙ ap out-Sort e ∙ outs-Int) | inr e ↦ r (sym o ∙ ap out-Sort e ∙ outs-Real) ])) (λ f. f)

plain : (sig : Signature) (s : Sort) (l : Sort-F Sort) → out-Sort s ≡ l → (l ≡ layer.Int → ⊥) → (l ≡ layer.Real → ⊥) → fields_of sig l ≡ None → IsPlain sig s
plain sig s l o i r f = record { numeric = not_numeric s l o i r; fields = ap (fields_of sig) o ∙ f }

pub plain_var : (sig : Signature) (s : Sort) (i : ℕ) → s ≡ Var i → IsPlain sig s
plain_var sig s i e = plain sig s (layer.Var i) (ap out-Sort e ∙ outs-Var i) (λ z. cc z) (λ z. cc z) refl

pub plain_rigid : (sig : Signature) (s : Sort) (i : ℕ) → s ≡ Rigid i → IsPlain sig s
plain_rigid sig s i e = plain sig s (layer.Rigid i) (ap out-Sort e ∙ outs-Rigid i) (λ z. cc z) (λ z. cc z) refl

pub plain_bool : (sig : Signature) (s : Sort) → s ≡ BoolSort → IsPlain sig s
plain_bool sig s e = plain sig s layer.Bool (ap out-Sort e ∙ outs-Bool) (λ z. cc z) (λ z. cc z) refl

pub plain_unit : (sig : Signature) (s : Sort) → s ≡ UnitSort → IsPlain sig s
plain_unit sig s e = plain sig s layer.Unit (ap out-Sort e ∙ outs-Unit) (λ z. cc z) (λ z. cc z) refl

pub plain_named : (sig : Signature) (s : Sort) (n : ℕ) (ss : List Sort) → s ≡ Named n ss → count_in sig n ≡ None → IsPlain sig s
plain_named sig s n ss e c = record {
  numeric = not_numeric s (layer.Named n ss) (ap out-Sort e ∙ outs-Named n ss) (λ z. cc z) (λ z. cc z);
  fields = ap (record_fields sig) e ∙ uncounted sig n ss c;
}

-- ---- the patterns of names
module _ (sig : Signature) (ts : List Term) (n : ℕ) (t : Term) (there : slice_get ts n ≡ Some t) where
  pub leaf_pattern : (s : Sort) → IsOfSort sig t s → IsPlain sig s → IsPatternOf sig ts n (Leaf n)
  leaf_pattern s (inl h) p = of_other n (Leaf n) t s there h p.numeric p.fields refl
  leaf_pattern s (inr h) p = of_predicate n (Leaf n) t there (predicate_of sig t h.0) refl

  pub int_pattern : (s : Sort) → IsOfSort sig t s → s ≡ Int → IsPatternOf sig ts n (Number n)
  int_pattern s (inl h) e = of_number n (Number n) t s there h (of_numeric s (inl e)) refl
  int_pattern s (inr h) e = absurd (let z : ◌≡◌ {A = Sort-F Sort} layer.Int layer.Bool = sym outs-Int ∙ ap out-Sort (sym e ∙ h.1) ∙ outs-Bool in cc z)

  pub real_pattern : (s : Sort) → IsOfSort sig t s → s ≡ Real → IsPatternOf sig ts n (Number n)
  real_pattern s (inl h) e = of_number n (Number n) t s there h (of_numeric s (inr e)) refl
  real_pattern s (inr h) e = absurd (let z : ◌≡◌ {A = Sort-F Sort} layer.Real layer.Bool = sym outs-Real ∙ ap out-Sort (sym e ∙ h.1) ∙ outs-Bool in cc z)

  pub record_pattern : (s : Sort) (k count : ℕ) (ss : List Sort) (ps : List Pattern) → IsOfSort sig t s → s ≡ Named k ss → HasCount sig k count ss → ArePatternsOf sig ts (fields_from k ss t 0 count) ps
      → IsPatternOf sig ts n (FieldsOf n ps)
  record_pattern s k count ss ps (inl h) e c are =
      let o : out-Sort s ≡ layer.Named k ss = ap out-Sort e ∙ outs-Named k ss in
      let terms : fields_from k ss t 0 count ≡ field_terms s t (length c.sorts) = ap (λ m. fields_from k ss t 0 m) (sym c.count) ∙ sym (ap (λ l. field_terms_of l t (length c.sorts)) o) in
      of_record n (FieldsOf n ps) t s c.sorts ps there h (ap (record_fields sig) e ∙ c.fields) (subst (λ us. ArePatternsOf sig ts us ps) terms are) refl
  record_pattern s k count ss ps (inr h) e c are = absurd (let z : ◌≡◌ {A = Sort-F Sort} (layer.Named k ss) layer.Bool = sym (outs-Named k ss) ∙ ap out-Sort (sym e ∙ h.1) ∙ outs-Bool in cc z)

-- ---- one field more
fields_more : (k : ℕ) (ss : List Sort) (t : Term) (i count : ℕ) → fields_from k ss t i (suc count) ≡ fields_from k ss t i count ++ Apply (head.Field k (i + count)) ss (t ∷ []) ∷ []
fields_more k ss t i zero = let z : i ≡ i + 0 = omega arith in ap (λ j. Apply (head.Field k j) ss (t ∷ []) ∷ []) z
fields_more k ss t i (suc count) =
    let z : suc i + count ≡ i + suc count = omega arith in
    ap (λ us. Apply (head.Field k i) ss (t ∷ []) ∷ us) (fields_more k ss t (suc i) count ∙ ap (λ j. fields_from k ss t (suc i) count ++ Apply (head.Field k j) ss (t ∷ []) ∷ []) z)

module _ (sig : Signature) (ts : List Term) where
  patterns_push : (us : List Term) (ps : List Pattern) (n : ℕ) (t : Term) (p : Pattern) → ArePatternsOf sig ts us ps → slice_get ts n ≡ Some t → IsPatternOf sig ts n p → ArePatternsOf sig ts (us ++ t ∷ []) (ps ++ p ∷ [])
  patterns_push _ _ n t p no_term there h = a_term n t [] p [] there h no_term
  patterns_push _ _ n t p (a_term m u us q qs at is are) there h = a_term m u (us ++ t ∷ []) q (qs ++ p ∷ []) at is (patterns_push us qs n t p are there h)

  pub patterns_more : (k : ℕ) (ss : List Sort) (t : Term) (i : ℕ) (ps qs : List Pattern) (n : ℕ) (p : Pattern) → ArePatternsOf sig ts (fields_from k ss t 0 i) ps → slice_get ts n ≡ Some (Apply (head.Field k i) ss (t ∷ []))
      → IsPatternOf sig ts n p → qs ≡ ps ++ p ∷ [] → ArePatternsOf sig ts (fields_from k ss t 0 (i + 1)) qs
  patterns_more k ss t i ps qs n p are there h e =
      let next : i + 1 ≡ suc i = omega arith in
      let here : 0 + i ≡ i = omega arith in
      let terms : fields_from k ss t 0 i ++ Apply (head.Field k i) ss (t ∷ []) ∷ [] ≡ fields_from k ss t 0 (i + 1) =
      ap (λ (j : ℕ). fields_from k ss t 0 i ++ Apply (head.Field k j) ss (t ∷ []) ∷ []) (sym here) ∙ sym (fields_more k ss t 0 i) ∙ ap (fields_from k ss t 0) (sym next) in
      subst (λ us. ArePatternsOf sig ts us qs) terms
      (subst (ArePatternsOf sig ts (fields_from k ss t 0 i ++ Apply (head.Field k i) ss (t ∷ []) ∷ [])) (sym e)
      (patterns_push (fields_from k ss t 0 i) ps n (Apply (head.Field k i) ss (t ∷ [])) p are there h))

-- Patterns of two names of one sort and one value: of one kind, and so are those of their fields.
use Rattle.std.specs.Prelude.{ℕ, ◌<◌, ◌+◌, ◌≡◌, suc, Bool, true, false, List, [], ◌∷◌, map, length, slice_get, Option, Some, None}
use Rattle.std.proofs.Common.{refl, sym, ap, ◌∙◌, subst, arith, inl, inr}
use Rattle.std.proofs.lemmas.List.{length-map}
use Rattle.std.proofs.lemmas.Option.{same_Some, slice_get_within}
use Rattle.ae_base.proofs.ListFacts.{value_at, cons_head, cons_tail}
use Rattle.ae_base.proofs.Tests.{by_bool}
use Rattle.ae_core.specs.Sorts.{sort_of, is_numeric}
use Rattle.ae_core.specs.declared.terms.Head.TheVariants as head
use Rattle.ae_core.specs.declared.terms.Sort.{Sort, Named}
use Rattle.ae_core.specs.declared.terms.Term.{Term, Apply}
use Rattle.ae_core.specs.declared.problems.Signature.{Signature}
use Rattle.ae_rules.specs.Lines.{fields_from}
use Rattle.ae_num.specs.declared.forms.Value.{Value}
use Rattle.ae_num.specs.declared.forms.Value as value
use Rattle.ae_evaluation.proofs.SortFacts.{numeric_is}
use Rattle.ae_journal.specs.Systems.{record_fields, field_terms, field_terms_of}
use Rattle.ae_store.specs.Shapes.{shapes}
use Rattle.ae_store.specs.Stores.{IsStore}
use Rattle.ae_store.specs.Terms.{terms, named}
use Rattle.ae_store.specs.declared.nodes.Node.{Node}
use Rattle.ae_store.proofs.FieldLaws.{named_back}
use Rattle.ae_store.proofs.StoreLaws.{name_term}
use Rattle.ae_settled.specs.Valued.{AreValues}
use Rattle.ae_settled.proofs.Leaves.{field_sort}
use Rattle.ae_settled.proofs.Sorts.{IsRecord, is_record}
use Rattle.ae_state_steps.specs.ValueSteps.{sort_for}
use Rattle.ae_value_table.specs.declared.patterns.Pattern.{Pattern, Number, Leaf, Fields}
use Rattle.ae_value_table.specs.declared.patterns.Entry.{Entry}
use Rattle.ae_value_table.specs.Table.{Contents, number_at, leaf_at, value_in, held}
use Rattle.ae_value_table.proofs.ValueLaws.{by-Number, by-Leaf, by-Fields, number_leaf, number_fields, leaf_fields, same_numbers, same_leaves, same_parts}
use Rattle.ae_value_fitting.specs.Fitting.{system_in, held_by, HavePatterns, ArePatterns}
use Rattle.ae_equal_steps.specs.Inner.Parts.{name_of, parts_of}
use Rattle.ae_equal_steps.specs.Inner.Pairs.{AreSameNumbers, AreSameLeaves, IsOf, IsPair, ArePairs}
use Rattle.ae_equal_steps.proofs.PatternLaws.{name-Number, name-Leaf, name-Fields, parts-Fields}
use Rattle.ae_equal_steps.proofs.PatternLaws as kinds

-- the sort of a number
real_or_int : (s : Sort) → is_numeric s ≡ true → (real : Bool) × (s ≡ sort_for real)
real_or_int s h = elim (numeric_is s h) [ inl e ↦ (false, e) | inr e ↦ (true, e) ]

module _ (sig : Signature) (nodes : List Node) (c : Contents) (store : IsStore sig nodes) (patterns : ArePatterns sig (terms (shapes nodes)) (held c)) (are : AreValues sig (system_in (terms (shapes nodes)) c)) where
  abbrev ts : List Term
  ts = terms (shapes nodes)

  abbrev V : Pattern → Value
  V = value_in c

  -- ---- the kind of a pattern, by the sort of its name
  pub data IsMadeOf (s : Sort) (p : Pattern) (n : ℕ) : Type 0 where
    a_number : (real : Bool) → s ≡ sort_for real → p ≡ Number n → IsMadeOf s p n
    a_record : (ss : List Sort) (ps : List Pattern) → record_fields sig s ≡ Some ss → p ≡ Fields n ps → HavePatterns ts (held c) (field_terms s (named ts n) (length ss)) ps → IsMadeOf s p n
    a_leaf : p ≡ Leaf n → IsMadeOf s p n

  pub of_within : (s : Sort) (p : Pattern) (n : ℕ) → IsOf sig ts c s p n → n < length ts
  of_within s p n o = omega (arith, slice_get_within (held c) n o.entry o.there, are.one_each, length-map (held c) (λ (e : Entry). value_in c e.pattern))

  pub made_of : (s : Sort) (p : Pattern) (n : ℕ) → IsOf sig ts c s p n → IsMadeOf s p n
  made_of s p n o = by_bool (is_numeric s) as_number (λ f. by_fields f (record_fields sig s) refl)
    where
      term : (t : Term) × (slice_get ts n ≡ Some t)
      term = value_at ts n (of_within s p n o)

      is_term : named ts n ≡ term.0
      is_term = name_term ts n term.0 term.1

      sorted : sort_of sig term.0 ≡ Some s
      sorted = sym (ap (sort_of sig) is_term) ∙ o.sorted

      as_number : is_numeric s ≡ true → IsMadeOf s p n
      as_number t = let r = real_or_int s t in a_number r.0 r.1 (sym o.pattern ∙ patterns.numbers n term.0 s o.entry term.1 sorted o.there t)

      by_fields : is_numeric s ≡ false → (fs : Option (List Sort)) → record_fields sig s ≡ fs → IsMadeOf s p n
      by_fields f None e = a_leaf (sym o.pattern ∙ patterns.others n term.0 s o.entry term.1 sorted o.there f e)
      by_fields f (Some ss) e =
          let r = patterns.records n term.0 s ss o.entry term.1 sorted o.there e in
          a_record ss r.0 e (sym o.pattern ∙ r.1) (subst (λ (t : Term). HavePatterns ts (held c) (field_terms s t (length ss)) r.0) (sym is_term) r.2)

  -- a pattern is of its name
  pub name_is : (s : Sort) (p : Pattern) (n : ℕ) → IsOf sig ts c s p n → name_of p ≡ n
  name_is s p n o = by_made (made_of s p n o)
    where
      by_made : IsMadeOf s p n → name_of p ≡ n
      by_made (a_number real e h) = ap name_of h ∙ name-Number n
      by_made (a_record ss ps e h are) = ap name_of h ∙ name-Fields n ps
      by_made (a_leaf h) = ap name_of h ∙ name-Leaf n

  -- ---- numbers
  pub numbers_pair : (p q : Pattern) (k : ℕ) → IsPair sig ts c p q → p ≡ Number k → AreSameNumbers sig ts c k (name_of q)
  numbers_pair p q k pair is = by_left (made_of pair.sort p (name_of p) pair.left)
    where
      k_is : name_of p ≡ k
      k_is = ap name_of is ∙ name-Number k

      left_value : V p ≡ value.Number (number_at c k)
      left_value = ap V is ∙ by-Number (number_at c) (leaf_at c) k

      by_right : (real : Bool) → pair.sort ≡ sort_for real → IsMadeOf pair.sort q (name_of q) → AreSameNumbers sig ts c k (name_of q)
      by_right real e (a_number r f h) = record {
        real = real;
        entry = pair.left.entry;
        there = subst (λ (n : ℕ). slice_get (held c) n ≡ Some pair.left.entry) k_is pair.left.there;
        sort = subst (λ (n : ℕ). pair.left.entry.sort ≡ sort_for real) k_is (entry_sort real e);
        left_within = subst (λ (n : ℕ). n < length ts) k_is (of_within pair.sort p (name_of p) pair.left);
        left = subst (λ (n : ℕ). sort_of sig (named ts n) ≡ Some (sort_for real)) k_is (pair.left.sorted ∙ ap (λ (s : Sort). Some s) e);
        right_within = of_within pair.sort q (name_of q) pair.right;
        right = pair.right.sorted ∙ ap (λ (s : Sort). Some s) e;
        same = same_numbers (number_at c k) (number_at c (name_of q)) (sym left_value ∙ pair.same ∙ ap V h ∙ by-Number (number_at c) (leaf_at c) (name_of q));
      }
        where
          entry_sort : (real : Bool) → pair.sort ≡ sort_for real → pair.left.entry.sort ≡ sort_for real
          entry_sort real e =
              let n = name_of p in
              let t = value_at ts n (of_within pair.sort p n pair.left) in
              patterns.sorts n t.0 pair.sort pair.left.entry t.1 (sym (ap (sort_of sig) (name_term ts n t.0 t.1)) ∙ pair.left.sorted) pair.left.there ∙ e
      by_right real e (a_record ss qs f h fs) = absurd (number_fields (number_at c k) (map V qs) (sym left_value ∙ pair.same ∙ ap V h ∙ by-Fields (number_at c) (leaf_at c) (name_of q) qs))
      by_right real e (a_leaf h) = absurd (number_leaf (number_at c k) (leaf_at c (name_of q)) (sym left_value ∙ pair.same ∙ ap V h ∙ by-Leaf (number_at c) (leaf_at c) (name_of q)))

      by_left : IsMadeOf pair.sort p (name_of p) → AreSameNumbers sig ts c k (name_of q)
      by_left (a_number real e h) = by_right real e (made_of pair.sort q (name_of q) pair.right)
      by_left (a_record ss ps e h fs) = absurd (kinds.number_fields k (name_of p) ps (sym is ∙ h))
      by_left (a_leaf h) = absurd (kinds.number_leaf k (name_of p) (sym is ∙ h))

  -- ---- leaves
  pub leaves_pair : (p q : Pattern) (k : ℕ) → IsPair sig ts c p q → p ≡ Leaf k → AreSameLeaves sig ts c k (name_of q)
  leaves_pair p q k pair is = by_right (made_of pair.sort q (name_of q) pair.right)
    where
      k_is : name_of p ≡ k
      k_is = ap name_of is ∙ name-Leaf k

      left_value : V p ≡ value.Leaf (leaf_at c k)
      left_value = ap V is ∙ by-Leaf (number_at c) (leaf_at c) k

      by_right : IsMadeOf pair.sort q (name_of q) → AreSameLeaves sig ts c k (name_of q)
      by_right (a_leaf h) = record {
        sort = pair.sort;
        left = subst (λ (n : ℕ). sort_of sig (named ts n) ≡ Some pair.sort) k_is pair.left.sorted;
        right = pair.right.sorted;
        same = same_leaves (leaf_at c k) (leaf_at c (name_of q)) (sym left_value ∙ pair.same ∙ ap V h ∙ by-Leaf (number_at c) (leaf_at c) (name_of q));
      }
      by_right (a_number r f h) = absurd (number_leaf (number_at c (name_of q)) (leaf_at c k) (sym (sym left_value ∙ pair.same ∙ ap V h ∙ by-Number (number_at c) (leaf_at c) (name_of q))))
      by_right (a_record ss qs f h fs) = absurd (leaf_fields (leaf_at c k) (map V qs) (sym left_value ∙ pair.same ∙ ap V h ∙ by-Fields (number_at c) (leaf_at c) (name_of q) qs))

  -- ---- records
  -- the pattern of a term of this sort
  pub record IsPlaced (s : Sort) (t : Term) (p : Pattern) : Type 0 where
    pub of : IsOf sig ts c s p (name_of p)
    pub term : named ts (name_of p) ≡ t

  abbrev pub ArePlaced : List Sort → List Term → List Pattern → Type 0
  ArePlaced [] [] [] = Unit {0}
  ArePlaced (s ∷ ss) (t ∷ us) (p ∷ ps) = IsPlaced s t p × ArePlaced ss us ps
  ArePlaced _ _ _ = ⊥

  -- the patterns of fields, from the one in a place on
  fields_placed : (k : ℕ) (args : List Sort) (t : Term) (os : List Sort) → record_fields sig (Named k args) ≡ Some os → (i : ℕ) (ss : List Sort) → ((j : ℕ) → slice_get os (i + j) ≡ slice_get ss j) → (ps : List Pattern)
      → HavePatterns ts (held c) (fields_from k args t i (length ss)) ps → ArePlaced ss (fields_from k args t i (length ss)) ps
  fields_placed k args t os f i [] at [] h = tt
  fields_placed k args t os f i [] at (p ∷ ps) h = absurd h
  fields_placed k args t os f i (s ∷ ss) at [] h = absurd h
  fields_placed k args t os f i (s ∷ ss) at (p ∷ ps) h =
      let z : i + 0 ≡ i = omega arith in
      let a : slice_get os i ≡ Some s = ap (slice_get os) (sym z) ∙ at 0 in
      let u : Term = Apply (head.Field k i) args (t ∷ []) in
      let m = (h.0).name in
      let is : named ts m ≡ u = name_term ts m u (h.0).is in
      let sorted : sort_of sig u ≡ Some s = field_sort (held_by sig nodes c) store are k i args t os s f a (m, (h.0).is) in
      let of : IsOf sig ts c s p m = record { sorted = ap (sort_of sig) is ∙ sorted; entry = (h.0).entry; there = (h.0).there; pattern = (h.0).pattern } in
      let n : name_of p ≡ m = name_is s p m of in
      let w : (j : ℕ) → suc i + j ≡ i + suc j = λ j. omega arith in (
        record { of = subst (IsOf sig ts c s p) (sym n) of; term = ap (named ts) n ∙ is },
        fields_placed k args t os f (suc i) ss (λ j. ap (slice_get os) (w j) ∙ at (suc j)) ps h.1,
      )

  placed_pairs : (ss : List Sort) (us ws : List Term) (ps qs : List Pattern) → ArePlaced ss us ps → ArePlaced ss ws qs → map V ps ≡ map V qs → ArePairs sig ts c ps qs
  placed_pairs [] [] [] [] [] a b e = tt
  placed_pairs (s ∷ ss) (u ∷ us) (w ∷ ws) (p ∷ ps) (q ∷ qs) a b e = (
    record { sort = s; left = (a.0).of; right = (b.0).of; same = cons_head (V p) (V q) (map V ps) (map V qs) e },
    placed_pairs ss us ws ps qs a.1 b.1 (cons_tail (V p) (V q) (map V ps) (map V qs) e),
  )
  placed_pairs [] (u ∷ us) ws ps qs a b e = absurd a
  placed_pairs [] [] ws (p ∷ ps) qs a b e = absurd a
  placed_pairs [] [] (w ∷ ws) [] qs a b e = absurd b
  placed_pairs [] [] [] [] (q ∷ qs) a b e = absurd b
  placed_pairs (s ∷ ss) [] ws ps qs a b e = absurd a
  placed_pairs (s ∷ ss) (u ∷ us) ws [] qs a b e = absurd a
  placed_pairs (s ∷ ss) (u ∷ us) [] (p ∷ ps) qs a b e = absurd b
  placed_pairs (s ∷ ss) (u ∷ us) (w ∷ ws) (p ∷ ps) [] a b e = absurd b

  -- the records of a pair: one sort, whose fields have patterns, and these are pairs
  pub record AreRecords (k n : ℕ) (ps qs : List Pattern) : Type 0 where
    pub sort : Sort
    pub left : sort_of sig (named ts k) ≡ Some sort
    pub right : sort_of sig (named ts n) ≡ Some sort
    pub sorts : List Sort
    pub record_is : IsRecord sig sort sorts
    pub lefts : ArePlaced sorts (fields_from record_is.type record_is.sorts (named ts k) 0 (length sorts)) ps
    pub rights : ArePlaced sorts (fields_from record_is.type record_is.sorts (named ts n) 0 (length sorts)) qs
    pub pairs : ArePairs sig ts c ps qs

  pub placed : (s : Sort) (ss : List Sort) (f : record_fields sig s ≡ Some ss) (n : ℕ) (ps : List Pattern) → HavePatterns ts (held c) (field_terms s (named ts n) (length ss)) ps
      → ArePlaced ss (fields_from (is_record sig s ss f).type (is_record sig s ss f).sorts (named ts n) 0 (length ss)) ps
  placed s ss f n ps h =
      let r = is_record sig s ss f in
      let same : Named r.type r.sorts ≡ s = named_back s r.type r.sorts r.out in
      let z : (j : ℕ) → 0 + j ≡ j = λ j. omega arith in
      let fields : field_terms s (named ts n) (length ss) ≡ fields_from r.type r.sorts (named ts n) 0 (length ss) = ap (λ l. field_terms_of l (named ts n) (length ss)) r.out in
      fields_placed r.type r.sorts (named ts n) ss (ap (record_fields sig) same ∙ f) 0 ss (λ j. ap (slice_get ss) (z j)) ps (subst (λ (us : List Term). HavePatterns ts (held c) us ps) fields h)

  pub records_pair : (p q : Pattern) (k : ℕ) (ps : List Pattern) → IsPair sig ts c p q → p ≡ Fields k ps → AreRecords k (name_of q) ps (parts_of q)
  records_pair p q k ps pair is = by_left (made_of pair.sort p (name_of p) pair.left)
    where
      k_is : name_of p ≡ k
      k_is = ap name_of is ∙ name-Fields k ps

      left_value : V p ≡ value.Fields (map V ps)
      left_value = ap V is ∙ by-Fields (number_at c) (leaf_at c) k ps

      by_right : (ss : List Sort) (f : record_fields sig pair.sort ≡ Some ss) → HavePatterns ts (held c) (field_terms pair.sort (named ts k) (length ss)) ps → IsMadeOf pair.sort q (name_of q) → AreRecords k (name_of q) ps (parts_of q)
      by_right ss f h (a_record rs qs g e hs) =
          let n = name_of q in
          let parts : parts_of q ≡ qs = ap parts_of e ∙ parts-Fields n qs in
          let same : map V ps ≡ map V qs = same_parts (map V ps) (map V qs) (sym left_value ∙ pair.same ∙ ap V e ∙ by-Fields (number_at c) (leaf_at c) n qs) in
          let one : rs ≡ ss = same_Some rs ss (sym g ∙ f) in
          let others : HavePatterns ts (held c) (field_terms pair.sort (named ts n) (length ss)) qs = subst (λ (os : List Sort). HavePatterns ts (held c) (field_terms pair.sort (named ts n) (length os)) qs) one hs in
          let r = is_record sig pair.sort ss f in
          let a = placed pair.sort ss f k ps h in
          let b = placed pair.sort ss f n qs others in
          subst (AreRecords k n ps) (sym parts) (record {
            sort = pair.sort;
            left = subst (λ (m : ℕ). sort_of sig (named ts m) ≡ Some pair.sort) k_is pair.left.sorted;
            right = pair.right.sorted;
            sorts = ss;
            record_is = r;
            lefts = a;
            rights = b;
            pairs = placed_pairs ss (fields_from r.type r.sorts (named ts k) 0 (length ss)) (fields_from r.type r.sorts (named ts n) 0 (length ss)) ps qs a b same;
          })
      by_right ss f h (a_number real g e) = absurd (number_fields (number_at c (name_of q)) (map V ps) (sym (sym left_value ∙ pair.same ∙ ap V e ∙ by-Number (number_at c) (leaf_at c) (name_of q))))
      by_right ss f h (a_leaf e) = absurd (leaf_fields (leaf_at c (name_of q)) (map V ps) (sym (sym left_value ∙ pair.same ∙ ap V e ∙ by-Leaf (number_at c) (leaf_at c) (name_of q))))

      by_left : IsMadeOf pair.sort p (name_of p) → AreRecords k (name_of q) ps (parts_of q)
      by_left (a_record ss os f e h) =
          let same : os ≡ ps = sym (parts-Fields (name_of p) os) ∙ ap parts_of (sym e ∙ is) ∙ parts-Fields k ps in
          by_right ss f (subst (λ (m : ℕ). HavePatterns ts (held c) (field_terms pair.sort (named ts m) (length ss)) ps) k_is (subst (HavePatterns ts (held c) (field_terms pair.sort (named ts (name_of p)) (length ss))) same h))
          (made_of pair.sort q (name_of q) pair.right)
      by_left (a_number real e h) = absurd (kinds.number_fields (name_of p) k ps (sym h ∙ is))
      by_left (a_leaf h) = absurd (kinds.leaf_fields (name_of p) k ps (sym h ∙ is))

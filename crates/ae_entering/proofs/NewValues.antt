-- Where all names have the numbers and leaves that their terms give, the values that are made of them are those of a system.
use Rattle.std.specs.Prelude.{ℕ, zero, suc, ℤ, ◌<◌, Bool, true, false, List, [], ◌∷◌, ◌≡◌, map, length, slice_get, Some, None}
use Rattle.std.specs.List.{AllByRecursion}
use Rattle.std.proofs.Common.{refl, sym, ap, ◌∙◌, subst, arith}
use Rattle.std.proofs.lemmas.List.{length-map}
use Rattle.std.proofs.lemmas.Option.{same_Some, slice_get_within}
use Rattle.ae_base.proofs.AllOf.{all_weaker}
use Rattle.ae_base.proofs.ListFacts.{cons_head, cons_tail, get_map}
use Rattle.ae_math.specs.Fractions.{ratio}
use Rattle.ae_math.specs.Forms.{Form, number as number_form}
use Rattle.ae_core.specs.Sorts.{sort_of, is_numeric}
use Rattle.ae_core.specs.declared.terms.Sort.{Sort}
use Rattle.ae_core.specs.declared.terms.Term.{Term, Num, Apply}
use Rattle.ae_core.specs.declared.terms.Head.{Head}
use Rattle.ae_core.specs.declared.terms.Head.TheVariants as head
use Rattle.ae_core.specs.declared.problems.Signature.{Signature}
use Rattle.ae_num.specs.Forms.{meaning, SameMeaning}
use Rattle.ae_num.specs.declared.forms.Part.{Part}
use Rattle.ae_num.specs.declared.forms.Lin.{Lin}
use Rattle.ae_num.specs.declared.forms.Value.{Value}
use Rattle.ae_num.specs.declared.forms.Value as value
use Rattle.ae_rules.specs.Lines.{fields_from}
use Rattle.ae_journal.specs.Systems.{IsPredicateName, record_fields, field_terms, field_terms_of}
use Rattle.ae_journal.specs.declared.systems.System.{System}
use Rattle.ae_settled.specs.Valued.{HasValue, HaveValues, HaveForms, IsOwnNumber, IsOwnLeaf, IsNumberOver, IsLeafOver, AreFields, AreValues, linear_form, with_forms}
use Rattle.ae_settled.proofs.Nodes.{application, named_at}
use Rattle.ae_settled.proofs.Sorts.{is_record, predicate_unsorted}
use Rattle.ae_store.specs.declared.nodes.Node.{Node}
use Rattle.ae_store.specs.Shapes.{shapes}
use Rattle.ae_store.specs.Terms.{terms, named, node_sort}
use Rattle.ae_store.specs.Stores.{IsStore}
use Rattle.ae_store.proofs.StoreLaws.{name_term}
use Rattle.ae_strips.specs.Stripping.{IsFieldOf, IsWrittenWith, StripsTo, itself, of_written}
use Rattle.ae_strips.proofs.FieldTerms.{length_is, args_below, build_no_field}
use Rattle.ae_strips.proofs.FieldSorts.{field_sorted, owned, argument_sorted}
use Rattle.ae_strips.proofs.Totals.{comes, fields_together}
use Rattle.ae_value_table.specs.declared.patterns.Pattern.{Pattern}
use Rattle.ae_value_table.specs.declared.patterns.Entry.{Entry}
use Rattle.ae_value_table.specs.Table.{value_by}
use Rattle.ae_value_table.proofs.ValueLaws.{by-Number, by-Leaf, by-Fields, number_leaf, number_fields, same_numbers}
use Rattle.ae_patterns.specs.Patterns.{IsPatternOf, of_number, of_record, of_other, of_predicate, ArePatternsOf, no_term, a_term, AreEntriesOf}
use Rattle.ae_entering.specs.Firsts.{system_by, IsOwnAt, IsLeafAt, AreFirst}
use Rattle.ae_entering.proofs.PatternFacts.{number_is, leaf_is, predicate_is, record_is, one_pattern, entry_there}

module _ (sig : Signature) (nodes : List Node) (store : IsStore sig nodes) (es : List Entry) (entries : AreEntriesOf sig (terms (shapes nodes)) es) (all : length es ≡ length (terms (shapes nodes)))
    (number : ℕ → Lin) (leaf : ℕ → ℕ) where
  abbrev ts : List Term
  ts = terms (shapes nodes)

  abbrev y : System
  y = system_by ts es number leaf

  abbrev V : Pattern → Value
  V = value_by number leaf

  -- ---- the value of a name is that of its pattern
  pub valued : (n : ℕ) (t : Term) (p : Pattern) → slice_get ts n ≡ Some t → IsPatternOf sig ts n p → slice_get y.values n ≡ Some (V p)
  valued n t p at h =
      let e = entry_there sig ts store.sound.one_name es entries all n t at in
      get_map (λ (x : Entry). V x.pattern) es n e.0 e.1 ∙ ap (λ (q : Pattern). Some (V q)) (one_pattern sig ts store.sound.one_name n (e.0).pattern e.2.pattern p h)

  pub record IsMade (n : ℕ) (v : Value) : Type 0 where
    pub pattern : Pattern
    pub is : IsPatternOf sig ts n pattern
    pub value : v ≡ V pattern

  pub made : (n : ℕ) (t : Term) (v : Value) → slice_get ts n ≡ Some t → slice_get y.values n ≡ Some v → IsMade n v
  made n t v at h =
      let e = entry_there sig ts store.sound.one_name es entries all n t at in
      record { pattern = (e.0).pattern; is = e.2.pattern; value = same_Some v (V (e.0).pattern) (sym h ∙ get_map (λ (x : Entry). V x.pattern) es n e.0 e.1) }

  -- a number as a value is that of the name
  number_by : (n : ℕ) (p : Pattern) → IsPatternOf sig ts n p → (f : Lin) → V p ≡ value.Number f → number n ≡ f
  number_by _ _ (of_number n p t s at o m e) f h = same_numbers (number n) f (sym (ap V e ∙ by-Number number leaf n) ∙ h)
  number_by _ _ (of_record n p t s ss ps at o g are e) f h = absurd (number_fields f (map V ps) (sym h ∙ ap V e ∙ by-Fields number leaf n ps))
  number_by _ _ (of_other n p t s at o m g e) f h = absurd (number_leaf f (leaf n) (sym h ∙ ap V e ∙ by-Leaf number leaf n))
  number_by _ _ (of_predicate n p t at g e) f h = absurd (number_leaf f (leaf n) (sym h ∙ ap V e ∙ by-Leaf number leaf n))

  pub number_made : (n : ℕ) (t : Term) (f : Lin) → slice_get ts n ≡ Some t → slice_get y.values n ≡ Some (value.Number f) → number n ≡ f
  number_made n t f at h = let m = made n t (value.Number f) at h in number_by n m.pattern m.is f (sym m.value)

  -- the values of names of the kinds
  pub number_value : (n : ℕ) (t : Term) (s : Sort) → slice_get ts n ≡ Some t → sort_of sig t ≡ Some s → is_numeric s ≡ true → slice_get y.values n ≡ Some (value.Number (number n))
  number_value n t s at o m =
      let e = entry_there sig ts store.sound.one_name es entries all n t at in
      valued n t (e.0).pattern at e.2.pattern ∙ ap (λ (v : Value). Some v) (ap V (number_is sig ts n (e.0).pattern e.2.pattern t s at o m) ∙ by-Number number leaf n)

  pub leaf_value : (n : ℕ) (t : Term) (s : Sort) → slice_get ts n ≡ Some t → sort_of sig t ≡ Some s → is_numeric s ≡ false → record_fields sig s ≡ None → slice_get y.values n ≡ Some (value.Leaf (leaf n))
  leaf_value n t s at o m f =
      let e = entry_there sig ts store.sound.one_name es entries all n t at in
      valued n t (e.0).pattern at e.2.pattern ∙ ap (λ (v : Value). Some v) (ap V (leaf_is sig ts n (e.0).pattern e.2.pattern t s at o m f) ∙ by-Leaf number leaf n)

  pub have_values : (us : List Term) (ps : List Pattern) → ArePatternsOf sig ts us ps → HaveValues y us (map V ps)
  have_values _ _ no_term = tt
  have_values _ _ (a_term n t us p ps at h hs) = (record { name = n; is = at; value = valued n t p at h }, have_values us ps hs)

  module _ (first : AreFirst sig ts (length ts) number leaf) where
    sorted : (n : ℕ) (t : Term) (s : Sort) → slice_get ts n ≡ Some t → sort_of sig t ≡ Some s → sort_of sig (named ts n) ≡ Some s
    sorted n t s at o = ap (sort_of sig) (name_term ts n t at) ∙ o

    -- ---- names that come down to one name have one value
    same_kinds : (n u m : ℕ) (t w : Term) (s : Sort) → slice_get ts n ≡ Some t → slice_get ts u ≡ Some w → sort_of sig t ≡ Some s → sort_of sig w ≡ Some s → StripsTo ts n m → StripsTo ts u m
        → is_numeric s ≡ true → number n ≡ number u
    same_kinds n u m t w s at aw o p a b k =
        first.covered_numbers n m s (slice_get_within ts n t at) a (sorted n t s at o) k ∙ sym (first.covered_numbers u m s (slice_get_within ts u w aw) b (sorted u w s aw p) k)

    same_leaf : (n u m : ℕ) (t w : Term) (s : Sort) → slice_get ts n ≡ Some t → slice_get ts u ≡ Some w → sort_of sig t ≡ Some s → sort_of sig w ≡ Some s → StripsTo ts n m → StripsTo ts u m
        → is_numeric s ≡ false → record_fields sig s ≡ None → leaf n ≡ leaf u
    same_leaf n u m t w s at aw o p a b k f =
        first.covered_leaves n m s (slice_get_within ts n t at) a (sorted n t s at o) k f ∙ sym (first.covered_leaves u m s (slice_get_within ts u w aw) b (sorted u w s aw p) k f)

    mutual
      pub one_value : (n : ℕ) (p : Pattern) → IsPatternOf sig ts n p → (u m : ℕ) (q : Pattern) → IsPatternOf sig ts u q → (w : Term) (r : Sort) → slice_get ts u ≡ Some w → sort_of sig w ≡ Some r
          → sort_of sig (named ts n) ≡ Some r → StripsTo ts n m → StripsTo ts u m → V p ≡ V q
      one_value _ _ (of_number n p t s at o k e) u m q h w r aw ow on a b =
          let es : s ≡ r = same_Some s r (sym (sorted n t s at o) ∙ on) in
          let ow' : sort_of sig w ≡ Some s = ow ∙ ap Some (sym es) in
          ap V e ∙ by-Number number leaf n ∙ ap value.Number (same_kinds n u m t w s at aw o ow' a b k) ∙ sym (ap V (number_is sig ts u q h w s aw ow' k) ∙ by-Number number leaf u)
      one_value _ _ (of_other n p t s at o k f e) u m q h w r aw ow on a b =
          let es : s ≡ r = same_Some s r (sym (sorted n t s at o) ∙ on) in
          let ow' : sort_of sig w ≡ Some s = ow ∙ ap Some (sym es) in
          ap V e ∙ by-Leaf number leaf n ∙ ap value.Leaf (same_leaf n u m t w s at aw o ow' a b k f) ∙ sym (ap V (leaf_is sig ts u q h w s aw ow' k f) ∙ by-Leaf number leaf u)
      one_value _ _ (of_predicate n p t at g e) u m q h w r aw ow on a b =
          absurd (predicate_unsorted sig t r g (ap (sort_of sig) (sym (name_term ts n t at)) ∙ on))
      one_value _ _ (of_record n p t s ss ps at o f are e) u m q h w r aw ow on a b =
          let es : s ≡ r = same_Some s r (sym (sorted n t s at o) ∙ on) in
          let ow' : sort_of sig w ≡ Some s = ow ∙ ap Some (sym es) in
          let rec = record_is sig ts u q h w s ss aw ow' f in
          let d = is_record sig s ss f in
          let left : field_terms s t (length ss) ≡ fields_from d.type d.sorts t 0 (length ss) = ap (λ l. field_terms_of l t (length ss)) d.out in
          let right : field_terms s w (length ss) ≡ fields_from d.type d.sorts w 0 (length ss) = ap (λ l. field_terms_of l w (length ss)) d.out in
          let parts : map V ps ≡ map V rec.parts =
          one_values (field_terms s t (length ss)) ps are d.type d.sorts 0 (length ss) n t u w m left at aw a b (field_terms s w (length ss)) rec.parts rec.are right in
          ap V e ∙ by-Fields number leaf n ps ∙ ap value.Fields parts ∙ sym (ap V rec.is ∙ by-Fields number leaf u rec.parts)

      one_values : (us : List Term) (ps : List Pattern) → ArePatternsOf sig ts us ps → (k : ℕ) (ss : List Sort) (i c n : ℕ) (t : Term) (u : ℕ) (w : Term) (m : ℕ) → us ≡ fields_from k ss t i c
          → slice_get ts n ≡ Some t → slice_get ts u ≡ Some w → StripsTo ts n m → StripsTo ts u m → (ws : List Term) (qs : List Pattern) → ArePatternsOf sig ts ws qs → ws ≡ fields_from k ss w i c
          → map V ps ≡ map V qs
      one_values _ _ no_term k ss i zero n t u w m ue at aw a b _ _ no_term we = refl
      one_values _ _ no_term k ss i zero n t u w m ue at aw a b _ _ (a_term u' w' ws q qs aw' h' hs') we = absurd (let z : ◌≡◌ {A = List Term} (w' ∷ ws) [] = we in cc z)
      one_values _ _ no_term k ss i (suc c) n t u w m ue at aw a b ws qs bre we = absurd (let z : ◌≡◌ {A = List Term} [] (Apply (head.Field k i) ss (t ∷ []) ∷ fields_from k ss t (suc i) c) = ue in cc z)
      one_values _ _ (a_term n' t' us p ps at' h hs) k ss i zero n t u w m ue at aw a b ws qs bre we = absurd (let z : ◌≡◌ {A = List Term} (t' ∷ us) [] = ue in cc z)
      one_values _ _ (a_term n' t' us p ps at' h hs) k ss i (suc c) n t u w m ue at aw a b _ _ no_term we =
          absurd (let z : ◌≡◌ {A = List Term} [] (Apply (head.Field k i) ss (w ∷ []) ∷ fields_from k ss w (suc i) c) = we in cc z)
      one_values _ _ (a_term n' t' us p ps at' h hs) k ss i (suc c) n t u w m ue at aw a b _ _ (a_term u' w' ws q qs aw' h' hs') we =
          let et : t' ≡ Apply (head.Field k i) ss (t ∷ []) = cons_head t' (Apply (head.Field k i) ss (t ∷ [])) us (fields_from k ss t (suc i) c) ue in
          let ew : w' ≡ Apply (head.Field k i) ss (w ∷ []) = cons_head w' (Apply (head.Field k i) ss (w ∷ [])) ws (fields_from k ss w (suc i) c) we in
          let fn : slice_get ts n' ≡ Some (Apply (head.Field k i) ss (t ∷ [])) = at' ∙ ap Some et in
          let fu : slice_get ts u' ≡ Some (Apply (head.Field k i) ss (w ∷ [])) = aw' ∙ ap Some ew in
          let o = node_sort sig (head.Field k i) ss in
          let on : sort_of sig (Apply (head.Field k i) ss (t ∷ [])) ≡ Some o = field_sorted sig nodes store n' k i ss t fn in
          let ou : sort_of sig (Apply (head.Field k i) ss (w ∷ [])) ≡ Some o = field_sorted sig nodes store u' k i ss w fu in
          let two = fields_together sig nodes store n' u' k i ss n u m (record { owner = t; is = fn; owner_is = at }) (record { owner = w; is = fu; owner_is = aw }) a b in
          let hd : V p ≡ V q = one_value n' p h u' two.name q h' (Apply (head.Field k i) ss (w ∷ [])) o fu ou (ap (sort_of sig) (name_term ts n' (Apply (head.Field k i) ss (t ∷ [])) fn) ∙ on) two.first two.second in
          let tl : map V ps ≡ map V qs =
          one_values us ps hs k ss (suc i) c n t u w m (cons_tail t' (Apply (head.Field k i) ss (t ∷ [])) us (fields_from k ss t (suc i) c) ue) at aw a b ws qs hs' (cons_tail w' (Apply (head.Field k i) ss (w ∷ [])) ws (fields_from k ss w (suc i) c) we) in
          λ j. hd j ∷ tl j

    -- ---- the clauses
    own_number : (s : Sort) (k : ℕ) → is_numeric s ≡ true → IsOwnAt sig ts (length ts) number s k → IsOwnNumber sig y s k
    own_number s k m o =
        let at : slice_get ts k ≡ Some (named ts k) = named_at ts k o.within in
        record { term = named ts k; is = at; sort = o.sort; value = number k; value_is = number_value k (named ts k) s at o.sort m; own = o.own }

    own_leaf : (s : Sort) (m : ℕ) → is_numeric s ≡ false → record_fields sig s ≡ None → IsLeafAt sig ts (length ts) leaf s m → IsOwnLeaf sig y s m
    own_leaf s m k f o =
        let at : slice_get ts m ≡ Some (named ts m) = named_at ts m o.within in
        record { term = named ts m; is = at; sort = o.sort; own = leaf_value m (named ts m) s at o.sort k f ∙ ap (λ (l : ℕ). Some (value.Leaf l)) o.own }

    pub numbers : (n : ℕ) (t : Term) (s : Sort) (v : Value) → slice_get ts n ≡ Some t → sort_of sig t ≡ Some s → slice_get y.values n ≡ Some v → is_numeric s ≡ true → IsNumberOver sig y s v
    numbers n t s v at o h m =
        let f = first.numbers n s (slice_get_within ts n t at) (sorted n t s at o) m in
        record {
          form = number n;
          is = same_Some v (value.Number (number n)) (sym h ∙ number_value n t s at o m);
          normal = f.normal;
          over = all_weaker (λ (p : Part). IsOwnAt sig ts (length ts) number s p.key) (λ (p : Part). IsOwnNumber sig y s p.key) (λ p i. own_number s p.key m i) (number n).parts f.over;
        }

    pub others : (n : ℕ) (t : Term) (s : Sort) (v : Value) → slice_get ts n ≡ Some t → sort_of sig t ≡ Some s → slice_get y.values n ≡ Some v → is_numeric s ≡ false → record_fields sig s ≡ None → IsLeafOver sig y s v
    others n t s v at o h m f =
        record {
          leaf = leaf n;
          is = same_Some v (value.Leaf (leaf n)) (sym h ∙ leaf_value n t s at o m f);
          over = own_leaf s (leaf n) m f (first.leaves n s (slice_get_within ts n t at) (sorted n t s at o) m f);
        }

    pub records : (n : ℕ) (t : Term) (s : Sort) (ss : List Sort) (v : Value) → slice_get ts n ≡ Some t → sort_of sig t ≡ Some s → slice_get y.values n ≡ Some v → record_fields sig s ≡ Some ss
        → AreFields y (field_terms s t (length ss)) v
    records n t s ss v at o h f =
        let m = made n t v at h in
        let r = record_is sig ts n m.pattern m.is t s ss at o f in
        record { fields = map V r.parts; is = m.value ∙ ap V r.is ∙ by-Fields number leaf n r.parts; are = have_values (field_terms s t (length ss)) r.parts r.are }

    pub predicates : (n : ℕ) (t : Term) → slice_get ts n ≡ Some t → IsPredicateName sig t → slice_get y.values n ≡ Some (value.Leaf n)
    predicates n t at g =
        let e = entry_there sig ts store.sound.one_name es entries all n t at in
        let own : leaf n ≡ n = first.predicates n (slice_get_within ts n t at) (subst (IsPredicateName sig) (sym (name_term ts n t at)) g) in
        valued n t (e.0).pattern at e.2.pattern
        ∙ ap (λ (v : Value). Some v) (ap V (predicate_is sig ts n (e.0).pattern e.2.pattern t at g) ∙ by-Leaf number leaf n ∙ ap value.Leaf own)

    pub numerals : (n : ℕ) (a b : ℤ) (real : Bool) (f : Lin) → slice_get ts n ≡ Some (Num a b real) → slice_get y.values n ≡ Some (value.Number f) → SameMeaning (meaning f) (number_form (ratio a b))
    numerals n a b real f at h =
        subst (λ (l : Lin). SameMeaning (meaning l) (number_form (ratio a b))) (number_made n (Num a b real) f at h) (first.numerals n a b real (slice_get_within ts n (Num a b real) at) at)

    forms_are : (args : List ℕ) (us : List Term) (fs : List Lin) → AllByRecursion (λ a. a < length ts) args → map (named ts) args ≡ us → HaveForms y us fs → map number args ≡ fs
    forms_are [] [] [] w e h = refl
    forms_are [] [] (f ∷ fs) w e h = absurd h
    forms_are [] (u ∷ us) fs w e h = absurd (cc e)
    forms_are (a ∷ args) [] fs w e h = absurd (cc e)
    forms_are (a ∷ args) (u ∷ us) [] w e h = absurd h
    forms_are (a ∷ args) (u ∷ us) (f ∷ fs) w e h =
        let eu : named ts a ≡ u = cons_head (named ts a) u (map (named ts) args) us e in
        let same : (h.0).name ≡ a = store.sound.one_name (h.0).name a u (h.0).is (named_at ts a w.0 ∙ ap Some eu) in
        let ef : number a ≡ f = ap number (sym same) ∙ number_made (h.0).name u f (h.0).is (h.0).value in
        let es = forms_are args us fs w.1 (cons_tail (named ts a) u (map (named ts) args) us e) h.1 in
        λ i. ef i ∷ es i

    pub operations : (n : ℕ) (h : Head) (ss : List Sort) (us : List Term) (fs : List Lin) (f : Lin) (g : Form ℕ) → slice_get ts n ≡ Some (Apply h ss us) → slice_get y.values n ≡ Some (value.Number f)
        → HaveForms y us fs → linear_form h (with_forms us fs) ≡ Some g → SameMeaning (meaning f) g
    operations n h ss us fs f g at v have lin =
        let p = application sig nodes store n h ss us at in
        let args = p.node.args in
        let e : map (named ts) args ≡ us = p.shape.args in
        let ef : map number args ≡ fs = forms_are args us fs p.within e have in
        subst (λ (l : Lin). SameMeaning (meaning l) g) (number_made n (Apply h ss us) f at v)
        (first.operations n h ss args g (slice_get_within ts n (Apply h ss us) at) (args_below sig nodes store n p.node p.at) (at ∙ ap (λ (l : List Term). Some (Apply h ss l)) (sym e))
        ((λ i. linear_form h (with_forms (e i) (ef i))) ∙ lin))

    pub written : (n k place : ℕ) (ss : List Sort) (us : List Term) (u : Term) (v : Value) → slice_get ts n ≡ Some (Apply (head.Field k place) ss (Apply (head.Build k) ss us ∷ [])) → slice_get us place ≡ Some u
        → HasValue y u v → slice_get y.values n ≡ Some v
    written n k place ss us u v at arg has =
        let t = Apply (head.Field k place) ss (Apply (head.Build k) ss us ∷ []) in
        let p = application sig nodes store n (head.Field k place) ss (Apply (head.Build k) ss us ∷ []) at in
        let b = first_name p.node.args (Apply (head.Build k) ss us) p.within p.shape.args in
        let f : IsFieldOf ts n k place ss b.0 = record { owner = Apply (head.Build k) ss us; is = at; owner_is = b.1 } in
        let w : IsWrittenWith ts b.0 k place ss has.name = record { arguments = us; is = b.1; argument = u; at = arg; argument_is = has.is } in
        let inside : has.name < length ts = slice_get_within ts has.name u has.is in
        let l : length ts ≡ length nodes = length_is sig nodes store in
        let end = comes sig nodes store has.name (omega (arith, inside, l)) in
        let down : StripsTo ts n end.name = of_written n b.0 b.0 has.name end.name k place ss f (itself b.0 (Apply (head.Build k) ss us) b.1 (build_no_field k ss us)) w end.strips in
        let o = node_sort sig (head.Field k place) ss in
        let on : sort_of sig t ≡ Some o = field_sorted sig nodes store n k place ss (Apply (head.Build k) ss us) at in
        let ou : sort_of sig u ≡ Some o =
        argument_sorted sig nodes store b.0 k place ss (Apply (head.Build k) ss us) has.name (owned sig nodes store n k place ss (Apply (head.Build k) ss us) at) b.1 w in
        let mine = entry_there sig ts store.sound.one_name es entries all n t at in
        let its = made has.name u v has.is has.value in
        valued n t (mine.0).pattern at mine.2.pattern
        ∙ ap (λ (x : Value). Some x)
        (one_value n (mine.0).pattern mine.2.pattern has.name end.name its.pattern its.is u o has.is ou (ap (sort_of sig) (name_term ts n t at) ∙ on) down end.strips ∙ sym its.value)
      where
        first_name : (args : List ℕ) (r : Term) → AllByRecursion (λ a. a < length ts) args → map (named ts) args ≡ r ∷ [] → (b : ℕ) × (slice_get ts b ≡ Some r)
        first_name [] r w e = absurd (cc e)
        first_name (a ∷ args) r w e = (a, named_at ts a w.0 ∙ ap Some (cons_head (named ts a) r (map (named ts) args) [] e))

    pub are_values : AreValues sig y
    are_values = record {
      one_each = length-map es (λ (e : Entry). V e.pattern) ∙ all;
      numbers = numbers;
      records = records;
      others = others;
      predicates = predicates;
      numerals = numerals;
      operations = operations;
      written = written;
    }

-- Values of the first names that are those of a system are what their terms give, number by number and leaf by leaf.
use Rattle.std.specs.Prelude.{ℕ, zero, suc, ℤ, ◌+◌, ◌<◌, ◌≤◌, Bool, true, false, cond, List, [], ◌∷◌, ◌≡◌, map, take, length, slice_get, Some, None}
use Rattle.std.specs.List.{AllByRecursion}
use Rattle.std.proofs.Common.{refl, sym, ap, ◌∙◌, subst, arith, inl}
use Rattle.std.proofs.lemmas.List.{length-map}
use Rattle.std.proofs.lemmas.Option.{same_Some, none-some, slice_get_within}
use Rattle.ae_base.proofs.AllOf.{all_weaker}
use Rattle.ae_base.proofs.ListFacts.{value_at, get_map, get_front}
use Rattle.ae_math.specs.Fractions.{ratio}
use Rattle.ae_math.specs.Forms.{Form, number as number_form, single}
use Rattle.ae_core.specs.Sorts.{sort_of, is_numeric}
use Rattle.ae_core.specs.declared.terms.Sort.{Sort, Named, Real, Int}
use Rattle.ae_core.specs.declared.terms.Sort.TheVariants.{outs-Named}
use Rattle.ae_core.specs.declared.terms.Term.{Term, Num, Apply}
use Rattle.ae_core.specs.declared.terms.Head.{Head}
use Rattle.ae_core.specs.declared.terms.Head.TheVariants as head
use Rattle.ae_core.specs.declared.problems.Signature.{Signature}
use Rattle.ae_num.specs.Forms.{meaning, SameMeaning}
use Rattle.ae_num.specs.declared.forms.Part.{Part}
use Rattle.ae_num.specs.declared.forms.Lin.{Lin}
use Rattle.ae_num.specs.declared.forms.Value.{Value}
use Rattle.ae_num.specs.declared.forms.Value as value
use Rattle.ae_rules.specs.Lines.{fields_from}
use Rattle.ae_journal.specs.Systems.{IsPredicateName, record_fields, field_terms_of}
use Rattle.ae_journal.specs.declared.systems.System.{System}
use Rattle.ae_settled.specs.Valued.{HasValue, HaveValues, HaveForms, IsOwnNumber, IsOwnLeaf, AreValues, linear_form, with_forms}
use Rattle.ae_settled.proofs.Nodes.{named_at}
use Rattle.ae_store.specs.declared.nodes.Node.{Node}
use Rattle.ae_store.specs.Shapes.{shapes}
use Rattle.ae_store.specs.Terms.{terms, named, node_sort}
use Rattle.ae_store.specs.Stores.{IsStore}
use Rattle.ae_store.proofs.StoreLaws.{name_term}
use Rattle.ae_strips.specs.Stripping.{StripsTo, itself, of_written, of_other}
use Rattle.ae_strips.proofs.FieldTerms.{field_below, written_below}
use Rattle.ae_strips.proofs.FieldSorts.{owned}
use Rattle.ae_strips.proofs.Totals.{sort_kept}
use Rattle.ae_value_table.specs.declared.patterns.Pattern.{Pattern}
use Rattle.ae_value_table.specs.declared.patterns.Entry.{Entry}
use Rattle.ae_value_table.specs.Table.{value_by}
use Rattle.ae_value_table.proofs.ValueLaws.{by-Number, by-Leaf, by-Fields, number_leaf, number_fields, leaf_fields, same_numbers, same_leaves, same_parts}
use Rattle.ae_patterns.specs.Patterns.{IsPatternOf, of_number, of_record, of_other, of_predicate, IsEntryOf, AreEntriesOf}
use Rattle.ae_entering.specs.Firsts.{system_by, IsOwnAt, IsNumberAt, IsLeafAt, AreFirst}
use Rattle.ae_entering.proofs.PatternFacts.{number_is, leaf_is}
use Rattle.ae_entering.proofs.Sorting.{operands_of, numeral_sorted, numeral_numeric, operation_sorted}

take_there : {A : Type 0} (xs : List A) (n k : ℕ) (x : A) → k < n → slice_get xs k ≡ Some x → slice_get (take n xs) k ≡ Some x
take_there [] n k x l e = absurd (none-some x e)
take_there (y ∷ ys) zero k x l e = absurd (omega (arith, l))
take_there (y ∷ ys) (suc n) zero x l e = e
take_there (y ∷ ys) (suc n) (suc k) x l e = take_there ys n k x (omega (arith, l)) e

module _ (sig : Signature) (nodes : List Node) (store : IsStore sig nodes) (es : List Entry) (entries : AreEntriesOf sig (terms (shapes nodes)) es) (number : ℕ → Lin) (leaf : ℕ → ℕ) where
  abbrev ts : List Term
  ts = terms (shapes nodes)

  abbrev y : System
  y = system_by (take (length es) ts) es number leaf

  abbrev V : Pattern → Value
  V = value_by number leaf

  number_by : (n : ℕ) (p : Pattern) → IsPatternOf sig ts n p → (f : Lin) → V p ≡ value.Number f → number n ≡ f
  number_by _ _ (of_number n p t s at o m e) f h = same_numbers (number n) f (sym (ap V e ∙ by-Number number leaf n) ∙ h)
  number_by _ _ (of_record n p t s ss ps at o g are e) f h = absurd (number_fields f (map V ps) (sym h ∙ ap V e ∙ by-Fields number leaf n ps))
  number_by _ _ (of_other n p t s at o m g e) f h = absurd (number_leaf f (leaf n) (sym h ∙ ap V e ∙ by-Leaf number leaf n))
  number_by _ _ (of_predicate n p t at g e) f h = absurd (number_leaf f (leaf n) (sym h ∙ ap V e ∙ by-Leaf number leaf n))

  leaf_by : (n : ℕ) (p : Pattern) → IsPatternOf sig ts n p → (m : ℕ) → V p ≡ value.Leaf m → leaf n ≡ m
  leaf_by _ _ (of_number n p t s at o k e) m h = absurd (number_leaf (number n) m (sym (ap V e ∙ by-Number number leaf n) ∙ h))
  leaf_by _ _ (of_record n p t s ss ps at o g are e) m h = absurd (leaf_fields m (map V ps) (sym h ∙ ap V e ∙ by-Fields number leaf n ps))
  leaf_by _ _ (of_other n p t s at o k g e) m h = same_leaves (leaf n) m (sym (ap V e ∙ by-Leaf number leaf n) ∙ h)
  leaf_by _ _ (of_predicate n p t at g e) m h = same_leaves (leaf n) m (sym (ap V e ∙ by-Leaf number leaf n) ∙ h)

  entry_at : (k : ℕ) → k < length es → (e : Entry) × (slice_get es k ≡ Some e) × IsEntryOf sig ts k e
  entry_at k l = let e = value_at es k l in (e.0, e.1, entries.each k e.0 e.1)

  term_at : (k : ℕ) → k < length es → slice_get ts k ≡ Some (named ts k)
  term_at k l = let w : length es ≤ length ts = entries.within in named_at ts k (omega (arith, l, w))

  -- the name in the front of the terms
  name_at : (k : ℕ) (t : Term) → k < length es → slice_get ts k ≡ Some t → slice_get (take (length es) ts) k ≡ Some t
  name_at k t l at = take_there ts (length es) k t l at

  value_is : (k : ℕ) (l : k < length es) → slice_get y.values k ≡ Some (V ((entry_at k l).0).pattern)
  value_is k l = get_map (λ (x : Entry). V x.pattern) es k ((entry_at k l).0) ((entry_at k l).1)

  number_of : (k : ℕ) (f : Lin) → k < length es → slice_get y.values k ≡ Some (value.Number f) → number k ≡ f
  number_of k f l h = number_by k ((entry_at k l).0).pattern (((entry_at k l).2).pattern) f (same_Some (V ((entry_at k l).0).pattern) (value.Number f) (sym (value_is k l) ∙ h))

  leaf_of : (k m : ℕ) → k < length es → slice_get y.values k ≡ Some (value.Leaf m) → leaf k ≡ m
  leaf_of k m l h = leaf_by k ((entry_at k l).0).pattern (((entry_at k l).2).pattern) m (same_Some (V ((entry_at k l).0).pattern) (value.Leaf m) (sym (value_is k l) ∙ h))

  number_value : (k : ℕ) (s : Sort) → k < length es → sort_of sig (named ts k) ≡ Some s → is_numeric s ≡ true → slice_get y.values k ≡ Some (value.Number (number k))
  number_value k s l o m =
      value_is k l ∙ ap (λ (v : Value). Some v) (ap V (number_is sig ts k ((entry_at k l).0).pattern (((entry_at k l).2).pattern) (named ts k) s (term_at k l) o m) ∙ by-Number number leaf k)

  leaf_value : (k : ℕ) (s : Sort) → k < length es → sort_of sig (named ts k) ≡ Some s → is_numeric s ≡ false → record_fields sig s ≡ None → slice_get y.values k ≡ Some (value.Leaf (leaf k))
  leaf_value k s l o m f =
      value_is k l ∙ ap (λ (v : Value). Some v) (ap V (leaf_is sig ts k ((entry_at k l).0).pattern (((entry_at k l).2).pattern) (named ts k) s (term_at k l) o m f) ∙ by-Leaf number leaf k)

  module _ (values : AreValues sig y) where
    own_at : (s : Sort) (k : ℕ) → IsOwnNumber sig y s k → IsOwnAt sig ts (length es) number s k
    own_at s k o =
        let g = get_front ts (length es) k o.term o.is in
        let w : length es ≤ length ts = entries.within in
        record {
          within = omega (arith, g.1, w);
          sort = ap (sort_of sig) (name_term ts k o.term g.0) ∙ o.sort;
          own = subst (λ (l : Lin). SameMeaning (meaning l) (single k)) (sym (number_of k o.value g.1 o.value_is)) o.own;
          known = inl g.1;
        }

    leaf_at : (s : Sort) (m : ℕ) → IsOwnLeaf sig y s m → IsLeafAt sig ts (length es) leaf s m
    leaf_at s m o =
        let g = get_front ts (length es) m o.term o.is in
        let w : length es ≤ length ts = entries.within in
        record {
          within = omega (arith, g.1, w);
          sort = ap (sort_of sig) (name_term ts m o.term g.0) ∙ o.sort;
          own = leaf_of m m g.1 o.own;
          known = inl g.1;
        }

    numbers : (k : ℕ) (s : Sort) → k < length es → sort_of sig (named ts k) ≡ Some s → is_numeric s ≡ true → IsNumberAt sig ts (length es) number s (number k)
    numbers k s l o m =
        let v = number_value k s l o m in
        let h = values.numbers k (named ts k) s (value.Number (number k)) (name_at k (named ts k) l (term_at k l)) o v m in
        let e : h.form ≡ number k = sym (same_numbers (number k) h.form h.is) in
        subst (IsNumberAt sig ts (length es) number s) e (record {
          normal = h.normal;
          over = all_weaker (λ (p : Part). IsOwnNumber sig y s p.key) (λ (p : Part). IsOwnAt sig ts (length es) number s p.key) (λ p i. own_at s p.key i) h.form.parts h.over;
        })

    leaves : (k : ℕ) (s : Sort) → k < length es → sort_of sig (named ts k) ≡ Some s → is_numeric s ≡ false → record_fields sig s ≡ None → IsLeafAt sig ts (length es) leaf s (leaf k)
    leaves k s l o m f =
        let v = leaf_value k s l o m f in
        let h = values.others k (named ts k) s (value.Leaf (leaf k)) (name_at k (named ts k) l (term_at k l)) o v m f in
        subst (IsLeafAt sig ts (length es) leaf s) (sym (same_leaves (leaf k) h.leaf h.is)) (leaf_at s h.leaf h.over)

    predicates : (k : ℕ) → k < length es → IsPredicateName sig (named ts k) → leaf k ≡ k
    predicates k l g = leaf_of k k l (values.predicates k (named ts k) (name_at k (named ts k) l (term_at k l)) g)

    numerals : (k : ℕ) (a b : ℤ) (real : Bool) → k < length es → slice_get ts k ≡ Some (Num a b real) → SameMeaning (meaning (number k)) (number_form (ratio a b))
    numerals k a b real l at =
        let o : sort_of sig (named ts k) ≡ Some (cond real Real Int) = ap (sort_of sig) (name_term ts k (Num a b real) at) ∙ numeral_sorted sig nodes store k a b real at in
        values.numerals k a b real (number k) (name_at k (Num a b real) l at) (number_value k (cond real Real Int) l o (numeral_numeric sig nodes store real))

    have_forms : (s : Sort) → is_numeric s ≡ true → (args : List ℕ) → AllByRecursion (λ a. a < length es) args → AllByRecursion (λ u. sort_of sig u ≡ Some s) (map (named ts) args) → HaveForms y (map (named ts) args) (map number args)
    have_forms s m [] w o = tt
    have_forms s m (a ∷ args) w o =
        (record { name = a; is = name_at a (named ts a) w.0 (term_at a w.0); value = number_value a s w.0 o.0 m }, have_forms s m args w.1 o.1)

    operations : (k : ℕ) (h : Head) (ss : List Sort) (args : List ℕ) (g : Form ℕ) → k < length es → AllByRecursion (λ a. a < k) args → slice_get ts k ≡ Some (Apply h ss (map (named ts) args))
        → linear_form h (with_forms (map (named ts) args) (map number args)) ≡ Some g → SameMeaning (meaning (number k)) g
    operations k h ss args g l below at lin =
        let us = map (named ts) args in
        let s = operation_sorted sig nodes store k h ss us at (with_forms us (map number args)) g lin in
        let o = operands_of sig h ss us s.0 s.1 (with_forms us (map number args)) g lin in
        let ok : sort_of sig (named ts k) ≡ Some s.0 = ap (sort_of sig) (name_term ts k (Apply h ss us) at) ∙ s.1 in
        values.operations k h ss us (map number args) (number k) g (name_at k (Apply h ss us) l at) (number_value k s.0 l ok o.numeric)
        (have_forms s.0 o.numeric args (all_weaker (λ (a : ℕ). a < k) (λ (a : ℕ). a < length es) (λ a i. omega (arith, i, l)) args below) o.each) lin

    -- ---- names have the values of what they come down to
    -- the field of a record's value in a place
    field_at : (j : ℕ) (ss : List Sort) (t : Term) (i c : ℕ) (vs : List Value) → HaveValues y (fields_from j ss t i c) vs → (k : ℕ) → k < c
        → (v : Value) × (slice_get vs k ≡ Some v) × HasValue y (Apply (head.Field j (i + k)) ss (t ∷ [])) v
    field_at j ss t i zero vs h k l = absurd (omega (arith, l))
    field_at j ss t i (suc c) [] h k l = absurd h
    field_at j ss t i (suc c) (v ∷ vs) h zero l = let z : i ≡ i + 0 = omega arith in (v, refl, subst (λ n. HasValue y (Apply (head.Field j n) ss (t ∷ [])) v) z h.0)
    field_at j ss t i (suc c) (v ∷ vs) h (suc k) l =
        let r = field_at j ss t (suc i) c vs h.1 k (omega (arith, l)) in
        let z : suc i + k ≡ i + suc k = omega arith in
        (r.0, r.1, subst (λ n. HasValue y (Apply (head.Field j n) ss (t ∷ [])) r.0) z r.2)

    -- the value of a name of a record's sort has the value of each field in its place
    pub record HasPart (a place : ℕ) (t : Term) : Type 0 where
      pub parts : List Value
      pub whole : slice_get y.values a ≡ Some (value.Fields parts)
      pub part : Value
      pub at : slice_get parts place ≡ Some part
      pub has : HasValue y t part

    part_of : (a j place : ℕ) (ss sorts : List Sort) (r : Term) → a < length es → slice_get ts a ≡ Some r → sort_of sig r ≡ Some (Named j ss) → record_fields sig (Named j ss) ≡ Some sorts → place < length sorts
        → HasPart a place (Apply (head.Field j place) ss (r ∷ []))
    part_of a j place ss sorts r l at o f w =
        let h = values.records a r (Named j ss) sorts (V ((entry_at a l).0).pattern) (name_at a r l at) o (value_is a l) f in
        let fs : HaveValues y (fields_from j ss r 0 (length sorts)) h.fields = subst (λ us. HaveValues y us h.fields) (ap (λ z. field_terms_of z r (length sorts)) (outs-Named j ss)) h.are in
        let v = field_at j ss r 0 (length sorts) h.fields fs place w in
        let z : 0 + place ≡ place = omega arith in
        record {
          parts = h.fields;
          whole = value_is a l ∙ ap (λ (x : Value). Some x) h.is;
          part = v.0;
          at = v.1;
          has = subst (λ n. HasValue y (Apply (head.Field j n) ss (r ∷ [])) v.0) z v.2;
        }

    -- a name has the value of what it comes down to
    pub record HasItsValue (n m : ℕ) : Type 0 where
      pub within : m < length es
      pub value : slice_get y.values n ≡ slice_get y.values m

    -- fields of two records of one value
    parts_same : (a b place : ℕ) (t w : Term) (p : HasPart a place t) (q : HasPart b place w) → slice_get y.values a ≡ slice_get y.values b → p.part ≡ q.part
    parts_same a b place t w p q e =
        let parts : p.parts ≡ q.parts = same_parts p.parts q.parts (same_Some (value.Fields p.parts) (value.Fields q.parts) (sym p.whole ∙ e ∙ q.whole)) in
        same_Some p.part q.part (sym p.at ∙ ap (λ (vs : List Value). slice_get vs place) parts ∙ q.at)

    -- the value of a name of a term that has a value
    value_named : (n : ℕ) (t : Term) (v : Value) → slice_get ts n ≡ Some t → (h : HasValue y t v) → (n < length es) × (slice_get y.values n ≡ Some v)
    value_named n t v at h =
        let g = get_front ts (length es) h.name t h.is in
        let e : n ≡ h.name = store.sound.one_name n h.name t at g.0 in
        (subst (λ k. k < length es) (sym e) g.1, ap (slice_get y.values) e ∙ h.value)

    pub down : (n m : ℕ) → StripsTo ts n m → n < length es → HasItsValue n m
    down _ _ (itself n t e f) l = record { within = l; value = refl }
    down _ _ (of_written n a b u m k place ss f s w r) l =
        let below : a < n = field_below sig nodes store n k place ss a f in
        let la : a < length es = omega (arith, below, l) in
        let up = down a b s la in
        let o = owned sig nodes store n k place ss f.owner f.is in
        let inside : place < length o.sorts = slice_get_within o.sorts place (node_sort sig (head.Field k place) ss) o.at in
        let t' = Apply (head.Build k) ss w.arguments in
        let ob : sort_of sig t' ≡ Some (Named k ss) =
        ap (sort_of sig) (sym (name_term ts b t' w.is)) ∙ sym (sort_kept sig nodes store a b s) ∙ ap (sort_of sig) (name_term ts a f.owner f.owner_is) ∙ o.sorted in
        let p = part_of a k place ss o.sorts f.owner la f.owner_is o.sorted o.fields inside in
        let q = part_of b k place ss o.sorts t' up.within w.is ob o.fields inside in
        let first = value_named n (Apply (head.Field k place) ss (f.owner ∷ [])) p.part f.is p.has in
        let lu : u < b = written_below sig nodes store b k place ss u w in
        let inner : u < length es = omega (arith, lu, up.within) in
        let vu = value_at y.values u (omega (arith, inner, length-map es (λ (x : Entry). V x.pattern))) in
        let hu : HasValue y w.argument vu.0 = record { name = u; is = name_at u w.argument inner w.argument_is; value = vu.1 } in
        let wr = values.written (q.has).name k place ss w.arguments w.argument vu.0 (q.has).is w.at hu in
        let same : q.part ≡ vu.0 = same_Some q.part vu.0 (sym (q.has).value ∙ wr) in
        let rest = down u m r inner in
        record {
          within = rest.within;
          value = first.1 ∙ ap (λ (v : Value). Some v) (parts_same a b place (Apply (head.Field k place) ss (f.owner ∷ [])) (Apply (head.Field k place) ss (t' ∷ [])) p q up.value ∙ same) ∙ sym vu.1 ∙ rest.value;
        }
    down _ _ (of_other n a b m k place ss f s none g) l =
        let below : a < n = field_below sig nodes store n k place ss a f in
        let la : a < length es = omega (arith, below, l) in
        let up = down a b s la in
        let o = owned sig nodes store n k place ss f.owner f.is in
        let inside : place < length o.sorts = slice_get_within o.sorts place (node_sort sig (head.Field k place) ss) o.at in
        let ob : sort_of sig g.owner ≡ Some (Named k ss) =
        ap (sort_of sig) (sym (name_term ts b g.owner g.owner_is)) ∙ sym (sort_kept sig nodes store a b s) ∙ ap (sort_of sig) (name_term ts a f.owner f.owner_is) ∙ o.sorted in
        let p = part_of a k place ss o.sorts f.owner la f.owner_is o.sorted o.fields inside in
        let q = part_of b k place ss o.sorts g.owner up.within g.owner_is ob o.fields inside in
        let first = value_named n (Apply (head.Field k place) ss (f.owner ∷ [])) p.part f.is p.has in
        let second = value_named m (Apply (head.Field k place) ss (g.owner ∷ [])) q.part g.is q.has in
        record {
          within = second.0;
          value = first.1 ∙ ap (λ (v : Value). Some v) (parts_same a b place (Apply (head.Field k place) ss (f.owner ∷ [])) (Apply (head.Field k place) ss (g.owner ∷ [])) p q up.value) ∙ sym second.1;
        }

    covered_numbers : (k m : ℕ) (s : Sort) → k < length es → StripsTo ts k m → sort_of sig (named ts k) ≡ Some s → is_numeric s ≡ true → number k ≡ number m
    covered_numbers k m s l st o n =
        let d = down k m st l in sym (number_of m (number k) d.within (sym d.value ∙ number_value k s l o n))

    covered_leaves : (k m : ℕ) (s : Sort) → k < length es → StripsTo ts k m → sort_of sig (named ts k) ≡ Some s → is_numeric s ≡ false → record_fields sig s ≡ None → leaf k ≡ leaf m
    covered_leaves k m s l st o n f =
        let d = down k m st l in sym (leaf_of m (leaf k) d.within (sym d.value ∙ leaf_value k s l o n f))

    pub are_first : AreFirst sig ts (length es) number leaf
    are_first = record {
      numbers = numbers;
      leaves = leaves;
      predicates = predicates;
      numerals = numerals;
      operations = operations;
      covered_numbers = covered_numbers;
      covered_leaves = covered_leaves;
    }

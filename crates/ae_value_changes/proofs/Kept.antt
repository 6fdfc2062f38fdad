-- What stays true of all values where each is mapped: numbers by a map of forms, leaves by a map of names.
use Rattle.std.specs.Prelude.{ℕ, suc, ℤ, ◌+◌, ◌<◌, ◌≡◌, ◌⊎◌, Bool, true, false, List, [], ◌∷◌, map, length, slice_get, Option, Some, None}
use Rattle.std.specs.List.{AllByRecursion}
use Rattle.std.proofs.Common.{refl, sym, ap, ◌∙◌, subst, arith, inl, inr}
use Rattle.std.proofs.lemmas.Option.{same_Some, slice_get_within}
use native.Mathlib.Decide.{ℕ_discrete}
use Rattle.ae_base.proofs.ListFacts.{value_at as there, get_map}
use Rattle.ae_base.proofs.AllOf.{all_weaker}
use Rattle.ae_base.proofs.Options.{known_each}
use Rattle.ae_base.proofs.Tests.{by_bool}
use Rattle.ae_math.specs.Fractions.{ratio}
use Rattle.ae_math.specs.Forms.{Form, number, single}
use Rattle.ae_math.proofs.FormLaws.{same_sym, same_trans}
use Rattle.ae_core.specs.Sorts.{sort_of, is_numeric}
use Rattle.ae_core.specs.declared.terms.Sort.{Sort, Named}
use Rattle.ae_core.specs.declared.terms.Term.{Term, Term-F, Num, Apply, out-Term}
use Rattle.ae_core.specs.declared.terms.Term.TheOpen as layer
use Rattle.ae_core.specs.declared.terms.Term.TheVariants.{outs-Apply}
use Rattle.ae_core.specs.declared.terms.Head.{Head}
use Rattle.ae_core.specs.declared.terms.Head.TheVariants as head
use Rattle.ae_core.specs.declared.problems.Signature.{Signature}
use Rattle.ae_rules.specs.Lines.{fields_from}
use Rattle.ae_num.specs.Forms.{meaning, SameMeaning, IsNormal}
use Rattle.ae_num.specs.declared.forms.Part.{Part}
use Rattle.ae_num.specs.declared.forms.Lin.{Lin}
use Rattle.ae_num.specs.declared.forms.Value.{Value, Value-F, Leaf, Number, Fields, ind-Value, map-Value, roll-Value, out-Value}
use Rattle.ae_num.specs.declared.forms.Value.TheOpen as value_layer
use Rattle.ae_num.specs.declared.forms.Value.TheVariants.{rolls-Leaf, rolls-Number, rolls-Fields, outs-Leaf, outs-Number}
use Rattle.ae_num.proofs.UniqueLaws.{unique}
use Rattle.ae_journal.specs.Systems.{IsName, IsPredicateName, record_fields, field_terms, field_terms_of}
use Rattle.ae_journal.specs.declared.systems.System.{System}
use Rattle.ae_evaluation.proofs.SortFacts.{is_applied, is_built, is_field}
use Rattle.ae_store.proofs.FieldLaws.{named_back}
use Rattle.ae_store.specs.Stores.{IsStore}
use Rattle.ae_settled.specs.Held.{Held, system_of}
use Rattle.ae_settled.specs.Valued.{HasValue, HaveValues, HaveForms, IsOwnNumber, IsOwnLeaf, IsNumberOver, IsLeafOver, AreFields, AreValues, linear_form, with_forms}
use Rattle.ae_settled.proofs.Sorts.{IsRecord, is_record}
use Rattle.ae_settled.proofs.Terms.{named_sorted, apart}
use Rattle.ae_settled.proofs.Leaves.{leaf_fields, number_fields, same_fields, field_sort}
use Rattle.ae_value_changes.specs.Put.{with_values, HasRecords}
use Rattle.ae_value_changes.proofs.Maps.{IsMap, Both, befores, afters, by_head}

-- ---- written values
same_numbers : (f g : Lin) → Number f ≡ Number g → f ≡ g
same_numbers f g e = let z : ◌≡◌ {A = Value-F Value} (value_layer.Number f) (value_layer.Number g) = sym (outs-Number f) ∙ ap out-Value e ∙ outs-Number g in cc z

leaf_number : (n : ℕ) (f : Lin) → Leaf n ≡ Number f → ⊥
leaf_number n f e = let z : ◌≡◌ {A = Value-F Value} (value_layer.Leaf n) (value_layer.Number f) = sym (outs-Leaf n) ∙ ap out-Value e ∙ outs-Number f in cc z

-- ---- the sort of a field of a built record is that of the argument
argument_sort : (sig : Signature) (k place : ℕ) (ss : List Sort) (us : List Term) (u : Term) (s : Sort) → sort_of sig (Apply (head.Field k place) ss (Apply (head.Build k) ss us ∷ [])) ≡ Some s
    → slice_get us place ≡ Some u → sort_of sig u ≡ Some s
argument_sort sig k place ss us u s o at =
    let a = is_applied sig (head.Field k place) ss (Apply (head.Build k) ss us ∷ []) s o in
    let g = is_field sig k place ss a.args s a.headed in
    let e : sort_of sig (Apply (head.Build k) ss us) ∷ [] ≡ Some (Named k ss) ∷ [] = known_each (sort_of sig) (Apply (head.Build k) ss us ∷ []) a.args a.known ∙ ap (map (λ (r : Sort). Some r)) g.args_are in
    let z : sort_of sig (Apply (head.Build k) ss us) ≡ Some (Named k ss) = same_Some (sort_of sig (Apply (head.Build k) ss us)) (Some (Named k ss)) (ap (λ l. slice_get l 0) e) in
    let b = is_applied sig (head.Build k) ss us (Named k ss) z in
    let q = is_built sig k ss b.args (Named k ss) b.headed in
    let same : g.sorts ≡ b.args = same_Some g.sorts b.args (sym g.fields ∙ q.fields) in
    let there_is : slice_get b.args place ≡ Some s = ap (λ l. slice_get l place) (sym same) ∙ g.at in
    same_Some (sort_of sig u) (Some s)
    (sym (get_map (sort_of sig) us place u at) ∙ ap (λ l. slice_get l place) (known_each (sort_of sig) us b.args b.known) ∙ get_map (λ (r : Sort). Some r) b.args place s there_is)

field_is_no_predicate : (sig : Signature) (k place : ℕ) (ss : List Sort) (us : List Term) → IsPredicateName sig (Apply (head.Field k place) ss us) → ⊥
field_is_no_predicate sig k place ss us p =
    let z : ◌≡◌ {A = Term-F Term} (layer.Apply (head.Field k place) ss us) (layer.Apply (head.Symbol p.0) p.1 p.2) = sym (outs-Apply (head.Field k place) ss us) ∙ ap out-Term p.3 ∙ outs-Apply (head.Symbol p.0) p.1 p.2 in cc z

-- ---- the change
pub record IsChange (T : Form ℕ → Form ℕ) (to : ℕ → ℕ) (x : Held) (vs : List Value) : Type 0 where
  pub one_each : length vs ≡ length x.values
  pub numbers : (n : ℕ) (f : Lin) → slice_get x.values n ≡ Some (Number f) → (g : Lin) × (slice_get vs n ≡ Some (Number g)) × IsNormal g × SameMeaning (meaning g) (T (meaning f))
  pub leaves : (n k : ℕ) → slice_get x.values n ≡ Some (Leaf k) → slice_get vs n ≡ Some (Leaf (to k))
  pub records : HasRecords x.signature (system_of (with_values x vs))
  -- a mapped number is over names that stay their own values, and so is a mapped leaf
  pub keys : (s : Sort) (f g : Lin) → AllByRecursion (λ p. IsOwnNumber x.signature (system_of x) s p.key) f.parts → IsNormal g → SameMeaning (meaning g) (T (meaning f))
      → AllByRecursion (λ p. IsOwnNumber x.signature (system_of x) s p.key × SameMeaning (T (single p.key)) (single p.key)) g.parts
  pub names : (s : Sort) (k : ℕ) → IsOwnLeaf x.signature (system_of x) s k → IsOwnLeaf x.signature (system_of x) s (to k) × (to (to k) ≡ to k)
  pub predicates : (n : ℕ) (t : Term) → IsName (system_of x) n t → IsPredicateName x.signature t → to n ≡ n

module _ (T : Form ℕ → Form ℕ) (is_map : IsMap T) (to : ℕ → ℕ) (x : Held) (store : IsStore x.signature x.nodes) (values : AreValues x.signature (system_of x)) (vs : List Value) (change : IsChange T to x vs) where
  abbrev after : System
  after = system_of (with_values x vs)

  -- the value of a name before, and now
  before : (n : ℕ) (t : Term) → IsName (system_of x) n t → (v : Value) × (slice_get x.values n ≡ Some v)
  before n t e = let l : n < length (system_of x).names = slice_get_within (system_of x).names n t e in there x.values n (omega (arith, l, values.one_each))

  now : (n : ℕ) (t : Term) → IsName (system_of x) n t → (v : Value) × (slice_get vs n ≡ Some v)
  now n t e = let l : n < length (system_of x).names = slice_get_within (system_of x).names n t e in there vs n (omega (arith, l, values.one_each, change.one_each))

  now_of : (t : Term) (v a : Value) (h : HasValue (system_of x) t v) → HasValue after t a → slice_get vs h.name ≡ Some a
  now_of t v a h k = ap (slice_get vs) (apart x store h.name k.name t h.is k.is) ∙ k.value

  -- ---- names that are their own values
  number_stays : (s : Sort) (k : ℕ) → IsOwnNumber x.signature (system_of x) s k → SameMeaning (T (single k)) (single k) → IsOwnNumber x.signature after s k
  number_stays s k o e =
      let c = change.numbers k o.value o.value_is in
      record {
        term = o.term;
        is = o.is;
        sort = o.sort;
        value = c.0;
        value_is = c.1;
        own = same_trans ℕ_discrete (meaning c.0) (T (meaning o.value)) (single k) c.3 (same_trans ℕ_discrete (T (meaning o.value)) (T (single k)) (single k) (is_map.same (meaning o.value) (single k) o.own) e);
      }

  leaf_stays : (s : Sort) (k : ℕ) → IsOwnLeaf x.signature (system_of x) s k → IsOwnLeaf x.signature after s (to k)
  leaf_stays s k o =
      let h = change.names s k o in
      record { term = (h.0).term; is = (h.0).is; sort = (h.0).sort; own = change.leaves (to k) (to k) (h.0).own ∙ ap (λ m. Some (Leaf m)) h.1 }

  -- ---- values by sorts
  numbers : (n : ℕ) (t : Term) (s : Sort) (v : Value) → IsName (system_of x) n t → sort_of x.signature t ≡ Some s → slice_get vs n ≡ Some v → is_numeric s ≡ true → IsNumberOver x.signature after s v
  numbers n t s v e o a m =
      let w = before n t e in
      let h = values.numbers n t s w.0 e o w.1 m in
      let c = change.numbers n h.form (w.1 ∙ ap (λ v. Some v) h.is) in
      record {
        form = c.0;
        is = same_Some v (Number c.0) (sym a ∙ c.1);
        normal = c.2;
        over = all_weaker (λ (p : Part). IsOwnNumber x.signature (system_of x) s p.key × SameMeaning (T (single p.key)) (single p.key)) (λ (p : Part). IsOwnNumber x.signature after s p.key) (λ p k. number_stays s p.key k.0 k.1) (c.0).parts
            (change.keys s h.form c.0 h.over c.2 c.3);
      }

  others : (n : ℕ) (t : Term) (s : Sort) (v : Value) → IsName (system_of x) n t → sort_of x.signature t ≡ Some s → slice_get vs n ≡ Some v → is_numeric s ≡ false → record_fields x.signature s ≡ None
      → IsLeafOver x.signature after s v
  others n t s v e o a m f =
      let w = before n t e in
      let h = values.others n t s w.0 e o w.1 m f in
      record { leaf = to h.leaf; is = same_Some v (Leaf (to h.leaf)) (sym a ∙ change.leaves n h.leaf (w.1 ∙ ap (λ v. Some v) h.is)); over = leaf_stays s h.leaf h.over }

  predicates : (n : ℕ) (t : Term) → IsName (system_of x) n t → IsPredicateName x.signature t → slice_get vs n ≡ Some (Leaf n)
  predicates n t e p = change.leaves n n (values.predicates n t e p) ∙ ap (λ m. Some (Leaf m)) (change.predicates n t e p)

  -- ---- a name that has a number had one
  record WasNumber (n : ℕ) (g : Lin) : Type 0 where
    form : Lin
    value : slice_get x.values n ≡ Some (Number form)
    mapped : SameMeaning (meaning g) (T (meaning form))

  was_numeric : (n : ℕ) (t : Term) (s : Sort) (g : Lin) → IsName (system_of x) n t → slice_get vs n ≡ Some (Number g) → sort_of x.signature t ≡ Some s → is_numeric s ≡ true → WasNumber n g
  was_numeric n t s g e a o m =
      let w = before n t e in
      let h = values.numbers n t s w.0 e o w.1 m in
      let c = change.numbers n h.form (w.1 ∙ ap (λ v. Some v) h.is) in
      let z : g ≡ c.0 = same_numbers g c.0 (same_Some (Number g) (Number c.0) (sym a ∙ c.1)) in
      record { form = h.form; value = w.1 ∙ ap (λ v. Some v) h.is; mapped = subst (λ l. SameMeaning (meaning l) (T (meaning h.form))) (sym z) c.3 }

  was_other : (n : ℕ) (t : Term) (s : Sort) (g : Lin) → IsName (system_of x) n t → slice_get vs n ≡ Some (Number g) → sort_of x.signature t ≡ Some s → is_numeric s ≡ false
      → (q : Option (List Sort)) → record_fields x.signature s ≡ q → WasNumber n g
  was_other n t s g e a o m None f = let h = others n t s (Number g) e o a m f in absurd (leaf_number h.leaf g (sym h.is))
  was_other n t s g e a o m (Some ss) f = let h = change.records n t s ss (Number g) e o a f in absurd (number_fields g h.fields h.is)

  was_by : (n : ℕ) (t : Term) (g : Lin) → IsName (system_of x) n t → slice_get vs n ≡ Some (Number g) → ((s : Sort) × (sort_of x.signature t ≡ Some s)) ⊎ IsPredicateName x.signature t → WasNumber n g
  was_by n t g e a (inl o) = by_bool (is_numeric o.0) (was_numeric n t o.0 g e a o.1) (λ m. was_other n t o.0 g e a o.1 m (record_fields x.signature o.0) refl)
  was_by n t g e a (inr p) = absurd (leaf_number n g (same_Some (Leaf n) (Number g) (sym (predicates n t e p) ∙ a)))

  was_number : (n : ℕ) (t : Term) (g : Lin) → IsName (system_of x) n t → slice_get vs n ≡ Some (Number g) → WasNumber n g
  was_number n t g e a = was_by n t g e a (named_sorted x store n t e)

  -- ---- what is computed
  record AreBoth (us : List Term) (fs : List Lin) : Type 0 where
    forms : List Lin
    have : HaveForms (system_of x) us forms
    both : List (Both T)
    now_are : with_forms us fs ≡ afters T both
    were : with_forms us forms ≡ befores T both

  both_of : (us : List Term) (fs : List Lin) → HaveForms after us fs → AreBoth us fs
  both_of [] [] h = record { forms = []; have = tt; both = []; now_are = refl; were = refl }
  both_of [] (f ∷ fs) h = absurd h
  both_of (u ∷ us) [] h = absurd h
  both_of (u ∷ us) (f ∷ fs) h =
      let w = was_number (h.0).name u f (h.0).is (h.0).value in
      let r = both_of us fs h.1 in
      record {
        forms = w.form ∷ r.forms;
        have = (record { name = (h.0).name; is = (h.0).is; value = w.value }, r.have);
        both = record { term = u; before = meaning w.form; after = meaning f; mapped = w.mapped } ∷ r.both;
        now_are = ap (λ l. (u, meaning f) ∷ l) r.now_are;
        were = ap (λ l. (u, meaning w.form) ∷ l) r.were;
      }

  numerals : (n : ℕ) (a b : ℤ) (real : Bool) (f : Lin) → IsName (system_of x) n (Num a b real) → slice_get vs n ≡ Some (Number f) → SameMeaning (meaning f) (number (ratio a b))
  numerals n a b real f e v =
      let w = was_number n (Num a b real) f e v in
      same_trans ℕ_discrete (meaning f) (T (meaning w.form)) (number (ratio a b)) w.mapped
      (same_trans ℕ_discrete (T (meaning w.form)) (T (number (ratio a b))) (number (ratio a b)) (is_map.same (meaning w.form) (number (ratio a b)) (values.numerals n a b real w.form e w.value)) (is_map.fixed (ratio a b)))

  operations : (n : ℕ) (h : Head) (ss : List Sort) (us : List Term) (fs : List Lin) (f : Lin) (g : Form ℕ) → IsName (system_of x) n (Apply h ss us) → slice_get vs n ≡ Some (Number f)
      → HaveForms after us fs → linear_form h (with_forms us fs) ≡ Some g → SameMeaning (meaning f) g
  operations n h ss us fs f g e a q l =
      let b = both_of us fs q in
      let w = was_number n (Apply h ss us) f e a in
      let m = by_head T is_map h b.both g (ap (linear_form h) (sym b.now_are) ∙ l) in
      let o = values.operations n h ss us b.forms w.form m.made e w.value b.have (ap (linear_form h) b.were ∙ m.is) in
      same_trans ℕ_discrete (meaning f) (T m.made) g (same_trans ℕ_discrete (meaning f) (T (meaning w.form)) (T m.made) w.mapped (is_map.same (meaning w.form) m.made o)) (same_sym ℕ_discrete g (T m.made) m.mapped)

  -- ---- two terms of one sort with one value before have one value now
  abbrev P : Value → Type 0
  P v = (t u : Term) (s : Sort) (a b : Value) → sort_of x.signature t ≡ Some s → sort_of x.signature u ≡ Some s → HasValue (system_of x) t v → HasValue (system_of x) u v → HasValue after t a → HasValue after u b
      → a ≡ b

  one_number : (v : Value) (t u : Term) (s : Sort) (a b : Value) → sort_of x.signature t ≡ Some s → HasValue (system_of x) t v → HasValue (system_of x) u v → HasValue after t a → HasValue after u b
      → is_numeric s ≡ true → a ≡ b
  one_number v t u s a b o h k h' k' m =
      let f = values.numbers h.name t s v h.is o h.value m in
      let c = change.numbers h.name f.form (h.value ∙ ap (λ v. Some v) f.is) in
      let d = change.numbers k.name f.form (k.value ∙ ap (λ v. Some v) f.is) in
      let z : c.0 ≡ d.0 = unique c.0 d.0 c.2 d.2 (same_trans ℕ_discrete (meaning c.0) (T (meaning f.form)) (meaning d.0) c.3 (same_sym ℕ_discrete (meaning d.0) (T (meaning f.form)) d.3)) in
      same_Some a b (sym (now_of t v a h h') ∙ c.1 ∙ ap (λ l. Some (Number l)) z ∙ sym d.1 ∙ now_of u v b k k')

  one_leaf : (v : Value) (t u : Term) (s : Sort) (a b : Value) → sort_of x.signature t ≡ Some s → HasValue (system_of x) t v → HasValue (system_of x) u v → HasValue after t a → HasValue after u b
      → is_numeric s ≡ false → record_fields x.signature s ≡ None → a ≡ b
  one_leaf v t u s a b o h k h' k' m f =
      let l = values.others h.name t s v h.is o h.value m f in
      same_Some a b (sym (now_of t v a h h') ∙ change.leaves h.name l.leaf (h.value ∙ ap (λ v. Some v) l.is) ∙ sym (change.leaves k.name l.leaf (k.value ∙ ap (λ v. Some v) l.is)) ∙ now_of u v b k k')

  -- the values of fields, from the one in a place on
  fields_alike : (k : ℕ) (us : List Sort) (t u : Term) (os : List Sort) → record_fields x.signature (Named k us) ≡ Some os → (i : ℕ) (ss : List Sort) → ((j : ℕ) → slice_get os (i + j) ≡ slice_get ss j)
      → (ys : List ((v : Value) × P v)) (cs ds : List Value) → HaveValues (system_of x) (fields_from k us t i (length ss)) (map {A = (v : Value) × P v} (λ e. e.0) ys)
      → HaveValues (system_of x) (fields_from k us u i (length ss)) (map {A = (v : Value) × P v} (λ e. e.0) ys) → HaveValues after (fields_from k us t i (length ss)) cs → HaveValues after (fields_from k us u i (length ss)) ds
      → cs ≡ ds
  fields_alike k us t u os f i [] at ys [] [] h g h' g' = refl
  fields_alike k us t u os f i [] at ys (c ∷ cs) ds h g h' g' = absurd h'
  fields_alike k us t u os f i [] at ys [] (d ∷ ds) h g h' g' = absurd g'
  fields_alike k us t u os f i (s ∷ ss) at [] cs ds h g h' g' = absurd h
  fields_alike k us t u os f i (s ∷ ss) at (y ∷ ys) [] ds h g h' g' = absurd h'
  fields_alike k us t u os f i (s ∷ ss) at (y ∷ ys) (c ∷ cs) [] h g h' g' = absurd g'
  fields_alike k us t u os f i (s ∷ ss) at (y ∷ ys) (c ∷ cs) (d ∷ ds) h g h' g' =
      let z : i + 0 ≡ i = omega arith in
      let a : slice_get os i ≡ Some s = ap (slice_get os) (sym z) ∙ at 0 in
      let o = field_sort x store values k i us t os s f a ((h.0).name, (h.0).is) in
      let p = field_sort x store values k i us u os s f a ((g.0).name, (g.0).is) in
      let w : (j : ℕ) → suc i + j ≡ i + suc j = λ j. omega arith in
      let first : c ≡ d = y.1 (Apply (head.Field k i) us (t ∷ [])) (Apply (head.Field k i) us (u ∷ [])) s c d o p h.0 g.0 h'.0 g'.0 in
      let rest : cs ≡ ds = fields_alike k us t u os f (suc i) ss (λ j. ap (slice_get os) (w j) ∙ at (suc j)) ys cs ds h.1 g.1 h'.1 g'.1 in
      λ j. first j ∷ rest j

  -- the values of the fields of a term
  fields_are : (y : System) (s : Sort) (t : Term) (ss : List Sort) (r : IsRecord x.signature s ss) (ws : List Value) → AreFields y (field_terms s t (length ss)) (Fields ws) → HaveValues y (fields_from r.type r.sorts t 0 (length ss)) ws
  fields_are y s t ss r ws h =
      let terms : field_terms s t (length ss) ≡ fields_from r.type r.sorts t 0 (length ss) = ap (λ l. field_terms_of l t (length ss)) r.out in
      subst (HaveValues y (fields_from r.type r.sorts t 0 (length ss))) (sym (same_fields ws h.fields h.is)) (subst (λ ts. HaveValues y ts h.fields) terms h.are)

  abbrev rolled : Value-F ((v : Value) × P v) → Value
  rolled y = roll-Value (map-Value ((v : Value) × P v) Value (λ e. e.0) y)

  one_record : (y : Value-F ((v : Value) × P v)) (t u : Term) (s : Sort) (ss : List Sort) (a b : Value) → sort_of x.signature t ≡ Some s → sort_of x.signature u ≡ Some s → record_fields x.signature s ≡ Some ss
      → HasValue (system_of x) t (rolled y) → HasValue (system_of x) u (rolled y) → HasValue after t a → HasValue after u b → a ≡ b
  one_record (value_layer.Leaf n) t u s ss a b o p f h g h' g' = let w = values.records h.name t s ss (rolled (value_layer.Leaf n)) h.is o h.value f in absurd (leaf_fields n w.fields (sym (rolls-Leaf n) ∙ w.is))
  one_record (value_layer.Number l) t u s ss a b o p f h g h' g' = let w = values.records h.name t s ss (rolled (value_layer.Number l)) h.is o h.value f in absurd (number_fields l w.fields (sym (rolls-Number l) ∙ w.is))
  one_record (value_layer.Fields ys) t u s ss a b o p f h g h' g' =
      let r = is_record x.signature s ss f in
      let named : Named r.type r.sorts ≡ s = named_back s r.type r.sorts r.out in
      let e : rolled (value_layer.Fields ys) ≡ Fields (map {A = (v : Value) × P v} (λ e. e.0) ys) = rolls-Fields (map {A = (v : Value) × P v} (λ e. e.0) ys) in
      let before_t = subst (AreFields (system_of x) (field_terms s t (length ss))) e (values.records h.name t s ss (rolled (value_layer.Fields ys)) h.is o h.value f) in
      let before_u = subst (AreFields (system_of x) (field_terms s u (length ss))) e (values.records g.name u s ss (rolled (value_layer.Fields ys)) g.is p g.value f) in
      let now_t = change.records h'.name t s ss a h'.is o h'.value f in
      let now_u = change.records g'.name u s ss b g'.is p g'.value f in
      let same : now_t.fields ≡ now_u.fields =
      fields_alike r.type r.sorts t u ss (ap (record_fields x.signature) named ∙ f) 0 ss (λ j. let z : 0 + j ≡ j = omega arith in ap (slice_get ss) z) ys now_t.fields now_u.fields
      (fields_are (system_of x) s t ss r (map {A = (v : Value) × P v} (λ e. e.0) ys) before_t) (fields_are (system_of x) s u ss r (map {A = (v : Value) × P v} (λ e. e.0) ys) before_u)
      (fields_are after s t ss r now_t.fields (subst (AreFields after (field_terms s t (length ss))) now_t.is now_t)) (fields_are after s u ss r now_u.fields (subst (AreFields after (field_terms s u (length ss))) now_u.is now_u)) in
      now_t.is ∙ ap Fields same ∙ sym now_u.is

  one_other : (y : Value-F ((v : Value) × P v)) (t u : Term) (s : Sort) (a b : Value) → sort_of x.signature t ≡ Some s → sort_of x.signature u ≡ Some s → HasValue (system_of x) t (rolled y)
      → HasValue (system_of x) u (rolled y) → HasValue after t a → HasValue after u b → is_numeric s ≡ false → (q : Option (List Sort)) → record_fields x.signature s ≡ q → a ≡ b
  one_other y t u s a b o p h g h' g' m None f = one_leaf (rolled y) t u s a b o h g h' g' m f
  one_other y t u s a b o p h g h' g' m (Some ss) f = one_record y t u s ss a b o p f h g h' g'

  one_value : (y : Value-F ((v : Value) × P v)) → P (rolled y)
  one_value y t u s a b o p h g h' g' = by_bool (is_numeric s) (one_number (rolled y) t u s a b o h g h' g') (λ m. one_other y t u s a b o p h g h' g' m (record_fields x.signature s) refl)

  each : (v : Value) → P v
  each = ind-Value P (λ z y e. subst (λ z. P (roll-Value z)) e (one_value y))

  -- ---- a field of a built record
  written_by : (n k place : ℕ) (ss : List Sort) (us : List Term) (u : Term) (v : Value) → IsName (system_of x) n (Apply (head.Field k place) ss (Apply (head.Build k) ss us ∷ []))
      → slice_get us place ≡ Some u → HasValue after u v
      → ((s : Sort) × (sort_of x.signature (Apply (head.Field k place) ss (Apply (head.Build k) ss us ∷ [])) ≡ Some s)) ⊎ IsPredicateName x.signature (Apply (head.Field k place) ss (Apply (head.Build k) ss us ∷ []))
      → slice_get vs n ≡ Some v
  written_by n k place ss us u v e at h (inr p) = absurd (field_is_no_predicate x.signature k place ss (Apply (head.Build k) ss us ∷ []) p)
  written_by n k place ss us u v e at h (inl o) =
      let w = before h.name u h.is in
      let old : HasValue (system_of x) u w.0 = record { name = h.name; is = h.is; value = w.1 } in
      let c = now n (Apply (head.Field k place) ss (Apply (head.Build k) ss us ∷ [])) e in
      let same : c.0 ≡ v =
      each w.0 (Apply (head.Field k place) ss (Apply (head.Build k) ss us ∷ [])) u o.0 c.0 v o.1 (argument_sort x.signature k place ss us u o.0 o.1 at)
      (record { name = n; is = e; value = values.written n k place ss us u w.0 e at old }) old (record { name = n; is = e; value = c.1 }) h in
      c.1 ∙ ap (λ v. Some v) same

  pub kept : AreValues x.signature after
  kept = record {
    one_each = change.one_each ∙ values.one_each;
    numbers = numbers;
    records = change.records;
    others = others;
    predicates = predicates;
    numerals = numerals;
    operations = operations;
    written = λ n k place ss us u v e at h. written_by n k place ss us u v e at h (named_sorted x store n (Apply (head.Field k place) ss (Apply (head.Build k) ss us ∷ [])) e);
  }

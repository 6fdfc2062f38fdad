-- A tree whose sorts fit is elaborated to terms and formulas that are well sorted.
use Rattle.std.proofs.Common.{arith, ◌≡◌, ◌∙◌, ◌⊎◌, inl, inr, ◌<◌, ◌+◌, ℕ, ℤ, zero, suc, Bool, true, false, ◌&&◌, ◌||◌, nat_eq, List, [], ◌∷◌, ◌++◌}
use Rattle.std.proofs.Common.{map, reverse, length, refl, sym, ap, subst, Option, Some, None, slice_get, append_assoc}
use Rattle.std.specs.List.{AllByRecursion, list_all}
use Rattle.std.proofs.lemmas.Bool.{and_from, or_right, eqb-true, eq-eqb}
use Rattle.std.proofs.lemmas.List.{reverse-reverse, length-append}
use Rattle.std.proofs.lemmas.Option.{none-some, same_Some}
use Rattle.ae_base.specs.Options.{or_else, ◌>>=◌, only, when, all_known}
use Rattle.ae_base.proofs.AllOf.{all_append, test_of_all}
use Rattle.ae_base.proofs.Decided.{decided_of}
use Rattle.ae_base.proofs.ListFacts.{get_seam, cons_head, cons_tail}
use Rattle.ae_core.specs.Decided.{Sort_discrete, Sorts_discrete}
use Rattle.ae_core.specs.Sorts.{numeral_ok, head_sort, field_at, field_sort, record_sort, operands, on_real, predicate_fits, predicate_ok, same_sort}
use Rattle.ae_core.specs.Sorts.{same_sorts, same_known, same_numeric, is_numeric, sort_in, formula_in}
use Rattle.ae_core.specs.Putting.{put_sort}
use Rattle.ae_core.proofs.SortLaws.{sort_in_bound, sort_in_num, sort_in_apply, formula_in_true, formula_in_eq, formula_in_lt, formula_in_le}
use Rattle.ae_core.proofs.SortLaws.{formula_in_not, formula_in_and, formula_in_or}
use Rattle.ae_core.specs.declared.terms.Sort.{Sort, Int, Real, Bool as BoolSort, Named, out-Sort}
use Rattle.ae_core.specs.declared.terms.Sort.TheVariants.{outs-Int, outs-Real}
use Rattle.ae_core.specs.declared.terms.Head.{Head}
use Rattle.ae_core.specs.declared.terms.Head.TheVariants as head
use Rattle.ae_core.specs.declared.terms.Op.{Op}
use Rattle.ae_core.specs.declared.terms.Term.{Term, Bound, Num, Apply}
use Rattle.ae_core.specs.declared.formulas.Formula.{Formula, Eq, Not, And, Or}
use Rattle.ae_core.specs.declared.problems.Signature.{Signature}
use Rattle.ae_core.specs.declared.problems.SymbolEntry.{SymbolEntry}
use Rattle.ae_core.specs.declared.problems.FieldEntry.{FieldEntry}
use Rattle.ae_core.specs.declared.problems.Kind.TheVariants.{Abstract, Choices, Fields}
use Rattle.ae_elab.specs.Trees.{Relation, equal, unequal, less, at_most, greater, at_least}
use Rattle.ae_elab.specs.Elaboration.{Cases, leaf, branch, ◌|>◌, value_of, either_way, formula_of, distance, related, true_term, differs_from}
use Rattle.ae_elab.specs.Elaboration.{differences, all_after, all_true, head_on, value_at, field_term, fields_from, record_of}
use Rattle.ae_lawful_problems.proofs.SortedTrees.{Env, look, numbers, sorts, fits, AllFit, IsNumber, IsNumeric, IsRecordType, AreFieldSorts}
use Rattle.ae_lawful_problems.proofs.SortedTrees.{IsPredicate, IsRelated}

-- ---- bound variables
found_at : (b : Bool) (s t : Sort) (o : Option Sort) (ss : List Sort) (d : ℕ) → elim b [ true ↦ Some s | false ↦ o ] ≡ Some t → (o ≡ Some t → slice_get ss d ≡ Some t)
    → slice_get (s ∷ ss) (elim b [ true ↦ 0 | false ↦ suc d ]) ≡ Some t
found_at true s t o ss d e h = e
found_at false s t o ss d e h = h e

-- the sort of a variable stands at its distance
pub look_at : (env : Env) (x : ℕ) (s : Sort) → look env x ≡ Some s → slice_get (sorts env) (distance (numbers env) x) ≡ Some s
look_at [] x s e = absurd (none-some s e)
look_at (b ∷ env) x s e = found_at (nat_eq x b.0) b.1 s (look env x) (sorts env) (distance (numbers env) x) e (look_at env x s)

-- ---- values under conditions
module _ (F : Signature) (E : List Sort) where
  abbrev pub Right : Formula → Type 0
  Right f = formula_in F (fits F) E f ≡ true

  abbrev pub SortOf : Term → Sort → Type 0
  SortOf u s = sort_in F (fits F) E u ≡ Some s

  abbrev pub SortsOf : List Term → List Sort → Type 0
  SortsOf us ss = all_known (map (sort_in F (fits F) E) us) ≡ Some ss

  abbrev pub EachCase : {A : Type 0} → (A → Type 0) → Cases A → Type 0
  EachCase Q (leaf x) = Q x
  EachCase Q (branch c a b) = Right c × EachCase Q a × EachCase Q b

  pub each_then : {A B : Type 0} (Q : A → Type 0) (R : B → Type 0) (f : A → Cases B) → ((x : A) → Q x → EachCase R (f x)) → (c : Cases A) → EachCase Q c → EachCase R (c |> f)
  each_then Q R f k (leaf x) h = k x h
  each_then Q R f k (branch c a b) h = (h.0, each_then Q R f k a h.1, each_then Q R f k b h.2)

  pub right_either : (c a b : Formula) → Right c → Right a → Right b → Right (either_way c a b)
  right_either c a b h i j =
      formula_in_and F (fits F) E (Or (Not c) a) (Or c b)
      ∙ and_from (formula_in F (fits F) E (Or (Not c) a)) (formula_in F (fits F) E (Or c b))
      (formula_in_or F (fits F) E (Not c) a ∙ and_from (formula_in F (fits F) E (Not c)) (formula_in F (fits F) E a) (formula_in_not F (fits F) E c ∙ h) i)
      (formula_in_or F (fits F) E c b ∙ and_from (formula_in F (fits F) E c) (formula_in F (fits F) E b) h j)

  pub right_cases : (c : Cases Formula) → EachCase Right c → Right (formula_of c)
  right_cases (leaf f) h = h
  right_cases (branch c a b) h = right_either c (formula_of a) (formula_of b) h.0 (right_cases a h.1) (right_cases b h.2)

  pub value_right : {A : Type 0} (Q : A → Type 0) (c : Cases A) → EachCase Q c → Q (value_of c)
  value_right Q (leaf x) h = h
  value_right Q (branch c a b) h = value_right Q b h.2

  -- ---- terms
  pub more_sorts : (u : Term) (us : List Term) (s : Sort) (ss : List Sort) → SortOf u s → SortsOf us ss → SortsOf (u ∷ us) (s ∷ ss)
  more_sorts u us s ss h k =
      ap (λ o. o >>= λ x. all_known (map (sort_in F (fits F) E) us) >>= λ xs. Some (x ∷ xs)) h
      ∙ ap (λ o. o >>= λ xs. Some (s ∷ xs)) k

  all_fit : (ss : List Sort) → AllFit F ss → list_all (fits F) ss ≡ true
  all_fit ss a = test_of_all (λ s. fits F s ≡ true) (fits F) (λ s h. h) ss a

  pub applied_sort : (h : Head) (ss : List Sort) (us : List Term) (args : List Sort) (s : Sort) → AllFit F ss → SortsOf us args → head_sort F h ss args ≡ Some s → SortOf (Apply h ss us) s
  applied_sort h ss us args s a k e =
      sort_in_apply F (fits F) E h ss us
      ∙ ap (λ b. only b (all_known (map (sort_in F (fits F) E) us)) >>= head_sort F h ss) (all_fit ss a)
      ∙ ap (λ o. o >>= head_sort F h ss) k
      ∙ e

  pub whole_sort : (a b : ℤ) → numeral_ok a b false ≡ true → SortOf (Num a b false) Int
  whole_sort a b h = sort_in_num F (fits F) E a b false ∙ ap (λ x. when x Int) h

  pub decimal_sort : (a b : ℤ) → numeral_ok a b true ≡ true → SortOf (Num a b true) Real
  decimal_sort a b h = sort_in_num F (fits F) E a b true ∙ ap (λ x. when x Real) h

  same_lists : (xs : List Sort) → same_sorts xs xs ≡ true
  same_lists xs = decided_of (Sorts_discrete xs xs) refl

  same_one : (s : Sort) → same_sort s s ≡ true
  same_one s = decided_of (Sort_discrete s s) refl

  pub true_sort : SortOf true_term BoolSort
  true_sort = applied_sort head.True [] [] [] BoolSort tt refl (ap (λ x. when x BoolSort) (and_from (same_sorts [] []) (same_sorts [] []) (same_lists []) (same_lists [])))

  -- an operation on its operands
  operation_head : (o : Op) (t : Sort) → IsNumber o t → head_sort F (head_on o (out-Sort t)) [] (operands o (t ∷ [])) ≡ Some t
  operation_head o t (inl e) =
      subst (λ (s : Sort). head_sort F (head_on o (out-Sort s)) [] (operands o (s ∷ [])) ≡ Some s) (sym e)
      (ap (λ l. head_sort F (head_on o l) [] (operands o (Int ∷ []))) outs-Int
      ∙ ap (λ x. when x Int) (and_from (same_sorts [] []) (same_sorts (operands o (Int ∷ [])) (operands o (Int ∷ []))) (same_lists []) (same_lists (operands o (Int ∷ [])))))
  operation_head o t (inr h) =
      subst (λ (s : Sort). head_sort F (head_on o (out-Sort s)) [] (operands o (s ∷ [])) ≡ Some s) (sym h.0)
      (ap (λ l. head_sort F (head_on o l) [] (operands o (Real ∷ []))) outs-Real
      ∙ ap (λ x. when x Real) (and_from (on_real o && same_sorts [] []) (same_sorts (operands o (Real ∷ [])) (operands o (Real ∷ [])))
      (and_from (on_real o) (same_sorts [] []) h.1 (same_lists [])) (same_lists (operands o (Real ∷ [])))))

  pub operation_sort : (o : Op) (t : Sort) (us : List Term) → IsNumber o t → SortsOf us (operands o (t ∷ [])) → SortOf (Apply (head_on o (out-Sort t)) [] us) t
  operation_sort o t us h k = applied_sort (head_on o (out-Sort t)) [] us (operands o (t ∷ [])) t tt k (operation_head o t h)

  -- ---- atoms
  both_known : (a b : Option Sort) (s : Sort) → a ≡ Some s → b ≡ Some s → same_known a b ≡ true
  both_known a b s h k = ap (λ o. same_known o b) h ∙ ap (same_known (Some s)) k ∙ same_one s

  numeric_sort : (s : Sort) → IsNumeric s → is_numeric s ≡ true
  numeric_sort s (inl e) = ap (λ b. b || same_sort s Real) (decided_of (Sort_discrete s Int) e)
  numeric_sort s (inr e) = or_right (same_sort s Int) (same_sort s Real) (decided_of (Sort_discrete s Real) e)

  both_numeric : (a b : Option Sort) (s : Sort) → IsNumeric s → a ≡ Some s → b ≡ Some s → same_numeric a b ≡ true
  both_numeric a b s n h k =
      ap (λ o. same_numeric o b) h ∙ ap (same_numeric (Some s)) k ∙ and_from (same_sort s s) (is_numeric s) (same_one s) (numeric_sort s n)

  pub right_eq : (u v : Term) (s : Sort) → SortOf u s → SortOf v s → Right (Eq u v)
  right_eq u v s h k = formula_in_eq F (fits F) E u v ∙ both_known (sort_in F (fits F) E u) (sort_in F (fits F) E v) s h k

  pub right_related : (r : Relation) (u v : Term) (s : Sort) → IsRelated r s → SortOf u s → SortOf v s → Right (related r u v)
  right_related equal u v s n h k = right_eq u v s h k
  right_related unequal u v s n h k = formula_in_not F (fits F) E (Eq u v) ∙ right_eq u v s h k
  right_related less u v s n h k = formula_in_lt F (fits F) E u v ∙ both_numeric (sort_in F (fits F) E u) (sort_in F (fits F) E v) s n h k
  right_related at_most u v s n h k = formula_in_le F (fits F) E u v ∙ both_numeric (sort_in F (fits F) E u) (sort_in F (fits F) E v) s n h k
  right_related greater u v s n h k = formula_in_lt F (fits F) E v u ∙ both_numeric (sort_in F (fits F) E v) (sort_in F (fits F) E u) s n k h
  right_related at_least u v s n h k = formula_in_le F (fits F) E v u ∙ both_numeric (sort_in F (fits F) E v) (sort_in F (fits F) E u) s n k h

  -- `distinct`
  right_all : (f : Formula) (gs : List Formula) → Right f → AllByRecursion Right gs → Right (all_after f gs)
  right_all f [] h a = h
  right_all f (g ∷ gs) h a = right_all (And f g) gs (formula_in_and F (fits F) E f g ∙ and_from (formula_in F (fits F) E f) (formula_in F (fits F) E g) h a.0) a.1

  pub right_true : (fs : List Formula) → AllByRecursion Right fs → Right (all_true fs)
  right_true [] a = formula_in_true F (fits F) E
  right_true (f ∷ fs) a = right_all f fs a.0 a.1

  differs : (t : Term) (us : List Term) (s : Sort) → SortOf t s → AllByRecursion (λ u. SortOf u s) us → AllByRecursion Right (differs_from t us)
  differs t [] s h a = tt
  differs t (u ∷ us) s h a = (formula_in_not F (fits F) E (Eq t u) ∙ right_eq t u s h a.0, differs t us s h a.1)

  pub right_differences : (us : List Term) (s : Sort) → AllByRecursion (λ u. SortOf u s) us → AllByRecursion Right (differences us)
  right_differences [] s a = tt
  right_differences (u ∷ us) s a = all_append Right (differs_from u us) (differences us) (differs u us s a.0 a.1) (right_differences us s a.1)

  -- a predicate's application
  pub right_pred : (k : ℕ) (ss : List Sort) (us : List Term) (args : List Sort) → AllFit F ss → IsPredicate F k ss args → SortsOf us args → predicate_ok F (fits F) k ss (all_known (map (sort_in F (fits F) E) us)) ≡ true
  right_pred k ss us args a p h =
      ap (predicate_ok F (fits F) k ss) h
      ∙ and_from (list_all (fits F) ss) (or_else (slice_get F.symbols k >>= λ (e : SymbolEntry). Some (predicate_fits ss args e)) false) (all_fit ss a)
      (ap (λ o. or_else (o >>= λ (e : SymbolEntry). Some (predicate_fits ss args e)) false) p.declared ∙ p.right)

  -- ---- records
  record_head : (of : ℕ) (ss args : List Sort) (fs : List FieldEntry) → IsRecordType F of ss fs → args ≡ map (λ (f : FieldEntry). put_sort ss f.sort) fs → head_sort F (head.Build of) ss args ≡ Some (Named of ss)
  record_head of ss args fs t e =
      ap (λ o. o >>= record_sort of ss args) t.declared
      ∙ ap (λ k. elim k [ Fields fs ↦ when (nat_eq (length ss) t.entry.arity && same_sorts args (map (λ (f : FieldEntry). put_sort ss f.sort) fs)) (Named of ss) | Abstract ↦ None | Choices cs ↦ None ]) t.kind
      ∙ ap (λ x. when x (Named of ss))
      (and_from (nat_eq (length ss) t.entry.arity) (same_sorts args (map (λ (f : FieldEntry). put_sort ss f.sort) fs)) (eq-eqb (length ss) t.entry.arity t.arity)
      (decided_of (Sorts_discrete args (map (λ (f : FieldEntry). put_sort ss f.sort) fs)) e))

  pub field_head : (of place : ℕ) (ss : List Sort) (fs : List FieldEntry) (s : Sort) → IsRecordType F of ss fs → field_at ss fs place ≡ Some s → head_sort F (head.Field of place) ss (Named of ss ∷ []) ≡ Some s
  field_head of place ss fs s t e =
      ap (λ o. o >>= field_sort of place ss (Named of ss ∷ [])) t.declared
      ∙ ap (λ k. elim k [ Fields fs ↦ only (nat_eq (length ss) t.entry.arity && same_sorts (Named of ss ∷ []) (Named of ss ∷ [])) (field_at ss fs place) | Abstract ↦ None | Choices cs ↦ None ]) t.kind
      ∙ ap (λ x. only x (field_at ss fs place))
      (and_from (nat_eq (length ss) t.entry.arity) (same_sorts (Named of ss ∷ []) (Named of ss ∷ [])) (eq-eqb (length ss) t.entry.arity t.arity) (same_lists (Named of ss ∷ [])))
      ∙ e

  pub cons_known : (o : Option Sort) (os : Option (List Sort)) (t : Sort) (ts : List Sort) → (o >>= λ x. os >>= λ xs. Some (x ∷ xs)) ≡ Some (t ∷ ts) → (o ≡ Some t) × (os ≡ Some ts)
  cons_known None os t ts e = absurd (none-some (t ∷ ts) e)
  cons_known (Some x) None t ts e = absurd (none-some (t ∷ ts) e)
  cons_known (Some x) (Some xs) t ts e =
      let i = same_Some (x ∷ xs) (t ∷ ts) e in
      (ap Some (cons_head x t xs ts i), ap Some (cons_tail x t xs ts i))

  -- the values that are written, each at its place
  -- one of them, or one of the later ones
  here_or_later : (b : Bool) (v u : Term) (o : Option Term) → elim b [ true ↦ Some v | false ↦ o ] ≡ Some u → ((b ≡ true) × (v ≡ u)) ⊎ (o ≡ Some u)
  here_or_later true v u o e = inl (refl, same_Some v u e)
  here_or_later false v u o e = inr e

  value_sorted : (ss : List Sort) (fs : List FieldEntry) (place : ℕ) (ps : List ℕ) (us : List Term) (args : List Sort) (u : Term) (s : Sort) → AreFieldSorts ss fs ps args → SortsOf us args
      → field_at ss fs place ≡ Some s → value_at place ps us ≡ Some u → SortOf u s
  value_sorted ss fs place [] us args u s a h f e = absurd (none-some u e)
  value_sorted ss fs place (p ∷ ps) [] args u s a h f e = absurd (none-some u e)
  value_sorted ss fs place (p ∷ ps) (v ∷ us) [] u s a h f e = absurd a
  value_sorted ss fs place (p ∷ ps) (v ∷ us) (t ∷ args) u s a h f e =
      let c = cons_known (sort_in F (fits F) E v) (all_known (map (sort_in F (fits F) E) us)) t args h in
      elim (here_or_later (nat_eq place p) v u (value_at place ps us) e) [
        | inl x ↦
            let st : t ≡ s = same_Some t s (sym a.0 ∙ ap (field_at ss fs) (sym (eqb-true place p x.0)) ∙ f) in
            ap (sort_in F (fits F) E) (sym x.1) ∙ c.0 ∙ ap Some st
        | inr y ↦ value_sorted ss fs place ps us args u s a.1 c.1 f y
      ]

  none_listed : (t : Sort) (ts : List Sort) → SortsOf [] (t ∷ ts) → ⊥
  none_listed t ts e = let i = same_Some [] (t ∷ ts) e in let z : ◌≡◌ {A = ℕ} 0 (suc (length ts)) = ap length i in absurd (omega (arith, z))

  first_value : (k p : ℕ) (u : Term) (o : Option Term) → p ≡ k → ◌≡◌ {A = Option Term} (elim (nat_eq k p) [ true ↦ Some u | false ↦ o ]) None → ⊥
  first_value k p u o i e =
      let z : ◌≡◌ {A = Option Term} (elim (nat_eq k p) [ true ↦ Some u | false ↦ o ]) (Some u) = ap (λ (b : Bool). elim b [ true ↦ Some u | false ↦ o ]) (eq-eqb k p (sym i)) in
      none-some u (sym e ∙ z)

  later_value : (b : Bool) (u : Term) (o : Option Term) → ◌≡◌ {A = Option Term} (elim b [ true ↦ Some u | false ↦ o ]) None → o ≡ None
  later_value true u o e = absurd (none-some u (sym e))
  later_value false u o e = e

  module _ (of : ℕ) (ss : List Sort) (fs : List FieldEntry) (base : Term) (ps : List ℕ) (us : List Term) (args : List Sort) (a : AreFieldSorts ss fs ps args) (h : SortsOf us args) where
    abbrev OtherField : ℕ → Type 0
    OtherField place = (s : Sort) → field_at ss fs place ≡ Some s → value_at place ps us ≡ None → SortOf (Apply (head.Field of place) ss (base ∷ [])) s

    one_field : (place : ℕ) (s : Sort) (o : Option Term) → field_at ss fs place ≡ Some s → value_at place ps us ≡ o → OtherField place → SortOf (field_term of ss base place o) s
    one_field place s (Some u) f e k = value_sorted ss fs place ps us args u s a h f e
    one_field place s None f e k = k s f e

    all_fields : (before gs : List FieldEntry) → fs ≡ before ++ gs → ((k : ℕ) → k < length fs → OtherField k)
        → SortsOf (fields_from (length gs) (length before) of ss base ps us) (map (λ (f : FieldEntry). put_sort ss f.sort) gs)
    all_fields before [] e k = refl
    all_fields before (g ∷ gs) e k =
        let place = length before in
        let there : field_at ss fs place ≡ Some (put_sort ss g.sort) = ap (λ o. o >>= λ (f : FieldEntry). Some (put_sort ss f.sort)) (ap (λ xs. slice_get xs place) e ∙ get_seam before gs g) in
        let long : length fs ≡ place + suc (length gs) = ap length e ∙ length-append before (g ∷ gs) in
        let rest = all_fields (before ++ g ∷ []) gs (e ∙ sym (append_assoc before (g ∷ []) gs)) k in
        let next : length (before ++ g ∷ []) ≡ suc place = length-append before (g ∷ []) ∙ omega arith in
        more_sorts (field_term of ss base place (value_at place ps us)) (fields_from (length gs) (suc place) of ss base ps us) (put_sort ss g.sort) (map (λ (f : FieldEntry). put_sort ss f.sort) gs)
        (one_field place (put_sort ss g.sort) (value_at place ps us) there refl (k place (omega (arith, long))))
        (subst (λ (n : ℕ). SortsOf (fields_from (length gs) n of ss base ps us) (map (λ (f : FieldEntry). put_sort ss f.sort) gs)) next rest)

    pub record_sorted : (n : ℕ) → n ≡ length fs → AllFit F ss → IsRecordType F of ss fs → ((k : ℕ) → k < length fs → OtherField k) → SortOf (record_of of ss n base ps us) (Named of ss)
    record_sorted n e fit t k =
        subst (λ (n : ℕ). SortOf (record_of of ss n base ps us) (Named of ss)) (sym e)
        (applied_sort (head.Build of) ss (fields_from (length fs) 0 of ss base ps us) (map (λ (f : FieldEntry). put_sort ss f.sort) fs) (Named of ss) fit
        (all_fields [] fs refl k) (record_head of ss (map (λ (f : FieldEntry). put_sort ss f.sort) fs) fs t refl))

    -- the fields of a base that is a record of the type
    pub from_base : AllFit F ss → IsRecordType F of ss fs → SortOf base (Named of ss) → (k : ℕ) → k < length fs → OtherField k
    from_base fit t b k l s f e = applied_sort (head.Field of k) ss (base ∷ []) (Named of ss ∷ []) s fit (more_sorts base [] (Named of ss) [] b refl) (field_head of k ss fs s t f)

    -- a place that is among those written has a value
    has_value : (ps : List ℕ) (us : List Term) (args : List Sort) (k j : ℕ) → AreFieldSorts ss fs ps args → SortsOf us args → slice_get ps j ≡ Some k → value_at k ps us ≡ None → ⊥
    has_value [] us args k j a h g e = none-some k g
    has_value (p ∷ ps) [] [] k j a h g e = a
    has_value (p ∷ ps) [] (t ∷ args) k j a h g e = none_listed t args h
    has_value (p ∷ ps) (u ∷ us) [] k j a h g e = a
    has_value (p ∷ ps) (u ∷ us) (t ∷ args) k zero a h g e = first_value k p u (value_at k ps us) (same_Some p k g) e
    has_value (p ∷ ps) (u ∷ us) (t ∷ args) k (suc j) a h g e =
        let c = cons_known (sort_in F (fits F) E u) (all_known (map (sort_in F (fits F) E) us)) t args h in
        has_value ps us args k j a.1 c.1 g (later_value (nat_eq k p) u (value_at k ps us) e)

    pub all_written : ((k : ℕ) → k < length fs → (j : ℕ) × (slice_get ps j ≡ Some k)) → (k : ℕ) → k < length fs → OtherField k
    all_written w k l s f e = absurd (let x = w k l in has_value ps us args k x.0 a h x.1 e)

  -- ---- trees
  module _ (m : ℕ → Sort) (env : Env) (core : E ≡ reverse (sorts env)) where
    pub variable_right : (x : ℕ) (s : Sort) → look env x ≡ Some s → SortOf (Bound (distance (numbers env) x)) s
    variable_right x s h =
        sort_in_bound F (fits F) E (distance (numbers env) x)
        ∙ ap (λ xs. slice_get (reverse xs) (distance (numbers env) x)) core
        ∙ ap (λ xs. slice_get xs (distance (numbers env) x)) (reverse-reverse (sorts env))
        ∙ look_at env x s h

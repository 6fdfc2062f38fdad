-- A formula whose sorts are changed part by part is well sorted where it was, and where each changed sort may stand.
use Rattle.std.proofs.Common.{◌≡◌, ◌≢◌, ◌∙◌, ℕ, ℤ, Bool, true, false, ◌&&◌, nat_eq, List, [], ◌∷◌, map, reverse, length, refl, sym, ap, subst, Option}
use Rattle.std.proofs.Common.{Some, None, slice_get}
use Rattle.std.specs.List.{AllByRecursion, list_all, flat_map}
use Rattle.std.specs.Option.{option_map}
use Rattle.std.proofs.lemmas.Bool.{and_parts, and_from, eqb-true, eq-eqb}
use Rattle.std.proofs.lemmas.List.{length-map}
use Rattle.std.proofs.lemmas.Option.{none-some, same_Some, slice_get-map}
use Rattle.ae_base.specs.Options.{◌>>=◌, only, when, all_known}
use Rattle.ae_base.proofs.AllOf.{all_front, all_back}
use Rattle.ae_base.proofs.Decided.{decided_of, decided_yes}
use Rattle.ae_base.proofs.ListFacts.{cons_same, map_reverse, list_all_at, list_all_weaker}
use Rattle.ae_base.proofs.Tests.{three_parts}
use Rattle.ae_base.proofs.Options.{bind_some, only_some, when_some, cons_some}
use Rattle.ae_core.specs.Decided.{Sorts_discrete}
use Rattle.ae_core.specs.Inner.Induction.{by_terms}
use Rattle.ae_core.specs.Putting.{put_sort}
use Rattle.ae_core.specs.Signatures.{is_sort_over, is_field_sort, names_below, is_result, IsLawful, IsLawfulType}
use Rattle.ae_core.specs.Sorts.{sort_in, numeral_ok, head_sort, symbol_sort, record_sort, field_sort, field_at, operands, on_real, same_sorts}
use Rattle.ae_core.proofs.SortLaws.{sort_in_bound, sort_in_num, sort_in_fresh, sort_in_apply}
use Rattle.ae_core.specs.declared.terms.Sort.{Sort, Int, Real, Bool as BoolSort, Unit as UnitSort, Named}
use Rattle.ae_core.specs.declared.terms.Op.{Op}
use Rattle.ae_core.specs.declared.terms.Op.TheVariants as op
use Rattle.ae_core.specs.declared.terms.Head.{Head}
use Rattle.ae_core.specs.declared.terms.Head.TheVariants as head
use Rattle.ae_core.specs.declared.terms.Term.{Term, Bound, Num, Fresh, Apply}
use Rattle.ae_core.specs.declared.problems.Signature.{Signature}
use Rattle.ae_core.specs.declared.problems.TypeEntry.{TypeEntry}
use Rattle.ae_core.specs.declared.problems.FieldEntry.{FieldEntry}
use Rattle.ae_core.specs.declared.problems.Kind.{Kind}
use Rattle.ae_core.specs.declared.problems.Kind.TheVariants.{Abstract, Choices, Fields}
use Rattle.ae_elab.specs.Numbering.{sorts_in_term, with_sorts_term}
use Rattle.ae_lawful_problems.proofs.PutFits.{Changes, put_changed, puts_changed}
use Rattle.ae_elab.proofs.NumberRules.{with_bound, with_num, with_fresh, with_apply, in_fresh, in_apply}

module _ (F : Signature) (law : IsLawful F) (r : Sort → Sort) (change : Changes r) where
  -- ---- heads
  same_from : (xs ys : List Sort) → xs ≡ ys → same_sorts xs ys ≡ true
  same_from xs ys e = decided_of (Sorts_discrete xs ys) e

  symbol_changed : (k : ℕ) (ss args : List Sort) (s : Sort) → head_sort F (head.Symbol k) ss args ≡ Some s → head_sort F (head.Symbol k) (map r ss) (map r args) ≡ Some (r s)
  symbol_changed k ss args s h =
      let x = bind_some (slice_get F.symbols k) (symbol_sort ss args) s h in
      let e = x.0 in
      let b : Bool = nat_eq (length ss) e.vars && same_sorts args (map (put_sort ss) e.args) in
      let y = bind_some (only b e.result) (λ s. Some (put_sort ss s)) s x.2 in
      let z = only_some b e.result y.0 y.1 in
      let parts = and_parts (nat_eq (length ss) e.vars) (same_sorts args (map (put_sort ss) e.args)) z.0 in
      let n : length ss ≡ e.vars = eqb-true (length ss) e.vars parts.0 in
      let entry = law.symbols k e x.1 in
      let over = subst (λ (n : ℕ). list_all (is_sort_over F n) e.args ≡ true) (sym n) entry.0 in
      let result : is_sort_over F (length ss) y.0 ≡ true = subst (λ (n : ℕ). is_sort_over F n y.0 ≡ true) (sym n) (sym (ap (is_result F e.vars) z.1) ∙ entry.1) in
      let args_are : map r args ≡ map (put_sort (map r ss)) e.args = ap (map r) (decided_yes (Sorts_discrete args (map (put_sort ss) e.args)) parts.1) ∙ puts_changed F r change ss e.args over in
      ap (λ o. o >>= symbol_sort (map r ss) (map r args)) x.1
      ∙ ap (λ b. only b e.result >>= λ s. Some (put_sort (map r ss) s))
      (and_from (nat_eq (length (map r ss)) e.vars) (same_sorts (map r args) (map (put_sort (map r ss)) e.args)) (eq-eqb (length (map r ss)) e.vars (length-map ss r ∙ n))
      (same_from (map r args) (map (put_sort (map r ss)) e.args) args_are))
      ∙ ap (λ o. o >>= λ s. Some (put_sort (map r ss) s)) z.1
      ∙ ap Some (sym (put_changed F r change ss y.0 result) ∙ ap r (same_Some (put_sort ss y.0) s y.2))

  fixed_changed : (b : Bool) (t s : Sort) (c : Bool) → r t ≡ t → (b ≡ true → c ≡ true) → when b t ≡ Some s → when c t ≡ Some (r s)
  fixed_changed b t s c e k h =
      let w = when_some b t s h in
      ap (λ x. when x t) (k w.0) ∙ ap Some (sym e ∙ ap r w.1)

  plain_changed : (ss args ts : List Sort) → map r ts ≡ ts → same_sorts ss [] && same_sorts args ts ≡ true → same_sorts (map r ss) [] && same_sorts (map r args) ts ≡ true
  plain_changed ss args ts e h =
      let p = and_parts (same_sorts ss []) (same_sorts args ts) h in
      and_from (same_sorts (map r ss) []) (same_sorts (map r args) ts) (same_from (map r ss) [] (ap (map r) (decided_yes (Sorts_discrete ss []) p.0)))
      (same_from (map r args) ts (ap (map r) (decided_yes (Sorts_discrete args ts) p.1) ∙ e))

  real_changed : (o : Bool) (ss args ts : List Sort) → map r ts ≡ ts → o && same_sorts ss [] && same_sorts args ts ≡ true → o && same_sorts (map r ss) [] && same_sorts (map r args) ts ≡ true
  real_changed o ss args ts e h =
      let p = three_parts o (same_sorts ss []) (same_sorts args ts) h in
      let q = and_parts (same_sorts (map r ss) []) (same_sorts (map r args) ts) (plain_changed ss args ts e (and_from (same_sorts ss []) (same_sorts args ts) p.1 p.2)) in
      and_from (o && same_sorts (map r ss) []) (same_sorts (map r args) ts) (and_from o (same_sorts (map r ss) []) p.0 q.0) q.1

  operands_same : (o : Op) (t : Sort) → r t ≡ t → map r (operands o (t ∷ [])) ≡ operands o (t ∷ [])
  operands_same op.Neg t e = ap (λ s. s ∷ []) e
  operands_same op.Add t e = ap (λ s. s ∷ s ∷ []) e
  operands_same op.Sub t e = ap (λ s. s ∷ s ∷ []) e
  operands_same op.Mul t e = ap (λ s. s ∷ s ∷ []) e
  operands_same op.Div t e = ap (λ s. s ∷ s ∷ []) e
  operands_same op.Mod t e = ap (λ s. s ∷ s ∷ []) e

  -- a record type's fields
  fields_over : (n : ℕ) (x : TypeEntry) (fs : List FieldEntry) → slice_get F.types n ≡ Some x → x.kind ≡ Fields fs → list_all (λ (f : FieldEntry). is_sort_over F x.arity f.sort) fs ≡ true
  fields_over n x fs g q =
      let t : IsLawfulType F n x = law.types n x g in
      let both : (fs ≢ []) × (list_all (λ (f : FieldEntry). is_field_sort F n x.arity f.sort) fs ≡ true) = rw q at t in
      list_all_weaker (λ (f : FieldEntry). is_field_sort F n x.arity f.sort) (λ (f : FieldEntry). is_sort_over F x.arity f.sort)
      (λ f e. (and_parts (is_sort_over F x.arity f.sort) (names_below n f.sort) e).0) fs both.1

  field_sorts : (ss : List Sort) (fs : List FieldEntry) → list_all (λ (f : FieldEntry). is_sort_over F (length ss) f.sort) fs ≡ true
      → map r (map (λ (f : FieldEntry). put_sort ss f.sort) fs) ≡ map (λ (f : FieldEntry). put_sort (map r ss) f.sort) fs
  field_sorts ss [] h = refl
  field_sorts ss (f ∷ fs) h =
      let p = and_parts (is_sort_over F (length ss) f.sort) (list_all (λ (f : FieldEntry). is_sort_over F (length ss) f.sort) fs) h in
      cons_same (r (put_sort ss f.sort)) (put_sort (map r ss) f.sort) (map r (map (λ (f : FieldEntry). put_sort ss f.sort) fs)) (map (λ (f : FieldEntry). put_sort (map r ss) f.sort) fs)
      (put_changed F r change ss f.sort p.0) (field_sorts ss fs p.1)

  record_changed : (n : ℕ) (ss args : List Sort) (s : Sort) (x : TypeEntry) (k : Kind) → slice_get F.types n ≡ Some x → x.kind ≡ k → record_sort n ss args x ≡ Some s
      → record_sort n (map r ss) (map r args) x ≡ Some (r s)
  record_changed n ss args s x (Fields fs) g q h =
      let b : Bool = nat_eq (length ss) x.arity && same_sorts args (map (λ (f : FieldEntry). put_sort ss f.sort) fs) in
      let h' : when b (Named n ss) ≡ Some s = rw q at h in
      let w = when_some b (Named n ss) s h' in
      let parts = and_parts (nat_eq (length ss) x.arity) (same_sorts args (map (λ (f : FieldEntry). put_sort ss f.sort) fs)) w.0 in
      let n' : length ss ≡ x.arity = eqb-true (length ss) x.arity parts.0 in
      let over = subst (λ (z : ℕ). list_all (λ (f : FieldEntry). is_sort_over F z f.sort) fs ≡ true) (sym n') (fields_over n x fs g q) in
      let args_are = ap (map r) (decided_yes (Sorts_discrete args (map (λ (f : FieldEntry). put_sort ss f.sort) fs)) parts.1) ∙ field_sorts ss fs over in
      let whole : when (nat_eq (length (map r ss)) x.arity && same_sorts (map r args) (map (λ (f : FieldEntry). put_sort (map r ss) f.sort) fs)) (Named n (map r ss)) ≡ Some (r s) =
      ap (λ c. when c (Named n (map r ss)))
      (and_from (nat_eq (length (map r ss)) x.arity) (same_sorts (map r args) (map (λ (f : FieldEntry). put_sort (map r ss) f.sort) fs)) (eq-eqb (length (map r ss)) x.arity (length-map ss r ∙ n'))
      (same_from (map r args) (map (λ (f : FieldEntry). put_sort (map r ss) f.sort) fs) args_are))
      ∙ ap Some (sym (change.named n ss) ∙ ap r w.1) in
      rw q whole
  record_changed n ss args s x Abstract g q h = let f : ◌≡◌ {A = Option Sort} None (Some s) = rw q at h in absurd (none-some s f)
  record_changed n ss args s x (Choices cs) g q h = let f : ◌≡◌ {A = Option Sort} None (Some s) = rw q at h in absurd (none-some s f)

  field_changed : (n place : ℕ) (ss args : List Sort) (s : Sort) (x : TypeEntry) (k : Kind) → slice_get F.types n ≡ Some x → x.kind ≡ k → field_sort n place ss args x ≡ Some s
      → field_sort n place (map r ss) (map r args) x ≡ Some (r s)
  field_changed n place ss args s x (Fields fs) g q h =
      let b : Bool = nat_eq (length ss) x.arity && same_sorts args (Named n ss ∷ []) in
      let h' : only b (field_at ss fs place) ≡ Some s = rw q at h in
      let w = only_some b (field_at ss fs place) s h' in
      let parts = and_parts (nat_eq (length ss) x.arity) (same_sorts args (Named n ss ∷ [])) w.0 in
      let n' : length ss ≡ x.arity = eqb-true (length ss) x.arity parts.0 in
      let y = bind_some (slice_get fs place) (λ (f : FieldEntry). Some (put_sort ss f.sort)) s w.1 in
      let over : is_sort_over F (length ss) y.0.sort ≡ true =
      subst (λ (z : ℕ). is_sort_over F z y.0.sort ≡ true) (sym n') (list_all_at (λ (f : FieldEntry). is_sort_over F x.arity f.sort) fs place y.0 (fields_over n x fs g q) y.1) in
      let args_are : map r args ≡ Named n (map r ss) ∷ [] = ap (map r) (decided_yes (Sorts_discrete args (Named n ss ∷ [])) parts.1) ∙ ap (λ z. z ∷ []) (change.named n ss) in
      let whole : only (nat_eq (length (map r ss)) x.arity && same_sorts (map r args) (Named n (map r ss) ∷ [])) (field_at (map r ss) fs place) ≡ Some (r s) =
      ap (λ c. only c (field_at (map r ss) fs place))
      (and_from (nat_eq (length (map r ss)) x.arity) (same_sorts (map r args) (Named n (map r ss) ∷ [])) (eq-eqb (length (map r ss)) x.arity (length-map ss r ∙ n'))
      (same_from (map r args) (Named n (map r ss) ∷ []) args_are))
      ∙ ap (λ o. o >>= λ (f : FieldEntry). Some (put_sort (map r ss) f.sort)) y.1
      ∙ ap Some (sym (put_changed F r change ss y.0.sort over) ∙ ap r (same_Some (put_sort ss y.0.sort) s y.2)) in
      rw q whole
  field_changed n place ss args s x Abstract g q h = let f : ◌≡◌ {A = Option Sort} None (Some s) = rw q at h in absurd (none-some s f)
  field_changed n place ss args s x (Choices cs) g q h = let f : ◌≡◌ {A = Option Sort} None (Some s) = rw q at h in absurd (none-some s f)

  pub head_changed : (h : Head) (ss args : List Sort) (s : Sort) → head_sort F h ss args ≡ Some s → head_sort F h (map r ss) (map r args) ≡ Some (r s)
  head_changed (head.Symbol k) ss args s e = symbol_changed k ss args s e
  head_changed (head.Build n) ss args s e =
      let x = bind_some (slice_get F.types n) (record_sort n ss args) s e in
      ap (λ o. o >>= record_sort n (map r ss) (map r args)) x.1 ∙ record_changed n ss args s x.0 x.0.kind x.1 refl x.2
  head_changed (head.Field n place) ss args s e =
      let x = bind_some (slice_get F.types n) (field_sort n place ss args) s e in
      ap (λ o. o >>= field_sort n place (map r ss) (map r args)) x.1 ∙ field_changed n place ss args s x.0 x.0.kind x.1 refl x.2
  head_changed (head.Int o) ss args s e =
      fixed_changed (same_sorts ss [] && same_sorts args (operands o (Int ∷ []))) Int s (same_sorts (map r ss) [] && same_sorts (map r args) (operands o (Int ∷ []))) change.int
      (plain_changed ss args (operands o (Int ∷ [])) (operands_same o Int change.int)) e
  head_changed (head.Real o) ss args s e =
      fixed_changed (on_real o && same_sorts ss [] && same_sorts args (operands o (Real ∷ []))) Real s (on_real o && same_sorts (map r ss) [] && same_sorts (map r args) (operands o (Real ∷ []))) change.real
      (λ t. real_changed (on_real o) ss args (operands o (Real ∷ [])) (operands_same o Real change.real) t) e
  head_changed head.True ss args s e = fixed_changed (same_sorts ss [] && same_sorts args []) BoolSort s (same_sorts (map r ss) [] && same_sorts (map r args) []) change.bool (plain_changed ss args [] refl) e
  head_changed head.False ss args s e = fixed_changed (same_sorts ss [] && same_sorts args []) BoolSort s (same_sorts (map r ss) [] && same_sorts (map r args) []) change.bool (plain_changed ss args [] refl) e
  head_changed head.Void ss args s e = fixed_changed (same_sorts ss [] && same_sorts args []) UnitSort s (same_sorts (map r ss) [] && same_sorts (map r args) []) change.unit (plain_changed ss args [] refl) e

  -- ---- terms
  module _ (may may' : Sort → Bool) (E : List Sort) where
    abbrev pub Allowed : List Sort → Type 0
    Allowed ss = AllByRecursion (λ s. may s ≡ true → may' (r s) ≡ true) ss

    TermChanged : Term → Type 0
    TermChanged t = (s : Sort) → sort_in F may E t ≡ Some s → Allowed (sorts_in_term t) → sort_in F may' (map r E) (with_sorts_term r t) ≡ Some (r s)

    bound_changed : (i : ℕ) → TermChanged (Bound i)
    unfolding TermChanged
    bound_changed i s h a =
        ap (sort_in F may' (map r E)) (with_bound r i) ∙ sort_in_bound F may' (map r E) i
        ∙ ap (λ xs. slice_get xs i) (sym (map_reverse r E)) ∙ slice_get-map r (reverse E) i ∙ ap (option_map r) (sym (sort_in_bound F may E i) ∙ h)

    num_changed : (a b : ℤ) (k : Bool) → TermChanged (Num a b k)
    unfolding TermChanged
    num_changed a b true s h g =
        ap (sort_in F may' (map r E)) (with_num r a b true) ∙ sort_in_num F may' (map r E) a b true
        ∙ fixed_changed (numeral_ok a b true) Real s (numeral_ok a b true) change.real (λ e. e) (sym (sort_in_num F may E a b true) ∙ h)
    num_changed a b false s h g =
        ap (sort_in F may' (map r E)) (with_num r a b false) ∙ sort_in_num F may' (map r E) a b false
        ∙ fixed_changed (numeral_ok a b false) Int s (numeral_ok a b false) change.int (λ e. e) (sym (sort_in_num F may E a b false) ∙ h)

    fresh_changed : (n : ℕ) (x : Sort) → TermChanged (Fresh n x)
    unfolding TermChanged
    fresh_changed n x s h a =
        let w = when_some (may x) x s (sym (sort_in_fresh F may E n x) ∙ h) in
        let ok = subst Allowed (in_fresh n x) a in
        ap (sort_in F may' (map r E)) (with_fresh r n x) ∙ sort_in_fresh F may' (map r E) n (r x) ∙ ap (λ c. when c (r x)) (ok.0 w.0) ∙ ap (λ z. Some (r z)) w.1

    args_changed : (us : List Term) (args : List Sort) → AllByRecursion TermChanged us → all_known (map (sort_in F may E) us) ≡ Some args → Allowed (flat_map (λ u. u) (map sorts_in_term us))
        → all_known (map (sort_in F may' (map r E)) (map (with_sorts_term r) us)) ≡ Some (map r args)
    unfolding TermChanged
    args_changed [] args c h a = ap (λ (xs : List Sort). Some (map r xs)) (same_Some [] args h)
    args_changed (u ∷ us) args c h a =
        let x = cons_some (sort_in F may E u) (all_known (map (sort_in F may E) us)) args h in
        let one = c.0 x.0 x.2 (all_front (λ s. may s ≡ true → may' (r s) ≡ true) (sorts_in_term u) (flat_map (λ u. u) (map sorts_in_term us)) a) in
        let rest = args_changed us x.1 c.1 x.3 (all_back (λ s. may s ≡ true → may' (r s) ≡ true) (sorts_in_term u) (flat_map (λ u. u) (map sorts_in_term us)) a) in
        ap (λ o. o >>= λ z. all_known (map (sort_in F may' (map r E)) (map (with_sorts_term r) us)) >>= λ zs. Some (z ∷ zs)) one
        ∙ ap (λ o. o >>= λ zs. Some (r x.0 ∷ zs)) rest
        ∙ ap (λ (xs : List Sort). Some (map r xs)) x.4

    allowed_all : (ss : List Sort) → list_all may ss ≡ true → Allowed ss → list_all may' (map r ss) ≡ true
    allowed_all [] h a = refl
    allowed_all (s ∷ ss) h a =
        let p = and_parts (may s) (list_all may ss) h in
        and_from (may' (r s)) (list_all may' (map r ss)) (a.0 p.0) (allowed_all ss p.1 a.1)

    apply_changed : (h : Head) (ss : List Sort) (us : List Term) → AllByRecursion TermChanged us → TermChanged (Apply h ss us)
    unfolding TermChanged
    apply_changed h ss us c s e a =
        let x = bind_some (only (list_all may ss) (all_known (map (sort_in F may E) us))) (head_sort F h ss) s (sym (sort_in_apply F may E h ss us) ∙ e) in
        let w = only_some (list_all may ss) (all_known (map (sort_in F may E) us)) x.0 x.1 in
        let all = subst Allowed (in_apply h ss us) a in
        let front = all_front (λ s. may s ≡ true → may' (r s) ≡ true) ss (flat_map (λ u. u) (map sorts_in_term us)) all in
        let rest = args_changed us x.0 c w.1 (all_back (λ s. may s ≡ true → may' (r s) ≡ true) ss (flat_map (λ u. u) (map sorts_in_term us)) all) in
        ap (sort_in F may' (map r E)) (with_apply r h ss us) ∙ sort_in_apply F may' (map r E) h (map r ss) (map (with_sorts_term r) us)
        ∙ ap (λ b. only b (all_known (map (sort_in F may' (map r E)) (map (with_sorts_term r) us))) >>= head_sort F h (map r ss)) (allowed_all ss w.0 front)
        ∙ ap (λ o. o >>= head_sort F h (map r ss)) rest
        ∙ head_changed h ss x.0 s x.2

    pub term_changed : (t : Term) (s : Sort) → sort_in F may E t ≡ Some s → Allowed (sorts_in_term t) → sort_in F may' (map r E) (with_sorts_term r t) ≡ Some (r s)
    unfolding TermChanged
    term_changed = by_terms TermChanged bound_changed num_changed fresh_changed apply_changed

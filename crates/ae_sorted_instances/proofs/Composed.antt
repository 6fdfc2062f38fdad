-- Sorts put into what sorts were put into, and the sort of an application whose sorts are put into.
use Rattle.std.specs.Prelude.{ℕ, ◌<◌, Bool, true, false, ◌&&◌, nat_lt, nat_eq, List, [], ◌∷◌, ◌≡◌, ◌≢◌, map, length, slice_get, Option, Some, None}
use Rattle.std.specs.List.{AllByRecursion, list_all}
use Rattle.std.proofs.Common.{refl, sym, ap, ◌∙◌}
use Rattle.std.proofs.lemmas.Bool.{and_from, and_parts, eqb-true, ltb-true}
use Rattle.std.proofs.lemmas.List.{length-map}
use Rattle.std.proofs.lemmas.Option.{same_Some}
use Rattle.ae_base.specs.Options.{or_else, ◌>>=◌, only, when}
use Rattle.ae_base.proofs.AllOf.{all_always}
use Rattle.ae_base.proofs.Decided.{decided_of, decided_yes}
use Rattle.ae_base.proofs.ListFacts.{get_map, list_all_at, value_at}
use Rattle.ae_base.proofs.Options.{bind_some, never_some, only_some, when_some}
use Rattle.ae_base.proofs.Tests.{false_true, three_parts}
use Rattle.ae_core.specs.Decided.{Sorts_discrete}
use Rattle.ae_core.specs.Inner.Induction.{by_sorts}
use Rattle.ae_core.specs.Putting.{put_sort}
use Rattle.ae_core.specs.Signatures.{names_below, is_sort_over, is_field_sort, is_result, IsLawful, IsLawfulType}
use Rattle.ae_core.specs.Sorts.{type_fits, head_sort, symbol_sort, record_sort, field_sort, field_at, same_sorts, operands, on_real}
use Rattle.ae_core.specs.declared.problems.FieldEntry.{FieldEntry}
use Rattle.ae_core.specs.declared.problems.Kind.{Kind}
use Rattle.ae_core.specs.declared.problems.Kind.TheVariants.{Abstract, Choices, Fields}
use Rattle.ae_core.specs.declared.problems.Signature.{Signature}
use Rattle.ae_core.specs.declared.problems.SymbolEntry.{SymbolEntry}
use Rattle.ae_core.specs.declared.problems.TypeEntry.{TypeEntry}
use Rattle.ae_core.specs.declared.terms.Head.{Head}
use Rattle.ae_core.specs.declared.terms.Head.TheVariants as head
use Rattle.ae_core.specs.declared.terms.Op.{Op}
use Rattle.ae_core.specs.declared.terms.Op.TheVariants as op
use Rattle.ae_core.specs.declared.terms.Sort.{Sort, Var, Rigid, Int, Real, Bool as BoolSort, Unit as UnitSort, Named}
use Rattle.ae_core.proofs.PuttingLaws.{put_var, put_int, put_real, put_bool, put_unit, put_named}
use Rattle.ae_core.proofs.SortLaws.{ok_var, ok_rigid, ok_named}

-- ---- sorts
module _ (sig : Signature) (ss : List Sort) where
  -- sorts put into what the sorts os were put into
  abbrev Composes : List Sort → Sort → Type 0
  Composes os s = is_sort_over sig (length os) s ≡ true → put_sort ss (put_sort os s) ≡ put_sort (map (put_sort ss) os) s

  var_composes : (os : List Sort) (i : ℕ) → Composes os (Var i)
  var_composes os i h =
      let l : i < length os = ltb-true i (length os) (sym (ok_var sig (λ i. nat_lt i (length os)) (λ i. false) i) ∙ h) in
      let v = value_at os i l in
      let here : put_sort os (Var i) ≡ v.0 = put_var os i ∙ ap (λ (o : Option Sort). or_else o (Var i)) v.1 in
      let there : put_sort (map (put_sort ss) os) (Var i) ≡ put_sort ss v.0 = put_var (map (put_sort ss) os) i ∙ ap (λ (o : Option Sort). or_else o (Var i)) (get_map (put_sort ss) os i v.0 v.1) in
      ap (put_sort ss) here ∙ sym there

  rigid_composes : (os : List Sort) (i : ℕ) → Composes os (Rigid i)
  rigid_composes os i h = false_true (sym (ok_rigid sig (λ i. nat_lt i (length os)) (λ i. false) i) ∙ h)

  flat_composes : (os : List Sort) (s : Sort) → put_sort os s ≡ s → put_sort ss s ≡ s → put_sort (map (put_sort ss) os) s ≡ s → Composes os s
  flat_composes os s a b c h = ap (put_sort ss) a ∙ b ∙ sym c

  all_compose : (os args : List Sort) → AllByRecursion (Composes os) args → list_all (is_sort_over sig (length os)) args ≡ true
      → map (put_sort ss) (map (put_sort os) args) ≡ map (put_sort (map (put_sort ss) os)) args
  all_compose os [] a h = refl
  all_compose os (s ∷ args) a h =
      let p = and_parts (is_sort_over sig (length os) s) (list_all (is_sort_over sig (length os)) args) h in
      λ i. a.0 p.0 i ∷ all_compose os args a.1 p.1 i

  named_composes : (os : List Sort) (h : ℕ) (args : List Sort) → AllByRecursion (Composes os) args → Composes os (Named h args)
  named_composes os h args a e =
      let p = and_parts (type_fits sig h (length args)) (list_all (is_sort_over sig (length os)) args) (sym (ok_named sig (λ i. nat_lt i (length os)) (λ i. false) h args) ∙ e) in
      ap (put_sort ss) (put_named os h args) ∙ put_named ss h (map (put_sort os) args) ∙ ap (Named h) (all_compose os args a p.1) ∙ sym (put_named (map (put_sort ss) os) h args)

  composes : (os : List Sort) (s : Sort) → Composes os s
  composes os =
      by_sorts (Composes os) (var_composes os) (rigid_composes os)
      (flat_composes os Int (put_int os) (put_int ss) (put_int (map (put_sort ss) os)))
      (flat_composes os Real (put_real os) (put_real ss) (put_real (map (put_sort ss) os)))
      (flat_composes os BoolSort (put_bool os) (put_bool ss) (put_bool (map (put_sort ss) os)))
      (flat_composes os UnitSort (put_unit os) (put_unit ss) (put_unit (map (put_sort ss) os)))
      (named_composes os)

  pub each_composes : (os args : List Sort) → list_all (is_sort_over sig (length os)) args ≡ true → map (put_sort ss) (map (put_sort os) args) ≡ map (put_sort (map (put_sort ss) os)) args
  each_composes os args h = all_compose os args (all_always (Composes os) (composes os) args) h

  fields_compose : (n : ℕ) (os : List Sort) (fs : List FieldEntry) → list_all (λ (f : FieldEntry). is_field_sort sig n (length os) f.sort) fs ≡ true
      → map (put_sort ss) (map (λ (f : FieldEntry). put_sort os f.sort) fs) ≡ map (λ (f : FieldEntry). put_sort (map (put_sort ss) os) f.sort) fs
  fields_compose n os [] h = refl
  fields_compose n os (f ∷ fs) h =
      let p = and_parts (is_field_sort sig n (length os) f.sort) (list_all (λ (f : FieldEntry). is_field_sort sig n (length os) f.sort) fs) h in
      let q = and_parts (is_sort_over sig (length os) f.sort) (names_below n f.sort) p.0 in
      λ i. composes os f.sort q.0 i ∷ fields_compose n os fs p.1 i

  -- ---- arguments that fit
  pub fits_put : (os args wanted wanted' : List Sort) (n : ℕ) → nat_eq (length os) n && same_sorts args wanted ≡ true → map (put_sort ss) wanted ≡ wanted'
      → nat_eq (length (map (put_sort ss) os)) n && same_sorts (map (put_sort ss) args) wanted' ≡ true
  fits_put os args wanted wanted' n h e =
      let p = and_parts (nat_eq (length os) n) (same_sorts args wanted) h in
      and_from _ _ (ap (λ (k : ℕ). nat_eq k n) (length-map os (put_sort ss)) ∙ p.0)
      (decided_of (Sorts_discrete (map (put_sort ss) args) wanted') (ap (map (put_sort ss)) (decided_yes (Sorts_discrete args wanted) p.1) ∙ e))

  same_put : (args wanted : List Sort) → map (put_sort ss) wanted ≡ wanted → same_sorts args wanted ≡ true → same_sorts (map (put_sort ss) args) wanted ≡ true
  same_put args wanted e h = decided_of (Sorts_discrete (map (put_sort ss) args) wanted) (ap (map (put_sort ss)) (decided_yes (Sorts_discrete args wanted) h) ∙ e)

  flat_put : (os args wanted : List Sort) (r s : Sort) → map (put_sort ss) wanted ≡ wanted → put_sort ss r ≡ r → when (same_sorts os [] && same_sorts args wanted) r ≡ Some s
      → when (same_sorts (map (put_sort ss) os) [] && same_sorts (map (put_sort ss) args) wanted) r ≡ Some (put_sort ss s)
  flat_put os args wanted r s k f e =
      let w = when_some (same_sorts os [] && same_sorts args wanted) r s e in
      let q = and_parts (same_sorts os []) (same_sorts args wanted) w.0 in
      let t : same_sorts (map (put_sort ss) os) [] && same_sorts (map (put_sort ss) args) wanted ≡ true = and_from _ _ (same_put os [] refl q.0) (same_put args wanted k q.1) in
      ap (λ (b : Bool). when b r) t ∙ ap (λ (z : Sort). Some z) (sym f ∙ ap (put_sort ss) w.1)

  real_put : (o : Op) (os args wanted : List Sort) (s : Sort) → map (put_sort ss) wanted ≡ wanted → when (on_real o && same_sorts os [] && same_sorts args wanted) Real ≡ Some s
      → when (on_real o && same_sorts (map (put_sort ss) os) [] && same_sorts (map (put_sort ss) args) wanted) Real ≡ Some (put_sort ss s)
  real_put o os args wanted s k e =
      let w = when_some (on_real o && same_sorts os [] && same_sorts args wanted) Real s e in
      let q = three_parts (on_real o) (same_sorts os []) (same_sorts args wanted) w.0 in
      let t : on_real o && same_sorts (map (put_sort ss) os) [] && same_sorts (map (put_sort ss) args) wanted ≡ true =
      and_from _ _ (and_from _ _ q.0 (same_put os [] refl q.1)) (same_put args wanted k q.2) in
      ap (λ (b : Bool). when b Real) t ∙ ap (λ (z : Sort). Some z) (sym (put_real ss) ∙ ap (put_sort ss) w.1)

  operands_put : (o : Op) (s : Sort) → put_sort ss s ≡ s → map (put_sort ss) (operands o (s ∷ [])) ≡ operands o (s ∷ [])
  operands_put op.Neg s e = λ i. e i ∷ []
  operands_put op.Add s e = λ i. e i ∷ e i ∷ []
  operands_put op.Sub s e = λ i. e i ∷ e i ∷ []
  operands_put op.Mul s e = λ i. e i ∷ e i ∷ []
  operands_put op.Div s e = λ i. e i ∷ e i ∷ []
  operands_put op.Mod s e = λ i. e i ∷ e i ∷ []

  -- ---- applications
  module _ (law : IsLawful sig) where
    symbol_put : (n : ℕ) (os args : List Sort) (s : Sort) → head_sort sig (head.Symbol n) os args ≡ Some s → head_sort sig (head.Symbol n) (map (put_sort ss) os) (map (put_sort ss) args) ≡ Some (put_sort ss s)
    symbol_put n os args s e =
        let x = bind_some (slice_get sig.symbols n) (symbol_sort os args) s e in
        let b : Bool = nat_eq (length os) x.0.vars && same_sorts args (map (put_sort os) x.0.args) in
        let y = bind_some (only b x.0.result) (λ s. Some (put_sort os s)) s x.2 in
        let z = only_some b x.0.result y.0 y.1 in
        let l : length os ≡ x.0.vars = eqb-true (length os) x.0.vars (and_parts (nat_eq (length os) x.0.vars) (same_sorts args (map (put_sort os) x.0.args)) z.0).0 in
        let given = law.symbols n x.0 x.1 in
        let over : is_sort_over sig (length os) y.0 ≡ true = ap (λ (k : ℕ). is_sort_over sig k y.0) l ∙ (ap (is_result sig x.0.vars) (sym z.1) ∙ given.1) in
        let each : list_all (is_sort_over sig (length os)) x.0.args ≡ true = ap (λ (k : ℕ). list_all (is_sort_over sig k) x.0.args) l ∙ given.0 in
        let t = fits_put os args (map (put_sort os) x.0.args) (map (put_sort (map (put_sort ss) os)) x.0.args) x.0.vars z.0 (each_composes os x.0.args each) in
        ap (λ (o : Option SymbolEntry). o >>= symbol_sort (map (put_sort ss) os) (map (put_sort ss) args)) x.1
        ∙ ap (λ (c : Bool). only c x.0.result >>= λ s. Some (put_sort (map (put_sort ss) os) s)) t
        ∙ ap (λ (o : Option Sort). o >>= λ s. Some (put_sort (map (put_sort ss) os) s)) z.1
        ∙ ap (λ (v : Sort). Some v) (sym (composes os y.0 over) ∙ ap (put_sort ss) (same_Some (put_sort os y.0) s y.2))

    record_put : (n : ℕ) (os args : List Sort) (s : Sort) (x : TypeEntry) (k : Kind) → slice_get sig.types n ≡ Some x → x.kind ≡ k → record_sort n os args x ≡ Some s
        → record_sort n (map (put_sort ss) os) (map (put_sort ss) args) x ≡ Some (put_sort ss s)
    record_put n os args s x (Fields fs) p q e =
        let b : Bool = nat_eq (length os) x.arity && same_sorts args (map (λ (f : FieldEntry). put_sort os f.sort) fs) in
        let e' : when b (Named n os) ≡ Some s = rw q at e in
        let w = when_some b (Named n os) s e' in
        let l : length os ≡ x.arity = eqb-true (length os) x.arity (and_parts (nat_eq (length os) x.arity) (same_sorts args (map (λ (f : FieldEntry). put_sort os f.sort) fs)) w.0).0 in
        let law' : IsLawfulType sig n x = law.types n x p in
        let both : (fs ≢ []) × (list_all (λ (f : FieldEntry). is_field_sort sig n x.arity f.sort) fs ≡ true) = rw q at law' in
        let each : list_all (λ (f : FieldEntry). is_field_sort sig n (length os) f.sort) fs ≡ true = ap (λ (k : ℕ). list_all (λ (f : FieldEntry). is_field_sort sig n k f.sort) fs) l ∙ both.1 in
        let t = fits_put os args (map (λ (f : FieldEntry). put_sort os f.sort) fs) (map (λ (f : FieldEntry). put_sort (map (put_sort ss) os) f.sort) fs) x.arity w.0 (fields_compose n os fs each) in
        rw q (ap (λ (c : Bool). when c (Named n (map (put_sort ss) os))) t ∙ ap (λ (v : Sort). Some v) (sym (put_named ss n os) ∙ ap (put_sort ss) w.1))
    record_put n os args s x Abstract p q e = never_some s (let f : ◌≡◌ {A = Option Sort} None (Some s) = rw q at e in f)
    record_put n os args s x (Choices cs) p q e = never_some s (let f : ◌≡◌ {A = Option Sort} None (Some s) = rw q at e in f)

    field_put : (n place : ℕ) (os args : List Sort) (s : Sort) (x : TypeEntry) (k : Kind) → slice_get sig.types n ≡ Some x → x.kind ≡ k → field_sort n place os args x ≡ Some s
        → field_sort n place (map (put_sort ss) os) (map (put_sort ss) args) x ≡ Some (put_sort ss s)
    field_put n place os args s x (Fields fs) p q e =
        let b : Bool = nat_eq (length os) x.arity && same_sorts args (Named n os ∷ []) in
        let e' : only b (field_at os fs place) ≡ Some s = rw q at e in
        let w = only_some b (field_at os fs place) s e' in
        let l : length os ≡ x.arity = eqb-true (length os) x.arity (and_parts (nat_eq (length os) x.arity) (same_sorts args (Named n os ∷ [])) w.0).0 in
        let y = bind_some (slice_get fs place) (λ (f : FieldEntry). Some (put_sort os f.sort)) s w.1 in
        let law' : IsLawfulType sig n x = law.types n x p in
        let both : (fs ≢ []) × (list_all (λ (f : FieldEntry). is_field_sort sig n x.arity f.sort) fs ≡ true) = rw q at law' in
        let one : is_field_sort sig n x.arity y.0.sort ≡ true = list_all_at (λ (f : FieldEntry). is_field_sort sig n x.arity f.sort) fs place y.0 both.1 y.1 in
        let over : is_sort_over sig (length os) y.0.sort ≡ true = ap (λ (k : ℕ). is_sort_over sig k y.0.sort) l ∙ (and_parts (is_sort_over sig x.arity y.0.sort) (names_below n y.0.sort) one).0 in
        let t = fits_put os args (Named n os ∷ []) (Named n (map (put_sort ss) os) ∷ []) x.arity w.0 (λ i. put_named ss n os i ∷ []) in
        rw q (ap (λ (c : Bool). only c (field_at (map (put_sort ss) os) fs place)) t
        ∙ ap (λ (o : Option FieldEntry). o >>= λ f. Some (put_sort (map (put_sort ss) os) f.sort)) y.1
        ∙ ap (λ (v : Sort). Some v) (sym (composes os y.0.sort over) ∙ ap (put_sort ss) (same_Some (put_sort os y.0.sort) s y.2)))
    field_put n place os args s x Abstract p q e = never_some s (let f : ◌≡◌ {A = Option Sort} None (Some s) = rw q at e in f)
    field_put n place os args s x (Choices cs) p q e = never_some s (let f : ◌≡◌ {A = Option Sort} None (Some s) = rw q at e in f)

    -- the sort of an application is put into where its sorts and those of its arguments are
    pub head_put : (h : Head) (os args : List Sort) (s : Sort) → head_sort sig h os args ≡ Some s → head_sort sig h (map (put_sort ss) os) (map (put_sort ss) args) ≡ Some (put_sort ss s)
    head_put (head.Symbol n) os args s e = symbol_put n os args s e
    head_put (head.Build n) os args s e =
        let x = bind_some (slice_get sig.types n) (record_sort n os args) s e in
        ap (λ (o : Option TypeEntry). o >>= record_sort n (map (put_sort ss) os) (map (put_sort ss) args)) x.1 ∙ record_put n os args s x.0 x.0.kind x.1 refl x.2
    head_put (head.Field n place) os args s e =
        let x = bind_some (slice_get sig.types n) (field_sort n place os args) s e in
        ap (λ (o : Option TypeEntry). o >>= field_sort n place (map (put_sort ss) os) (map (put_sort ss) args)) x.1 ∙ field_put n place os args s x.0 x.0.kind x.1 refl x.2
    head_put (head.Int o) os args s e = flat_put os args (operands o (Int ∷ [])) Int s (operands_put o Int (put_int ss)) (put_int ss) e
    head_put (head.Real o) os args s e = real_put o os args (operands o (Real ∷ [])) s (operands_put o Real (put_real ss)) e
    head_put head.True os args s e = flat_put os args [] BoolSort s refl (put_bool ss) e
    head_put head.False os args s e = flat_put os args [] BoolSort s refl (put_bool ss) e
    head_put head.Void os args s e = flat_put os args [] UnitSort s refl (put_unit ss) e

-- Each closed sort has a value, a tree where it is a thing.
use Rattle.std.specs.Prelude.{ℕ, zero, suc, ◌<◌, pos, Bool, true, false, cond, ◌&&◌, ◌||◌, nat_eq, nat_lt, List, [], ◌∷◌, ◌≡◌, map, length, slice_get}
use Rattle.std.specs.Prelude.{Option, Some, None}
use Rattle.std.specs.List.{AllByRecursion, list_all, list_any}
use Rattle.std.proofs.Common.{refl, sym, ap, ◌∙◌, subst, true≢false, arith}
use Rattle.std.proofs.Math.Bool.{or-true}
use Rattle.std.proofs.lemmas.Bool.{and_parts, eqb-true, ltb-true}
use Rattle.std.proofs.lemmas.List.{length-map, nil_from_length}
use Rattle.std.proofs.lemmas.List.Folds.{list_all-map}
use Rattle.ae_math.specs.Fractions.{ℚ, zero_ℚ, whole}
use Rattle.ae_core.specs.Inner.Induction.{by_sorts}
use Rattle.ae_base.specs.Options.{◌>>=◌, or_else}
use Rattle.ae_core.specs.Putting.{put_sort}
use Rattle.ae_core.specs.Sorts.{type_fits, is_closed_sort}
use Rattle.ae_core.specs.Signatures.{is_sort_over, is_field_sort, names_below, names_below_step}
use Rattle.ae_core.proofs.PuttingLaws.{put_var, put_int, put_real, put_bool, put_unit, put_named}
use Rattle.ae_core.proofs.SortLaws.{ok_var, ok_rigid, ok_named}
use Rattle.ae_core.specs.declared.terms.Sort.{Sort, Var, Rigid, Int, Real, Bool as BoolSort, Unit as UnitSort, Named, fold-roll-Sort}
use Rattle.ae_core.specs.declared.terms.Sort.TheOpen as sort_layer
use Rattle.ae_core.specs.declared.terms.Sort.TheVariants.{rolls-Named}
use Rattle.ae_core.specs.declared.problems.Signature.{Signature}
use Rattle.ae_core.specs.declared.problems.TypeEntry.{TypeEntry}
use Rattle.ae_core.specs.declared.problems.FieldEntry.{FieldEntry}
use Rattle.ae_core.specs.declared.problems.Kind.{Kind}
use Rattle.ae_core.specs.declared.problems.Kind.TheVariants.{Abstract, Choices, Fields}
use Rattle.ae_base.proofs.Options.{never_some}
use Rattle.ae_base.proofs.Tests.{nat_eq_itself}
use Rattle.ae_base.proofs.Decided.{decided_of}
use Rattle.ae_models.proofs.Entries.{HasLawfulEntries}
use Rattle.ae_models.specs.Structures.{Value, Element, Number, Truth, Void, field_sorts}
use Rattle.ae_models.specs.Trees.{Tree, Atom, Record}
use Rattle.std.proofs.lemmas.Option.{same_Some}
use Rattle.ae_models.proofs.ModelTerms.{out_int, out_real, out_bool, out_unit, out_named, out_rigid}
use Rattle.ae_models.proofs.ModelRules.{KindSays}
use Rattle.ae_models.proofs.Trees.Wholes.{whole_or_not}
use Rattle.ae_models.proofs.Trees.Shapes.{tuple, layer_fits, fits, no_sorts, nowhere, kind_takes, layer_takes, kind_fields, record_fields, is_record}
use Rattle.ae_models.proofs.Trees.Shapes.{measured, tree_sort, sorted_value, all_fit, all_fit_more}

-- a number of a list is one of it
pub is_among : (cs : List ℕ) (k c : ℕ) → slice_get cs k ≡ Some c → list_any (nat_eq c) cs ≡ true
is_among [] k c e = never_some c e
is_among (d ∷ cs) zero c e = (λ i. nat_eq c (same_Some d c e i) || list_any (nat_eq c) cs) ∙ ap (λ b. b || list_any (nat_eq c) cs) (nat_eq_itself c)
is_among (d ∷ cs) (suc k) c e = ap (λ b. nat_eq c d || b) (is_among cs k c e) ∙ or-true (nat_eq c d)

names_below_named : (n h : ℕ) (ss : List Sort) → names_below n (Named h ss) ≡ nat_lt h n && list_all (names_below n) ss
unfolding names_below
names_below_named n h ss =
    ap (names_below n) (sym (rolls-Named h ss)) ∙ fold-roll-Sort Bool (names_below_step n) (sort_layer.Named h ss)
    ∙ ap (λ b. nat_lt h n && b) (list_all-map (λ b. b) (names_below n) ss)

module _ (sig : Signature) (lawful : HasLawfulEntries sig) where
  abbrev pub Inhabited : Sort → Type 0
  Inhabited s = (v : Value Tree ℚ) × (fits s (sorted_value sig v) ≡ true)

  pub thing_fits : (n : ℕ) (ss : List Sort) (t : Tree) → tree_sort sig t ≡ Named n ss
      → fits (Named n ss) (sorted_value sig (Element t)) ≡ true
  thing_fits n ss t e = subst (λ l. layer_fits (Named n ss) l (Element (tree_sort sig t)) ≡ true) (sym (out_named n ss)) (decided_of _ e)

  rigid_inhabited : (i : ℕ) → Inhabited (Rigid i)
  rigid_inhabited i =
      let is : tree_sort sig (Atom 0 (Rigid i)) ≡ Rigid i = ap (λ l. cond (layer_takes sig 0 l) (Rigid i) nowhere) (out_rigid i) in
      (Element (Atom 0 (Rigid i)), subst (λ l. layer_fits (Rigid i) l (Element (tree_sort sig (Atom 0 (Rigid i)))) ≡ true) (sym (out_rigid i)) (decided_of _ is))

  pub whole_fits : fits Int (Number (whole (pos 0))) ≡ true
  whole_fits = subst (λ l. layer_fits Int l (Number (whole (pos 0))) ≡ true) (sym out_int) (decided_of (whole_or_not (whole (pos 0))) (pos 0, refl))

  int_inhabited : Inhabited Int
  int_inhabited = (Number (whole (pos 0)), whole_fits)

  real_inhabited : Inhabited Real
  real_inhabited = (Number zero_ℚ, ap (λ l. layer_fits Real l (Number zero_ℚ)) out_real)

  bool_inhabited : Inhabited BoolSort
  bool_inhabited = (Truth true, ap (λ l. layer_fits BoolSort l (Truth true)) out_bool)

  unit_inhabited : Inhabited UnitSort
  unit_inhabited = (Void, ap (λ l. layer_fits UnitSort l Void) out_unit)

  -- a thing without parts has its sort where that takes it
  pub atom_sort : (n h : ℕ) (ss : List Sort) (e : TypeEntry) (k : Kind) → slice_get sig.types h ≡ Some e → e.kind ≡ k
      → kind_takes sig n ss k ≡ true → tree_sort sig (Atom n (Named h ss)) ≡ Named h ss
  atom_sort n h ss e k g is takes =
      let at : or_else (slice_get sig.types h >>= λ e. Some (kind_takes sig n ss e.kind)) false ≡ true = ap (λ o. or_else (o >>= λ e. Some (kind_takes sig n ss e.kind)) false) g ∙ ap (kind_takes sig n ss) is ∙ takes in
      ap (λ l. cond (layer_takes sig n l) (Named h ss) nowhere) (out_named h ss) ∙ ap (λ b. cond b (Named h ss) nowhere) at

  -- a record has its sort where its fields have theirs
  pub record_tree_sort : (h : ℕ) (ss : List Sort) (e : TypeEntry) (fs : List FieldEntry) (t : Tree) → slice_get sig.types h ≡ Some e
      → e.kind ≡ Fields fs → (measured sig t).1 (field_sorts ss fs) ≡ true
      → tree_sort sig (Record h ss t) ≡ Named h ss
  record_tree_sort h ss e fs t g is fit =
      let at : record_fields sig h ss ≡ Some (field_sorts ss fs) = ap (λ o. o >>= λ e. kind_fields sig ss e.kind) g ∙ ap (kind_fields sig ss) is in
      ap (λ o. cond (is_record sig o (measured sig t).1) (Named h ss) nowhere) at ∙ ap (λ b. cond b (Named h ss) nowhere) fit

  sort_at : (ss : List Sort) (i : ℕ) → i < length ss → AllByRecursion Inhabited ss → (d : Sort) → Inhabited (or_else (slice_get ss i) d)
  sort_at [] i l all d = absurd (omega (arith, l))
  sort_at (s ∷ ss) zero l all d = all.0
  sort_at (s ∷ ss) (suc i) l all d = sort_at ss i (omega (arith, l)) all.1 d

  -- the types of smaller number than n have values for each inhabited sorts
  abbrev Below : ℕ → Type 0
  Below n = (h : ℕ) → h < n → (ss : List Sort) → type_fits sig h (length ss) ≡ true → AllByRecursion Inhabited ss → Inhabited (Named h ss)

  module _ (n : ℕ) (below : Below n) (ss : List Sort) (inhabited : AllByRecursion Inhabited ss) where
    abbrev Put : Sort → Type 0
    Put s = names_below n s ≡ true → is_sort_over sig (length ss) s ≡ true → Inhabited (put_sort ss s)

    all_put : (rs : List Sort) → AllByRecursion Put rs → list_all (names_below n) rs ≡ true
        → list_all (is_sort_over sig (length ss)) rs ≡ true → AllByRecursion Inhabited (map (put_sort ss) rs)
    all_put [] all b o = tt
    all_put (r ∷ rs) all b o =
        let p = and_parts (names_below n r) (list_all (names_below n) rs) b in
        let q = and_parts (is_sort_over sig (length ss) r) (list_all (is_sort_over sig (length ss)) rs) o in
        (all.0 p.0 q.0, all_put rs all.1 p.1 q.1)

    named_put : (h : ℕ) (rs : List Sort) → AllByRecursion Put rs → Put (Named h rs)
    named_put h rs all b o =
        let p = and_parts (nat_lt h n) (list_all (names_below n) rs) (sym (names_below_named n h rs) ∙ b) in
        let q = and_parts (type_fits sig h (length rs)) (list_all (is_sort_over sig (length ss)) rs) (sym (ok_named sig _ _ h rs) ∙ o) in
        let fit : type_fits sig h (length (map (put_sort ss) rs)) ≡ true = ap (type_fits sig h) (length-map rs (put_sort ss)) ∙ q.0 in
        let less : h < n = ltb-true h n p.0 in
        subst Inhabited (sym (put_named ss h rs)) (below h less (map (put_sort ss) rs) fit (all_put rs all p.1 q.1))

    put_inhabited : (s : Sort) → Put s
    put_inhabited =
        by_sorts Put
        (λ i b o. subst Inhabited (sym (put_var ss i)) (sort_at ss i (ltb-true i (length ss) (sym (ok_var sig _ _ i) ∙ o)) inhabited (Var i)))
        (λ i b o. absurd (true≢false (sym o ∙ ok_rigid sig _ _ i)))
        (λ b o. subst Inhabited (sym (put_int ss)) int_inhabited)
        (λ b o. subst Inhabited (sym (put_real ss)) real_inhabited)
        (λ b o. subst Inhabited (sym (put_bool ss)) bool_inhabited)
        (λ b o. subst Inhabited (sym (put_unit ss)) unit_inhabited)
        named_put

    -- the fields of a record have values
    some_fields : (fs : List FieldEntry) → list_all (λ f. is_field_sort sig n (length ss) f.sort) fs ≡ true
        → (vs : List (Value Tree ℚ)) × (all_fit sig (field_sorts ss fs) vs ≡ true)
    some_fields [] o = ([], refl)
    some_fields (f ∷ fs) o =
        let p = and_parts (is_field_sort sig n (length ss) f.sort) (list_all (λ f. is_field_sort sig n (length ss) f.sort) fs) o in
        let q = and_parts (is_sort_over sig (length ss) f.sort) (names_below n f.sort) p.0 in
        let v = put_inhabited f.sort q.1 q.0 in
        let vs = some_fields fs p.1 in
        (v.0 ∷ vs.0, all_fit_more sig (field_sorts ss (f ∷ fs)) v.0 vs.0 ∙ (λ i. v.1 i && all_fit sig (field_sorts ss fs) vs.0) ∙ vs.1)

    -- the type n nat_eq_itself, with sorts that it takes
    kind_inhabited : (e : TypeEntry) (k : Kind) → slice_get sig.types n ≡ Some e → length ss ≡ e.arity → e.kind ≡ k → KindSays sig n e k
        → Inhabited (Named n ss)
    kind_inhabited e Abstract g l is law = (Element (Atom 0 (Named n ss)), thing_fits n ss (Atom 0 (Named n ss)) (atom_sort 0 n ss e Abstract g is refl))
    kind_inhabited e (Choices []) g l is law = absurd (law.some refl)
    kind_inhabited e (Choices (c ∷ cs)) g l is law =
        let none : ss ≡ [] = nil_from_length ss (l ∙ law.no_parameters) in
        let takes : kind_takes sig c ss (Choices (c ∷ cs)) ≡ true = ap (λ xs. no_sorts xs && list_any (nat_eq c) (c ∷ cs)) none ∙ is_among (c ∷ cs) 0 c refl in
        (Element (Atom c (Named n ss)), thing_fits n ss (Atom c (Named n ss)) (atom_sort c n ss e (Choices (c ∷ cs)) g is takes))
    kind_inhabited e (Fields fs) g l is law =
        let vs = some_fields fs (subst (λ a. list_all (λ f. is_field_sort sig n a f.sort) fs ≡ true) (sym l) law.1) in
        (Element (Record n ss (tuple vs.0)), thing_fits n ss (Record n ss (tuple vs.0)) (record_tree_sort n ss e fs (tuple vs.0) g is vs.1))

    pub type_inhabited : type_fits sig n (length ss) ≡ true → Inhabited (Named n ss)
    type_inhabited o = go (slice_get sig.types n) refl o
      where
        go : (at : Option TypeEntry) → slice_get sig.types n ≡ at → or_else (at >>= λ e. Some (nat_eq e.arity (length ss))) false ≡ true
            → Inhabited (Named n ss)
        go None g h = absurd (true≢false (sym h))
        go (Some e) g h = kind_inhabited e e.kind g (sym (eqb-true e.arity (length ss) h)) refl (lawful.types n e g)

  -- n bounds the types' numbers
  all_below : (n : ℕ) → Below n
  all_below zero h l ss o all = absurd (omega (arith, l))
  all_below (suc n) h l ss o all = type_inhabited h (λ g m. all_below n g (omega (arith, l, m))) ss all o

  abbrev Closed : Sort → Type 0
  Closed s = is_closed_sort sig s ≡ true → Inhabited s

  all_closed : (ss : List Sort) → AllByRecursion Closed ss → list_all (is_closed_sort sig) ss ≡ true → AllByRecursion Inhabited ss
  all_closed [] all o = tt
  all_closed (s ∷ ss) all o = let p = and_parts (is_closed_sort sig s) (list_all (is_closed_sort sig) ss) o in (all.0 p.0, all_closed ss all.1 p.1)

  -- each closed sort has a value
  pub closed_inhabited : (s : Sort) → is_closed_sort sig s ≡ true → Inhabited s
  closed_inhabited =
      by_sorts Closed (λ i o. absurd (true≢false (sym o ∙ ok_var sig _ _ i))) (λ i o. rigid_inhabited i) (λ o. int_inhabited) (λ o. real_inhabited) (λ o. bool_inhabited) (λ o. unit_inhabited)
      (λ h ss all o.
      let q = and_parts (type_fits sig h (length ss)) (list_all (is_closed_sort sig) ss) (sym (ok_named sig _ _ h ss) ∙ o) in
      all_below (suc h) h (omega arith) ss q.0 (all_closed ss all q.1))

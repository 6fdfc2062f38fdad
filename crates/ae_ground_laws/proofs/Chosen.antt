-- The constructors of the sort of a term have that sort, and are of the ground fragment.
use Rattle.std.specs.Prelude.{ℕ, true, false, ◌&&◌, nat_eq, List, [], ◌∷◌, ◌≡◌, ◌≢◌, map, length, slice_get, Option, Some, None}
use Rattle.std.specs.List.{AllByRecursion, Contains, list_all}
use Rattle.std.proofs.Common.{refl, sym, ap, ◌∙◌, subst, arith, inl, inr}
use Rattle.std.proofs.lemmas.Bool.{and_parts, eqb-true}
use Rattle.std.proofs.lemmas.Option.{same_Some, slice_get-get_or, slice_get-map}
use Rattle.ae_base.specs.Options.{◌>>=◌, only, or_else, when}
use Rattle.ae_base.proofs.Options.{never_some, bind_some, mapped_some}
use Rattle.ae_core.specs.Putting.{put_sort}
use Rattle.ae_core.specs.Signatures.{IsLawful, IsEnumeration, IsEnumerated, is_field_sort}
use Rattle.ae_core.specs.Sorts.{sort_of, is_closed_sort, same_sorts, symbol_sort, type_fits}
use Rattle.ae_core.specs.declared.terms.Sort.{Sort, Sort-F, Named, Bool as BoolSort, Unit as UnitSort, out-Sort, roll-Sort, roll-out-Sort}
use Rattle.ae_core.specs.declared.terms.Sort.TheOpen as sort_layer
use Rattle.ae_core.specs.declared.terms.Sort.TheVariants.{rolls-Bool, rolls-Unit, rolls-Named}
use Rattle.ae_core.specs.declared.terms.Term.{Term, Apply}
use Rattle.ae_core.specs.declared.terms.Head.{Head}
use Rattle.ae_core.specs.declared.terms.Head.TheVariants as head
use Rattle.ae_core.specs.declared.terms.Op.TheVariants as op
use Rattle.ae_core.specs.declared.problems.Signature.{Signature}
use Rattle.ae_core.specs.declared.problems.SymbolEntry.{SymbolEntry}
use Rattle.ae_core.specs.declared.problems.TypeEntry.{TypeEntry}
use Rattle.ae_core.specs.declared.problems.Kind.{Kind}
use Rattle.ae_core.specs.declared.problems.Kind.TheVariants.{Abstract, Choices, Fields}
use Rattle.ae_core.specs.declared.problems.Nature.{Nature}
use Rattle.ae_core.specs.declared.problems.Nature.TheVariants.{Free, Ac, Choice}
use Rattle.ae_core.proofs.ClosedSorts.{sort_closed}
use Rattle.ae_core.proofs.PuttingLaws.{put_named}
use Rattle.ae_core.proofs.SortLaws.{ok_named}
use Rattle.ae_rules.specs.Instances.{choices_of}
use Rattle.ae_rules.specs.Linear.{plain_here}
use Rattle.ae_rules.specs.Lines.{IsAc}
use Rattle.ae_journal.specs.Ground.{choices, HasFragmentSort, JoinsNoEnumeration}
use Rattle.ae_journal.proofs.Splits.{contains_cases, contains_one}
use Rattle.ae_evaluation.proofs.Decisions.{yes_sorts}
use Rattle.ae_evaluation.proofs.Plainness.{sort-Apply}
use Rattle.ae_evaluation.proofs.SortFacts.{is_applied, ac_arguments}
use Rattle.ae_ground_laws.specs.Terms.{IsGroundName}
use Rattle.ae_ground_laws.proofs.Plain.{plain_apply}
use Rattle.ae_ground_laws.proofs.Subterms.{subterms_apply, same_head}

-- an application without arguments has no product and no quotient
none_plain : (h : Head) → plain_here h [] ≡ true
none_plain (head.Symbol n) = refl
none_plain (head.Build n) = refl
none_plain (head.Field n i) = refl
none_plain (head.Int op.Add) = refl
none_plain (head.Int op.Sub) = refl
none_plain (head.Int op.Neg) = refl
none_plain (head.Int op.Mul) = refl
none_plain (head.Int op.Div) = refl
none_plain (head.Int op.Mod) = refl
none_plain (head.Real op.Add) = refl
none_plain (head.Real op.Sub) = refl
none_plain (head.Real op.Neg) = refl
none_plain (head.Real op.Mul) = refl
none_plain (head.Real op.Div) = refl
none_plain (head.Real op.Mod) = refl
none_plain head.True = refl
none_plain head.False = refl
none_plain head.Void = refl

none_long : (os : List Sort) → length os ≡ 0 → os ≡ []
none_long [] z = refl
none_long (o ∷ os) z = absurd (omega (arith, z))

module _ (sig : Signature) where
  abbrev HasSort : Head → Sort → Type 0
  HasSort h s = sort_of sig (Apply h [] []) ≡ Some s

  -- ---- `bool` and `unit`
  true_sorted : HasSort head.True BoolSort
  true_sorted = sort-Apply sig head.True [] [] ∙ (λ k. when (yes_sorts [] k && yes_sorts [] k) BoolSort)

  false_sorted : HasSort head.False BoolSort
  false_sorted = sort-Apply sig head.False [] [] ∙ (λ k. when (yes_sorts [] k && yes_sorts [] k) BoolSort)

  void_sorted : HasSort head.Void UnitSort
  void_sorted = sort-Apply sig head.Void [] [] ∙ (λ k. when (yes_sorts [] k && yes_sorts [] k) UnitSort)

  bool_sorted : (h : Head) → Contains (head.True ∷ head.False ∷ []) h → HasSort h BoolSort
  bool_sorted h c = elim (contains_cases head.True (head.False ∷ []) h c) as (λ _. sort_of sig (Apply h [] []) ≡ Some BoolSort) [
    | inl e ↦ subst (λ (k : Head). HasSort k BoolSort) e true_sorted
    | inr r ↦ subst (λ (k : Head). HasSort k BoolSort) (contains_one head.False h r) false_sorted
  ]

  unit_sorted : (h : Head) → Contains (head.Void ∷ []) h → HasSort h UnitSort
  unit_sorted h c = subst (λ (k : Head). HasSort k UnitSort) (contains_one head.Void h c) void_sorted

  module _ (law : IsLawful sig) where
    -- ---- declared enumerations
    enumeration : (n : ℕ) (e : TypeEntry) (cs : List ℕ) → slice_get sig.types n ≡ Some e → e.kind ≡ Choices cs → IsEnumeration sig n e.arity cs
    enumeration n e cs at kind =
        subst (λ (k : Kind). elim k as (λ _. Type 0) [
          | Abstract ↦ Unit {0}
          | Choices cs ↦ IsEnumeration sig n e.arity cs
          | Fields fs ↦ (fs ≢ []) × (list_all (λ f. is_field_sort sig n e.arity f.sort) fs ≡ true)
        ]) kind (law.types n e at)

    constructor : (n c i : ℕ) (e : SymbolEntry) → slice_get sig.symbols c ≡ Some e → e.nature ≡ Choice n i → (e.vars ≡ 0) × (e.args ≡ []) × (e.result ≡ Some (Named n [])) × IsEnumerated sig n
    constructor n c i e at nature =
        subst (λ (m : Nature). elim m as (λ _. Type 0) [
          | Free ↦ Unit {0}
          | Ac ↦ (s : Sort) × (e.args ≡ s ∷ s ∷ []) × (e.result ≡ Some s)
          | Choice of place ↦ (e.vars ≡ 0) × (e.args ≡ []) × (e.result ≡ Some (Named of [])) × IsEnumerated sig of
        ]) nature (law.symbols c e at).2

    symbol_sorted : (n c i : ℕ) (e : SymbolEntry) → slice_get sig.symbols c ≡ Some e → e.nature ≡ Choice n i → HasSort (head.Symbol c) (Named n [])
    symbol_sorted n c i e at nature =
        let r = constructor n c i e at nature in
        sort-Apply sig (head.Symbol c) [] [] ∙ ap (λ (o : Option SymbolEntry). o >>= symbol_sort [] []) at
        ∙ (λ k. only (nat_eq 0 (r.0 k) && same_sorts [] (map (put_sort []) (r.1 k))) (r.2 k) >>= λ s. Some (put_sort [] s))
        ∙ ap (λ b. only b (Some (Named n [])) >>= λ s. Some (put_sort [] s)) (yes_sorts []) ∙ ap (λ (s : Sort). Some s) (put_named [] n [])

    no_parameters : (n : ℕ) (ss : List Sort) (e : TypeEntry) → slice_get sig.types n ≡ Some e → e.arity ≡ 0 → is_closed_sort sig (Named n ss) ≡ true → ss ≡ []
    no_parameters n ss e at none closed =
        let f = (and_parts (type_fits sig n (length ss)) (list_all (is_closed_sort sig) ss) (sym (ok_named sig (λ i. false) (λ i. true) n ss) ∙ closed)).0 in
        let z : nat_eq e.arity (length ss) ≡ true = sym (ap (λ (o : Option TypeEntry). or_else (o >>= λ (e : TypeEntry). Some (nat_eq e.arity (length ss))) false) at) ∙ f in
        none_long ss (sym (eqb-true e.arity (length ss) z) ∙ none)

    declared_sorted : (n : ℕ) (ss : List Sort) (e : TypeEntry) (cs : List ℕ) (h : Head) → slice_get sig.types n ≡ Some e → e.kind ≡ Choices cs → is_closed_sort sig (Named n ss) ≡ true
        → Contains (map head.Symbol cs) h → HasSort h (Named n ss)
    declared_sorted n ss e cs h at kind closed c =
        let i = enumeration n e cs at kind in
        let there : slice_get (map head.Symbol cs) c.0 ≡ Some h = slice_get-get_or (map head.Symbol cs) c.0 h c.1 ∙ ap (λ (k : Head). Some k) c.2 in
        let m = mapped_some head.Symbol (slice_get cs c.0) h (sym (slice_get-map head.Symbol cs c.0) ∙ there) in
        let x = (i.each m.0 c.0).0 m.1 in
        let none : ss ≡ [] = no_parameters n ss e at i.no_parameters closed in
        subst (λ (k : Head). HasSort k (Named n ss)) m.2
        (subst (λ (os : List Sort). HasSort (head.Symbol m.0) (Named n os)) (sym none) (symbol_sorted n m.0 c.0 x.0 x.1 x.2))

    by_kind : (n : ℕ) (us : List Sort) (hs : List Head) (h : Head) (e : TypeEntry) → slice_get sig.types n ≡ Some e → (k : Kind) → e.kind ≡ k
        → elim k as (λ _. Option (List Head)) [ Choices cs ↦ Some (map head.Symbol cs) | Abstract ↦ None | Fields fs ↦ None ] ≡ Some hs
        → is_closed_sort sig (Named n us) ≡ true → Contains hs h → HasSort h (Named n us)
    by_kind n us hs h e at (Choices cs) is q closed c = declared_sorted n us e cs h at is closed (subst (λ (ks : List Head). Contains ks h) (sym (same_Some (map head.Symbol cs) hs q)) c)
    by_kind n us hs h e at Abstract is q closed c = never_some hs q
    by_kind n us hs h e at (Fields fs) is q closed c = never_some hs q

    -- ---- all enumerations
    back : (s t : Sort) (o : Sort-F Sort) → out-Sort s ≡ o → roll-Sort o ≡ t → t ≡ s
    back s t o e r = sym r ∙ ap roll-Sort (sym e) ∙ roll-out-Sort s

    of_layer : (s : Sort) (hs : List Head) (h : Head) (o : Sort-F Sort) → out-Sort s ≡ o → choices_of sig o ≡ Some hs → is_closed_sort sig s ≡ true → Contains hs h → HasSort h s
    of_layer s hs h (sort_layer.Named n us) i e closed c =
        let t = bind_some (slice_get sig.types n) (λ (e : TypeEntry). elim e.kind as (λ _. Option (List Head)) [ Choices cs ↦ Some (map head.Symbol cs) | Abstract ↦ None | Fields fs ↦ None ]) hs e in
        let z : Named n us ≡ s = back s (Named n us) (sort_layer.Named n us) i (rolls-Named n us) in
        subst (HasSort h) z (by_kind n us hs h t.0 t.1 (t.0).kind refl t.2 (subst (λ (w : Sort). is_closed_sort sig w ≡ true) (sym z) closed) c)
    of_layer s hs h sort_layer.Bool i e closed c =
        subst (HasSort h) (back s BoolSort sort_layer.Bool i rolls-Bool) (bool_sorted h (subst (λ (ks : List Head). Contains ks h) (sym (same_Some (head.True ∷ head.False ∷ []) hs e)) c))
    of_layer s hs h sort_layer.Unit i e closed c =
        subst (HasSort h) (back s UnitSort sort_layer.Unit i rolls-Unit) (unit_sorted h (subst (λ (ks : List Head). Contains ks h) (sym (same_Some (head.Void ∷ []) hs e)) c))
    of_layer s hs h (sort_layer.Var k) i e closed c = never_some hs e
    of_layer s hs h (sort_layer.Rigid k) i e closed c = never_some hs e
    of_layer s hs h sort_layer.Int i e closed c = never_some hs e
    of_layer s hs h sort_layer.Real i e closed c = never_some hs e

    module _ (u : Term) (s : Sort) (hs : List Head) (h : Head) (so : sort_of sig u ≡ Some s) (are : choices_of sig (out-Sort s) ≡ Some hs) (c : Contains hs h) where
      pub choice_sorted : sort_of sig (Apply h [] []) ≡ Some s
      choice_sorted = of_layer s hs h (out-Sort s) refl are (sort_closed sig law u s so) c

      -- what an AC symbol joins has two arguments
      no_join : (k : Head) (z : Sort) → h ≡ k → IsAc sig k → sort_of sig (Apply h [] []) ≡ Some z → ⊥
      no_join k z e ac i =
          let a = is_applied sig h [] [] z i in
          let none : [] ≡ a.args = same_Some [] a.args a.known in
          let two : a.args ≡ z ∷ z ∷ [] = ac_arguments sig law h [] a.args z (subst (IsAc sig) (sym e) ac) a.headed in
          let w : [] ≡ z ∷ z ∷ [] = none ∙ two in
          cc

      pub choice_ground : IsGroundName sig (Apply h [] [])
      choice_ground = (
        plain_apply h [] [] (none_plain h) tt,
        λ o q. record {
          plain = plain_apply h [] [] (none_plain h) tt;
          sorted = subst (AllByRecursion (HasFragmentSort sig [])) (sym (subterms_apply h [] [])) ((s, choice_sorted, choices s hs are), tt);
          joins = subst (AllByRecursion (JoinsNoEnumeration sig [])) (sym (subterms_apply h [] []))
              ((λ k os vs z e ac i. absurd (no_join k z (same_head h k [] os [] vs e) ac i)), tt);
        },
        λ k os us e ac. (s, choice_sorted),
      )

-- Enumerations of a lawful signature: their sorts, and the sort of each constructor.
use Rattle.std.specs.Prelude.{ℕ, zero, suc, Bool, true, false, ◌&&◌, nat_eq, List, [], ◌∷◌, ◌≡◌, ◌≢◌, map, length, slice_get, Option, Some, None}
use Rattle.std.specs.List.{list_all}
use Rattle.std.proofs.Common.{inl, inr}
use mathlib.Core.Path.{refl, sym, ap, ◌∙◌, subst}
use native.Mathlib.Omega.{arith}
use Rattle.std.proofs.lemmas.Bool.Decides.{nat_tests}
use Rattle.ae_rules.specs.Instances.{choices_of}
use Rattle.ae_core.specs.Sorts.{sort_of, is_numeric, same_sorts, symbol_sort}
use Rattle.ae_base.specs.Options.{all_known, only, or_else, when, ◌>>=◌}
use Rattle.ae_core.specs.Putting.{put_sort}
use Rattle.ae_rules.specs.Lines.{IsNumeric}
use Rattle.ae_rules.specs.Derivations.{IsConstructor}
use Rattle.ae_core.specs.Signatures.{IsLawful, IsLawfulNature, IsEnumeration, IsEnumerated, is_field_sort}
use Rattle.ae_core.proofs.PuttingLaws.{put_named}
use Rattle.ae_core.specs.declared.terms.Sort.{Sort, Sort-F, Bool as BoolSort, Unit as UnitSort, Named, out-Sort, roll-Sort, roll-out-Sort}
use Rattle.ae_core.specs.declared.terms.Sort.TheOpen as sort_layer
use Rattle.ae_core.specs.declared.terms.Sort.TheVariants.{rolls-Named, rolls-Bool, rolls-Unit, outs-Named, outs-Bool, outs-Unit}
use Rattle.ae_core.specs.declared.terms.Term.{Term, Apply}
use Rattle.ae_core.specs.declared.terms.Head.{Head}
use Rattle.ae_core.specs.declared.terms.Head.TheVariants as head
use Rattle.ae_core.specs.declared.problems.Signature.{Signature}
use Rattle.ae_core.specs.declared.problems.SymbolEntry.{SymbolEntry}
use Rattle.ae_core.specs.declared.problems.TypeEntry.{TypeEntry}
use Rattle.ae_core.specs.declared.problems.Kind.{Kind}
use Rattle.ae_core.specs.declared.problems.Kind.TheVariants.{Abstract, Choices, Fields}
use Rattle.ae_core.specs.declared.problems.Nature.{Nature}
use Rattle.ae_core.specs.declared.problems.Nature.TheVariants.{Free, Ac, Choice}
use Rattle.ae_journal.specs.Systems.{record_fields}
use Rattle.ae_journal.specs.Evaluation.{is_constructor}
use Rattle.ae_journal.specs.Keys.{Numbering}
use Rattle.ae_journal.specs.declared.systems.System.{System}
use Rattle.ae_evaluation.proofs.Plainness.{sort-Apply}
use Rattle.ae_evaluation.proofs.Depth.{is_record}
use Rattle.ae_evaluation.proofs.SortFacts.{IsApplied, is_applied, is_symbol, numeric_is}
use Rattle.ae_evaluation.proofs.Decisions.{same_list, yes_sorts}
use Rattle.ae_base.proofs.Options.{bind_some, only_some, when_some}
use Rattle.std.proofs.lemmas.Bool.{and_parts}
use Rattle.std.proofs.lemmas.Option.{same_Some}

-- ---- the sorts that are enumerations, with their constructors
pub data IsChoiceSort (sig : Signature) : Sort → List Head → Type 0 where
  bools : IsChoiceSort sig BoolSort (head.True ∷ head.False ∷ [])
  units : IsChoiceSort sig UnitSort (head.Void ∷ [])
  declared : (n : ℕ) (ss : List Sort) (e : TypeEntry) (cs : List ℕ) → slice_get sig.types n ≡ Some e → e.kind ≡ Choices cs
      → IsChoiceSort sig (Named n ss) (map head.Symbol cs)

pub choice_sort : (sig : Signature) (s : Sort) (hs : List Head) → choices_of sig (out-Sort s) ≡ Some hs → IsChoiceSort sig s hs
choice_sort sig s hs e = go (out-Sort s) refl e
  where
    back : (f : Sort-F Sort) (o : Sort) → out-Sort s ≡ f → roll-Sort f ≡ o → o ≡ s
    back f o e r = sym (sym (roll-out-Sort s) ∙ ap roll-Sort e ∙ r)

    both : (o : Sort) (is : List Head) → o ≡ s → is ≡ hs → IsChoiceSort sig o is → IsChoiceSort sig s hs
    both o is e f c = subst (IsChoiceSort sig s) f (subst (λ (o : Sort). IsChoiceSort sig o is) e c)

    by_kind : (n : ℕ) (us : List Sort) → out-Sort s ≡ sort_layer.Named n us → (t : TypeEntry) → slice_get sig.types n ≡ Some t → (k : Kind)
        → t.kind ≡ k
        → elim k as (λ _. Option (List Head)) [ Choices cs ↦ Some (map head.Symbol cs) | Abstract ↦ None | Fields fs ↦ None ] ≡ Some hs
        → IsChoiceSort sig s hs
    by_kind n us o t g Abstract h e = absurd (cc)
    by_kind n us o t g (Fields fs) h e = absurd (cc)
    by_kind n us o t g (Choices cs) h e =
        both (Named n us) (map head.Symbol cs) (back (sort_layer.Named n us) (Named n us) o (rolls-Named n us))
        (same_Some (map head.Symbol cs) hs e) (declared n us t cs g h)

    by_entry : (n : ℕ) (us : List Sort) → out-Sort s ≡ sort_layer.Named n us → (o : Option TypeEntry) → slice_get sig.types n ≡ o
        → (o >>= λ e. elim e.kind as
        (λ _. Option (List Head)) [ Choices cs ↦ Some (map head.Symbol cs) | Abstract ↦ None | Fields fs ↦ None ]) ≡ Some hs
        → IsChoiceSort sig s hs
    by_entry n us l None g e = absurd (cc)
    by_entry n us l (Some t) g e = by_kind n us l t g t.kind refl e

    go : (f : Sort-F Sort) → out-Sort s ≡ f → choices_of sig f ≡ Some hs → IsChoiceSort sig s hs
    go (sort_layer.Var i) o e = absurd (cc)
    go (sort_layer.Rigid i) o e = absurd (cc)
    go sort_layer.Int o e = absurd (cc)
    go sort_layer.Real o e = absurd (cc)
    go sort_layer.Bool o e =
        both BoolSort (head.True ∷ head.False ∷ []) (back sort_layer.Bool BoolSort o rolls-Bool)
        (same_Some (head.True ∷ head.False ∷ []) hs e) bools
    go sort_layer.Unit o e =
        both UnitSort (head.Void ∷ []) (back sort_layer.Unit UnitSort o rolls-Unit) (same_Some (head.Void ∷ []) hs e) units
    go (sort_layer.Named n us) o e = by_entry n us o (slice_get sig.types n) refl e

-- ---- an enumeration is no numeric sort, and no record's
no_number : (sig : Signature) (s : Sort) (hs : List Head) → IsChoiceSort sig s hs → IsNumeric s → ⊥
no_number sig s hs bools (inl e) = cc
no_number sig s hs bools (inr e) = cc
no_number sig s hs units (inl e) = cc
no_number sig s hs units (inr e) = cc
no_number sig s hs (declared n ss t cs a k) (inl e) = cc
no_number sig s hs (declared n ss t cs a k) (inr e) = cc

pub number_is_no_choice : (sig : Signature) (s : Sort) (hs : List Head) → choices_of sig (out-Sort s) ≡ Some hs → IsNumeric s → ⊥
number_is_no_choice sig s hs e n = no_number sig s hs (choice_sort sig s hs e) n

pub choice_not_numeric : (sig : Signature) (s : Sort) (hs : List Head) → choices_of sig (out-Sort s) ≡ Some hs → is_numeric s ≡ false
choice_not_numeric sig s hs e = go (is_numeric s) refl
  where
    go : (b : Bool) → b ≡ is_numeric s → b ≡ false
    go false z = refl
    go true z = absurd (number_is_no_choice sig s hs e (numeric_is s (sym z)))

no_fields_in : (sig : Signature) (s : Sort) (hs : List Head) (fs : List Sort) → IsChoiceSort sig s hs → record_fields sig s ≡ Some fs → ⊥
no_fields_in sig s hs fs bools r = let e = (is_record sig BoolSort fs r).is in cc
no_fields_in sig s hs fs units r = let e = (is_record sig UnitSort fs r).is in cc
no_fields_in sig s hs fs (declared n ss t cs a k) r =
    let q = is_record sig (Named n ss) fs r in
    let z : q.type ≡ n = let u = sym q.is in cc in
    let same : q.entry ≡ t = same_Some q.entry t (sym q.at ∙ ap (slice_get sig.types) z ∙ a) in
    let w = sym q.kind ∙ ap (λ (e : TypeEntry). e.kind) same ∙ k in
    cc

pub choice_is_no_record : (sig : Signature) (s : Sort) (hs : List Head) (fs : List Sort) → choices_of sig (out-Sort s) ≡ Some hs
    → record_fields sig s ≡ Some fs → ⊥
choice_is_no_record sig s hs fs e r = no_fields_in sig s hs fs (choice_sort sig s hs e) r

pub choice_no_fields : (sig : Signature) (s : Sort) (hs : List Head) → choices_of sig (out-Sort s) ≡ Some hs → record_fields sig s ≡ None
choice_no_fields sig s hs e = go (record_fields sig s) refl
  where
    go : (o : Option (List Sort)) → o ≡ record_fields sig s → o ≡ None
    go None z = refl
    go (Some fs) z = absurd (choice_is_no_record sig s hs fs e (sym z))

-- ---- constructors
module _ (sig : Signature) (lawful : IsLawful sig) where
  enumeration : (n : ℕ) (e : TypeEntry) (cs : List ℕ) → slice_get sig.types n ≡ Some e → e.kind ≡ Choices cs
      → IsEnumeration sig n e.arity cs
  enumeration n e cs at kind = go e.kind kind (lawful.types n e at)
    where
      go : (k : Kind) → k ≡ Choices cs
          → elim k as (λ _. Type 0) [
            | Abstract ↦ Unit {0}
            | Choices cs ↦ IsEnumeration sig n e.arity cs
            | Fields fs ↦ (fs ≢ []) ×
                (list_all (λ f. is_field_sort sig n e.arity f.sort) fs ≡ true)
          ]
          → IsEnumeration sig n e.arity cs
      go Abstract h l = absurd (cc)
      go (Fields fs) h l = absurd (cc)
      go (Choices ds) h l = let z : ds ≡ cs = cc in subst (IsEnumeration sig n e.arity) z l

  get_mapped : (cs : List ℕ) (i : ℕ) (h : Head) → slice_get (map head.Symbol cs) i ≡ Some h
      → (c : ℕ) × (slice_get cs i ≡ Some c) × (head.Symbol c ≡ h)
  get_mapped [] i h e = absurd (cc)
  get_mapped (c ∷ cs) zero h e = (c, refl, same_Some (head.Symbol c) h e)
  get_mapped (c ∷ cs) (suc i) h e = get_mapped cs i h e

  mapped_get : (cs : List ℕ) (i c : ℕ) → slice_get cs i ≡ Some c → slice_get (map head.Symbol cs) i ≡ Some (head.Symbol c)
  mapped_get [] i c e = absurd (cc)
  mapped_get (d ∷ cs) zero c e = let z : d ≡ c = same_Some d c e in ap (λ (k : ℕ). Some (head.Symbol k)) z
  mapped_get (d ∷ cs) (suc i) c e = mapped_get cs i c e

  of_choice : (s : Sort) (hs : List Head) (i : ℕ) (h : Head) → IsChoiceSort sig s hs → slice_get hs i ≡ Some h → IsConstructor sig h
  of_choice s hs zero h bools e = subst (IsConstructor sig) (same_Some head.True h e) tt
  of_choice s hs (suc zero) h bools e = subst (IsConstructor sig) (same_Some head.False h e) tt
  of_choice s hs (suc (suc i)) h bools e = absurd (cc)
  of_choice s hs zero h units e = subst (IsConstructor sig) (same_Some head.Void h e) tt
  of_choice s hs (suc i) h units e = absurd (cc)
  of_choice s hs i h (declared n ss t cs a k) e =
      let m = get_mapped cs i h e in
      let c = ((enumeration n t cs a k).each m.0 i).0 m.1 in
      subst (IsConstructor sig) m.2 (c.0, n, i, c.1, c.2)

  -- what an enumeration lists are constructors, and it lists one
  pub choices_are : (s : Sort) (hs : List Head) (i : ℕ) (h : Head) → choices_of sig (out-Sort s) ≡ Some hs → slice_get hs i ≡ Some h
      → IsConstructor sig h
  choices_are s hs i h e f = of_choice s hs i h (choice_sort sig s hs e) f

  some_choice : (s : Sort) (hs : List Head) → IsChoiceSort sig s hs → hs ≢ []
  some_choice s hs bools e = cc
  some_choice s hs units e = cc
  some_choice s hs (declared n ss t cs a k) e = (enumeration n t cs a k).some (empty cs e)
    where
      empty : (cs : List ℕ) → map head.Symbol cs ≡ [] → cs ≡ []
      empty [] e = refl
      empty (c ∷ cs) e = absurd (cc)

  pub choices_not_empty : (s : Sort) (hs : List Head) → choices_of sig (out-Sort s) ≡ Some hs → hs ≢ []
  choices_not_empty s hs e = some_choice s hs (choice_sort sig s hs e)

  pub choice_result : (e : SymbolEntry) (of place : ℕ) → e.nature ≡ Choice of place → IsLawfulNature sig e
      → (e.vars ≡ 0) × (e.args ≡ []) × (e.result ≡ Some (Named of [])) × IsEnumerated sig of
  choice_result e of place n l = go e.nature n l
    where
      go : (m : Nature) → m ≡ Choice of place
          → elim m as (λ _. Type 0) [
            | Free ↦ Unit {0}
            | Ac ↦ (s : Sort) × (e.args ≡ s ∷ s ∷ []) × (e.result ≡ Some s)
            | Choice of place ↦ (e.vars ≡ 0) × (e.args ≡ []) × (e.result ≡ Some (Named of [])) × IsEnumerated sig of
          ]
          → (e.vars ≡ 0) × (e.args ≡ []) × (e.result ≡ Some (Named of [])) × IsEnumerated sig of
      go Free n l = absurd (cc)
      go Ac n l = absurd (cc)
      go (Choice o q) n l =
          let z : o ≡ of = cc in subst (λ (k : ℕ). (e.vars ≡ 0) × (e.args ≡ []) × (e.result ≡ Some (Named k [])) × IsEnumerated sig k) z l

  -- a constructor has no arguments, and the enumeration that lists it as its sort
  pub record ConstructorOf (h : Head) : Type 0 where
    pub sort : Sort
    pub sorted : sort_of sig (Apply h [] []) ≡ Some sort
    pub heads : List Head
    pub listed : choices_of sig (out-Sort sort) ≡ Some heads
    pub place : ℕ
    pub at : slice_get heads place ≡ Some h

  pub constructor_of : (h : Head) → IsConstructor sig h → ConstructorOf h
  constructor_of (head.Symbol n) (e, of, place, at, nature) =
      let r = choice_result e of place nature (lawful.symbols n e at).2 in
      let q = r.3 in
      let i = enumeration of q.0 q.1 q.2 q.3 in
      record {
        sort = Named of [];
        sorted =
            sort-Apply sig (head.Symbol n) [] [] ∙ ap (λ (o : Option SymbolEntry). o >>= symbol_sort [] []) at
            ∙ (λ k. only (nat_eq 0 (r.0 k) && same_sorts [] (map (put_sort []) (r.1 k))) (r.2 k) >>= λ s. Some (put_sort [] s))
            ∙ ap (λ b. only b (Some (Named of [])) >>= λ s. Some (put_sort [] s)) (yes_sorts [])
            ∙ ap (λ (s : Sort). Some s) (put_named [] of []);
        heads = map head.Symbol q.1;
        listed =
            ap (choices_of sig) (outs-Named of [])
            ∙ ap
            (λ (o : Option TypeEntry). o >>= λ e. elim e.kind as
            (λ _. Option (List Head)) [ Choices cs ↦ Some (map head.Symbol cs) | Abstract ↦ None | Fields fs ↦ None ]) q.2
            ∙ ap
            (λ (k : Kind). elim k as
            (λ _. Option (List Head)) [ Choices cs ↦ Some (map head.Symbol cs) | Abstract ↦ None | Fields fs ↦ None ]) q.3;
        place = place;
        at = mapped_get q.1 place n ((i.each n place).1 (e, at, nature));
      }
  constructor_of head.True c = record {
    sort = BoolSort;
    sorted = sort-Apply sig head.True [] [] ∙
        (λ k. when (yes_sorts [] k && yes_sorts [] k) BoolSort);
    heads = head.True ∷ head.False ∷ [];
    listed = ap
        (choices_of sig) outs-Bool;
    place = 0;
    at = refl;
  }
  constructor_of head.False c = record {
    sort = BoolSort;
    sorted = sort-Apply sig head.False [] [] ∙
        (λ k. when (yes_sorts [] k && yes_sorts [] k) BoolSort);
    heads = head.True ∷ head.False ∷ [];
    listed = ap
        (choices_of sig) outs-Bool;
    place = 1;
    at = refl;
  }
  constructor_of head.Void c = record {
    sort = UnitSort;
    sorted = sort-Apply sig head.Void [] [] ∙
        (λ k. when (yes_sorts [] k && yes_sorts [] k) UnitSort);
    heads = head.Void ∷ [];
    listed = ap
        (choices_of sig) outs-Unit;
    place = 0;
    at = refl;
  }
  constructor_of (head.Build n) c = absurd c
  constructor_of (head.Field n i) c = absurd c
  constructor_of (head.Int o) c = absurd c
  constructor_of (head.Real o) c = absurd c

  -- what it is applied to: nothing
  pub constructor_alone : (h : Head) (ss : List Sort) (ts : List Term) (s : Sort) → IsConstructor sig h
      → sort_of sig (Apply h ss ts) ≡ Some s → (ss ≡ []) × (ts ≡ [])
  constructor_alone h ss ts s c e = go h c (is_applied sig h ss ts s e)
    where
      no_terms : (ts : List Term) → all_known (map (sort_of sig) ts) ≡ Some [] → ts ≡ []
      no_terms [] e = refl
      no_terms (t ∷ ts) e =
          let b = bind_some (sort_of sig t) (λ x. all_known (map (sort_of sig) ts) >>= λ xs. Some (x ∷ xs)) [] e in
          let d = bind_some (all_known (map (sort_of sig) ts)) (λ xs. Some (b.0 ∷ xs)) [] b.2 in
          let z : b.0 ∷ d.0 ≡ [] = same_Some (b.0 ∷ d.0) [] d.2 in
          absurd (cc)

      none_of : (ss : List Sort) (v : ℕ) → nat_eq (length ss) v ≡ true → v ≡ 0 → ss ≡ []
      none_of [] v e z = refl
      none_of (s ∷ ss) v e z = absurd (grind (arith, nat_tests, e, z))

      plainly : (args : List Sort) (o : Sort) → all_known (map (sort_of sig) ts) ≡ Some args
          → when (same_sorts ss [] && same_sorts args []) o ≡ Some s → (ss ≡ []) × (ts ≡ [])
      plainly args o k w =
          let q = and_parts (same_sorts ss []) (same_sorts args []) (when_some (same_sorts ss [] && same_sorts args []) o s w).0 in
          (same_list ss [] q.0, no_terms ts (k ∙ ap (λ (x : List Sort). Some x) (same_list args [] q.1)))

      go : (i : Head) → IsConstructor sig i → IsApplied sig i ss ts s → (ss ≡ []) × (ts ≡ [])
      go (head.Symbol n) (e, of, place, at, nature) a =
          let r = choice_result e of place nature (lawful.symbols n e at).2 in
          let b = bind_some (slice_get sig.symbols n) (symbol_sort ss a.args) s a.headed in
          let same : b.0 ≡ e = same_Some b.0 e (sym b.1 ∙ at) in
          let j = is_symbol ss a.args b.0 s b.2 in
          let d =
          bind_some (only (nat_eq (length ss) (b.0).vars && same_sorts a.args (map (put_sort ss) (b.0).args)) (b.0).result)
          (λ s. Some (put_sort ss s)) s b.2 in
          let o = only_some (nat_eq (length ss) (b.0).vars && same_sorts a.args (map (put_sort ss) (b.0).args)) (b.0).result d.0 d.1 in
          let q = and_parts (nat_eq (length ss) (b.0).vars) (same_sorts a.args (map (put_sort ss) (b.0).args)) o.0 in
          let args : a.args ≡ [] = j.args_are ∙ ap (λ (t : SymbolEntry). map (put_sort ss) t.args) same ∙ ap (map (put_sort ss)) r.1 in (
            none_of ss (b.0).vars q.0 (ap (λ (t : SymbolEntry). t.vars) same ∙ r.0),
            no_terms ts
                (a.known ∙ ap (λ (x : List Sort). Some x) args),
          )
      go head.True c a = plainly a.args BoolSort a.known a.headed
      go head.False c a = plainly a.args BoolSort a.known a.headed
      go head.Void c a = plainly a.args UnitSort a.known a.headed
      go (head.Build n) c a = absurd c
      go (head.Field n i) c a = absurd c
      go (head.Int o) c a = absurd c
      go (head.Real o) c a = absurd c

-- ---- the test for constructors
module _ (sig : Signature) (y : System) (num : Numbering) (reduce : Head → List Sort → List ℕ → List ℕ) (choosing : Bool) where
  choice_entry : (o : Option SymbolEntry)
      → or_else (o >>= λ e. Some (elim e.nature as (λ _. Bool) [ Free ↦ false | Ac ↦ false | Choice of at ↦ true ])) false ≡ true
      → (e : SymbolEntry) × (of : ℕ) × (place : ℕ) × (o ≡ Some e) × (e.nature ≡ Choice of place)
  choice_entry None h = absurd (cc)
  choice_entry (Some e) h = go e.nature refl h
    where
      go : (n : Nature) → e.nature ≡ n → elim n as (λ _. Bool) [ Free ↦ false | Ac ↦ false | Choice of at ↦ true ] ≡ true
          → (d : SymbolEntry) × (of : ℕ) × (place : ℕ) × (◌≡◌ {A = Option SymbolEntry} (Some e) (Some d)) × (d.nature ≡ Choice of place)
      go Free z h = absurd (cc)
      go Ac z h = absurd (cc)
      go (Choice of at) z h = (e, of, at, refl, z)

  pub constructor_is : (h : Head) → is_constructor sig y num reduce choosing h ≡ true → IsConstructor sig h
  constructor_is (head.Symbol n) e = choice_entry (slice_get sig.symbols n) e
  constructor_is head.True e = tt
  constructor_is head.False e = tt
  constructor_is head.Void e = tt
  constructor_is (head.Build n) e = absurd (cc)
  constructor_is (head.Field n i) e = absurd (cc)
  constructor_is (head.Int o) e = absurd (cc)
  constructor_is (head.Real o) e = absurd (cc)

  pub is_a_constructor : (h : Head) → IsConstructor sig h → is_constructor sig y num reduce choosing h ≡ true
  is_a_constructor (head.Symbol n) (e, of, place, at, nature) =
      ap (λ (o : Option SymbolEntry). or_else
      (o >>= λ e. Some (elim e.nature as (λ _. Bool) [ Free ↦ false | Ac ↦ false | Choice of at ↦ true ])) false) at
      ∙ ap (λ (n : Nature). elim n as (λ _. Bool) [ Free ↦ false | Ac ↦ false | Choice of at ↦ true ]) nature
  is_a_constructor head.True c = refl
  is_a_constructor head.False c = refl
  is_a_constructor head.Void c = refl
  is_a_constructor (head.Build n) c = absurd c
  is_a_constructor (head.Field n i) c = absurd c
  is_a_constructor (head.Int o) c = absurd c
  is_a_constructor (head.Real o) c = absurd c

-- A record's fields are less deep than the record, in a lawful signature.
use Rattle.std.specs.Prelude.{ℕ, zero, suc, ◌+◌, ◌<◌, ◌≤◌, nat_lt, Bool, true, ◌&&◌, List, [], ◌∷◌, ◌++◌, ◌≡◌, ◌≢◌, map, length, slice_get, Option, Some, None}
use Rattle.std.specs.List.{AllByRecursion, list_all}
use Rattle.std.proofs.lemmas.Bool.Decides.{nat_tests}
use mathlib.Core.Path.{refl, sym, ap, ◌∙◌, subst}
use native.Mathlib.Omega.{arith}
use Rattle.ae_base.specs.Options.{or_else, ◌>>=◌}
use Rattle.ae_core.specs.Putting.{put_sort}
use Rattle.ae_core.specs.Inner.Induction.{by_sorts}
use Rattle.ae_core.specs.Signatures.{IsLawful, IsEnumeration, names_below, names_below_step, is_field_sort, is_sort_over}
use Rattle.ae_core.proofs.Recursion.{fold_var, fold_rigid, fold_int, fold_real, fold_bool, fold_unit, fold_named}
use Rattle.ae_core.proofs.PuttingLaws.{put_var, put_rigid, put_int, put_real, put_bool, put_unit, put_named}
use Rattle.ae_core.specs.declared.terms.Sort.{Sort, Sort-F, Var, Rigid, Int, Real, Bool as BoolSort, Unit as UnitSort, Named, out-Sort, roll-Sort, roll-out-Sort}
use Rattle.ae_core.specs.declared.terms.Sort.TheOpen as sort_layer
use Rattle.ae_core.specs.declared.terms.Sort.TheVariants.{rolls-Named}
use Rattle.ae_core.specs.declared.problems.Signature.{Signature}
use Rattle.ae_core.specs.declared.problems.TypeEntry.{TypeEntry}
use Rattle.ae_core.specs.declared.problems.FieldEntry.{FieldEntry}
use Rattle.ae_core.specs.declared.problems.Kind.{Kind}
use Rattle.ae_core.specs.declared.problems.Kind.TheVariants.{Abstract, Choices, Fields}
use Rattle.ae_journal.specs.Systems.{record_fields, fields_of}
use Rattle.ae_journal.specs.Evaluation.{larger, largest, depth_step, depth_by, type_depth, type_depths, depth_of}
use Rattle.ae_base.proofs.ListFacts.{get_map, get_before}
use Rattle.std.proofs.lemmas.Bool.{and_parts, ltb-true}

-- ---- the larger of two numbers, the largest of several
larger_first : (m n : ℕ) → m ≤ larger m n
larger_first m n = grind (arith, nat_tests)

larger_second : (m n : ℕ) → n ≤ larger m n
larger_second m n = grind (arith, nat_tests)

larger_least : (m n k : ℕ) → m ≤ k → n ≤ k → larger m n ≤ k
larger_least m n k h i = grind (arith, nat_tests)

largest_at : (ds : List ℕ) (i d : ℕ) → slice_get ds i ≡ Some d → d ≤ largest ds
largest_at [] i d e = absurd (cc)
largest_at (x ∷ ds) zero d e = let f : x ≡ d = cc in let h = larger_first x (largest ds) in omega (arith, f, h)
largest_at (x ∷ ds) (suc i) d e = let h = largest_at ds i d e in let k = larger_second x (largest ds) in omega (arith, h, k)

-- ---- the depth of a sort, by the depths of the types that it names
depth_named : (D : List ℕ) (h : ℕ) (ss : List Sort) → depth_by D (Named h ss) ≡ or_else (slice_get D h) 0 + largest (map (depth_by D) ss)
unfolding depth_by
depth_named D h ss = fold_named ℕ (depth_step D) h ss

depth_var : (D : List ℕ) (i : ℕ) → depth_by D (Var i) ≡ 0
unfolding depth_by
depth_var D i = fold_var ℕ (depth_step D) i

depth_rigid : (D : List ℕ) (i : ℕ) → depth_by D (Rigid i) ≡ 0
unfolding depth_by
depth_rigid D i = fold_rigid ℕ (depth_step D) i

depth_int : (D : List ℕ) → depth_by D Int ≡ 0
unfolding depth_by
depth_int D = fold_int ℕ (depth_step D)

depth_real : (D : List ℕ) → depth_by D Real ≡ 0
unfolding depth_by
depth_real D = fold_real ℕ (depth_step D)

depth_bool : (D : List ℕ) → depth_by D BoolSort ≡ 0
unfolding depth_by
depth_bool D = fold_bool ℕ (depth_step D)

depth_unit : (D : List ℕ) → depth_by D UnitSort ≡ 0
unfolding depth_by
depth_unit D = fold_unit ℕ (depth_step D)

below_named : (n h : ℕ) (ss : List Sort) → names_below n (Named h ss) ≡ nat_lt h n && list_all (λ b. b) (map (names_below n) ss)
unfolding names_below
below_named n h ss = fold_named Bool (names_below_step n) h ss

-- ---- two lists of depths that agree below a number
Agree : ℕ → List ℕ → List ℕ → Type 0
Agree n B D = (i : ℕ) → i < n → slice_get B i ≡ slice_get D i

agree_all : (n : ℕ) (B D : List ℕ) (ss : List Sort) → AllByRecursion (λ s. names_below n s ≡ true → depth_by B s ≡ depth_by D s) ss
    → list_all (λ b. b) (map (names_below n) ss) ≡ true → map (depth_by B) ss ≡ map (depth_by D) ss
agree_all n B D [] a e = refl
agree_all n B D (s ∷ ss) a e =
    let p = and_parts (names_below n s) (list_all (λ b. b) (map (names_below n) ss)) e in
    λ i. a.0 p.0 i ∷ agree_all n B D ss a.1 p.1 i

agree_depth : (n : ℕ) (B D : List ℕ) → Agree n B D → (s : Sort) → names_below n s ≡ true → depth_by B s ≡ depth_by D s
unfolding Agree
agree_depth n B D agree =
    by_sorts (λ s. names_below n s ≡ true → depth_by B s ≡ depth_by D s)
    (λ i e. depth_var B i ∙ sym (depth_var D i))
    (λ i e. depth_rigid B i ∙ sym (depth_rigid D i))
    (λ e. depth_int B ∙ sym (depth_int D))
    (λ e. depth_real B ∙ sym (depth_real D))
    (λ e. depth_bool B ∙ sym (depth_bool D))
    (λ e. depth_unit B ∙ sym (depth_unit D))
    (λ h ss a e.
    let p = and_parts (nat_lt h n) (list_all (λ b. b) (map (names_below n) ss)) (sym (below_named n h ss) ∙ e) in
    depth_named B h ss ∙ (λ i. or_else (agree h (ltb-true h n p.0) i) 0 + largest (agree_all n B D ss a p.1 i)) ∙ sym (depth_named D h ss))

-- ---- the depths of the types of a lawful signature
NamesBelow : ℕ → TypeEntry → Type 0
NamesBelow n e = (fs : List FieldEntry) → e.kind ≡ Fields fs → AllByRecursion (λ (f : FieldEntry). names_below n f.sort ≡ true) fs

agree_fields : (n : ℕ) (B D : List ℕ) → Agree n B D → (fs : List FieldEntry)
    → AllByRecursion (λ (f : FieldEntry). names_below n f.sort ≡ true) fs
    → map (λ (f : FieldEntry). depth_by B f.sort) fs ≡ map (λ (f : FieldEntry). depth_by D f.sort) fs
agree_fields n B D agree [] a = refl
agree_fields n B D agree (f ∷ fs) a = λ i. agree_depth n B D agree f.sort a.0 i ∷ agree_fields n B D agree fs a.1 i

kind_depth : List ℕ → Kind → ℕ
kind_depth D k =
    elim k as (λ _. ℕ) [ Fields fs ↦ suc (largest (map (λ (f : FieldEntry). depth_by D f.sort) fs)) | Abstract ↦ 0 | Choices cs ↦ 0 ]

agree_type : (n : ℕ) (B D : List ℕ) → Agree n B D → (e : TypeEntry) → NamesBelow n e → type_depth B e ≡ type_depth D e
unfolding NamesBelow kind_depth
agree_type n B D agree e b = go e.kind b
  where
    go : (k : Kind) → ((fs : List FieldEntry) → k ≡ Fields fs → AllByRecursion (λ (f : FieldEntry). names_below n f.sort ≡ true) fs)
        → kind_depth B k ≡ kind_depth D k
    go Abstract b = refl
    go (Choices cs) b = refl
    go (Fields fs) b = ap (λ ds. suc (largest ds)) (agree_fields n B D agree fs (b fs refl))

get_next : (xs : List ℕ) (y : ℕ) → slice_get (xs ++ y ∷ []) (length xs) ≡ Some y
get_next [] y = refl
get_next (x ∷ xs) y = get_next xs y

length-next : (xs : List ℕ) (y : ℕ) → length (xs ++ y ∷ []) ≡ suc (length xs)
length-next [] y = refl
length-next (x ∷ xs) y = ap suc (length-next xs y)

kept : (below : List ℕ) (es : List TypeEntry) (i : ℕ) → i < length below → slice_get (type_depths below es) i ≡ slice_get below i
kept below [] i h = refl
kept below (e ∷ es) i h =
    let l = length-next below (type_depth below e) in
    kept (below ++ type_depth below e ∷ []) es i (omega (arith, l, h)) ∙ get_before below (type_depth below e ∷ []) i h

entry : (below : List ℕ) (es : List TypeEntry) → ((k : ℕ) (e : TypeEntry) → slice_get es k ≡ Some e → NamesBelow (length below + k) e)
    → (k : ℕ) (e : TypeEntry) → slice_get es k ≡ Some e
    → slice_get (type_depths below es) (length below + k) ≡ Some (type_depth (type_depths below es) e)
unfolding Agree
entry below [] lawful k e g = absurd (cc)
entry below (x ∷ es) lawful zero e g =
    let d = type_depth below x in
    let D = type_depths (below ++ d ∷ []) es in
    let l = length-next below d in
    let z : length below + zero ≡ length below = omega arith in
    let same : x ≡ e = cc in
    let agree : Agree (length below) below D =
    λ i h. sym (kept (below ++ d ∷ []) es i (omega (arith, l, h)) ∙ get_before below (d ∷ []) i h) in
    let b : NamesBelow (length below) x = subst (λ (n : ℕ). NamesBelow n x) z (lawful zero x refl) in
    ap (slice_get D) z ∙ kept (below ++ d ∷ []) es (length below) (omega (arith, l)) ∙ get_next below d
    ∙ ap (λ (n : ℕ). Some n) (agree_type (length below) below D agree x b ∙ ap (type_depth D) same)
entry below (x ∷ es) lawful (suc k) e g =
    let d = type_depth below x in
    let l = length-next below d in
    let z : length (below ++ d ∷ []) + k ≡ length below + suc k = omega (arith, l) in
    let ih =
    entry (below ++ d ∷ []) es
    (λ j w h. let y : length below + suc j ≡ length (below ++ d ∷ []) + j = omega (arith, l) in subst (λ (n : ℕ). NamesBelow n w) y
    (lawful (suc j) w h)) k e g in
    subst (λ (n : ℕ). slice_get (type_depths (below ++ d ∷ []) es) n ≡ Some (type_depth (type_depths (below ++ d ∷ []) es) e)) z ih

-- ---- sorts put for type variables
put_all : (D : List ℕ) (us : List Sort) (ss : List Sort)
    → AllByRecursion (λ s. depth_by D (put_sort us s) ≤ depth_by D s + largest (map (depth_by D) us)) ss
    → largest (map (depth_by D) (map (put_sort us) ss)) ≤ largest (map (depth_by D) ss) + largest (map (depth_by D) us)
put_all D us [] a = omega arith
put_all D us (s ∷ ss) a =
    let ih = put_all D us ss a.1 in
    let m = larger_first (depth_by D s) (largest (map (depth_by D) ss)) in
    let n = larger_second (depth_by D s) (largest (map (depth_by D) ss)) in
    larger_least (depth_by D (put_sort us s)) (largest (map (depth_by D) (map (put_sort us) ss)))
    (larger (depth_by D s) (largest (map (depth_by D) ss)) + largest (map (depth_by D) us))
    (omega (arith, a.0, m)) (omega (arith, ih, n))

put_depth : (D : List ℕ) (us : List Sort) (s : Sort) → depth_by D (put_sort us s) ≤ depth_by D s + largest (map (depth_by D) us)
put_depth D us =
    by_sorts (λ s. depth_by D (put_sort us s) ≤ depth_by D s + largest (map (depth_by D) us))
    (λ i. var_case i (slice_get us i) refl)
    (λ i. let e = ap (depth_by D) (put_rigid us i) ∙ depth_rigid D i in omega (arith, e))
    (let e = ap (depth_by D) (put_int us) ∙ depth_int D in omega (arith, e))
    (let e = ap (depth_by D) (put_real us) ∙ depth_real D in omega (arith, e))
    (let e = ap (depth_by D) (put_bool us) ∙ depth_bool D in omega (arith, e))
    (let e = ap (depth_by D) (put_unit us) ∙ depth_unit D in omega (arith, e))
    (λ h ss a.
    let e = ap (depth_by D) (put_named us h ss) ∙ depth_named D h (map (put_sort us) ss) in
    let f = depth_named D h ss in
    let g = put_all D us ss a in
    omega (arith, e, f, g))
  where
    var_case : (i : ℕ) (o : Option Sort) → o ≡ slice_get us i
        → depth_by D (put_sort us (Var i)) ≤ depth_by D (Var i) + largest (map (depth_by D) us)
    var_case i None e =
        let f = ap (depth_by D) (put_var us i ∙ ap (λ o. or_else o (Var i)) (sym e)) ∙ depth_var D i in omega (arith, f)
    var_case i (Some u) e =
        let f = ap (depth_by D) (put_var us i ∙ ap (λ o. or_else o (Var i)) (sym e)) in
        let g = largest_at (map (depth_by D) us) i (depth_by D u) (get_map (depth_by D) us i u (sym e)) in
        omega (arith, f, g)

-- ---- a record sort
pub record IsRecord (sig : Signature) (s : Sort) (ss : List Sort) : Type 0 where
  pub type : ℕ
  pub sorts : List Sort
  pub is : s ≡ Named type sorts
  pub entry : TypeEntry
  pub at : slice_get sig.types type ≡ Some entry
  pub fields : List FieldEntry
  pub kind : entry.kind ≡ Fields fields
  pub are : ss ≡ map (λ (f : FieldEntry). put_sort sorts f.sort) fields

pub is_record : (sig : Signature) (s : Sort) (ss : List Sort) → record_fields sig s ≡ Some ss → IsRecord sig s ss
is_record sig s ss e = go (out-Sort s) refl e
  where
    by_kind : (n : ℕ) (us : List Sort) → out-Sort s ≡ sort_layer.Named n us → (t : TypeEntry) → slice_get sig.types n ≡ Some t → (k : Kind)
        → t.kind ≡ k
        → elim k as (λ _. Option (List Sort)) [ Fields fs ↦ Some (map (λ f. put_sort us f.sort) fs) | Abstract ↦ None | Choices cs ↦ None ]
        ≡ Some ss
        → IsRecord sig s ss
    by_kind n us o t g Abstract h e = absurd (cc)
    by_kind n us o t g (Choices cs) h e = absurd (cc)
    by_kind n us o t g (Fields fs) h e =
        let f : map (λ (f : FieldEntry). put_sort us f.sort) fs ≡ ss = cc in
        record {
          type = n;
          sorts = us;
          is = sym (roll-out-Sort s) ∙ ap roll-Sort o
              ∙ rolls-Named n us;
          entry = t;
          at = g;
          fields = fs;
          kind = h;
          are = sym f;
        }

    by_entry : (n : ℕ) (us : List Sort) → out-Sort s ≡ sort_layer.Named n us → (o : Option TypeEntry) → slice_get sig.types n ≡ o
        → (o >>= λ e. elim e.kind as
        (λ _. Option (List Sort)) [ Fields fs ↦ Some (map (λ f. put_sort us f.sort) fs) | Abstract ↦ None | Choices cs ↦ None ]) ≡ Some ss
        → IsRecord sig s ss
    by_entry n us l None g e = absurd (cc)
    by_entry n us l (Some t) g e = by_kind n us l t g t.kind refl e

    go : (f : Sort-F Sort) → out-Sort s ≡ f → fields_of sig f ≡ Some ss → IsRecord sig s ss
    go (sort_layer.Var i) o e = absurd (cc)
    go (sort_layer.Rigid i) o e = absurd (cc)
    go sort_layer.Int o e = absurd (cc)
    go sort_layer.Real o e = absurd (cc)
    go sort_layer.Bool o e = absurd (cc)
    go sort_layer.Unit o e = absurd (cc)
    go (sort_layer.Named n us) o e = by_entry n us o (slice_get sig.types n) refl e

module _ (sig : Signature) (lawful : IsLawful sig) where
  lawful_fields : (n : ℕ) (e : TypeEntry) (fs : List FieldEntry) → slice_get sig.types n ≡ Some e → e.kind ≡ Fields fs
      → (fs ≢ []) × (list_all (λ (f : FieldEntry). is_field_sort sig n e.arity f.sort) fs ≡ true)
  lawful_fields n e fs g k = by_kind e.kind k (lawful.types n e g)
    where
      by_kind : (c : Kind) → c ≡ Fields fs
          → elim c as (λ _. Type 0) [
            | Abstract ↦ Unit {0}
            | Choices cs ↦ IsEnumeration sig n e.arity cs
            | Fields gs ↦ (gs ≢ []) × (list_all (λ f. is_field_sort sig n e.arity f.sort) gs ≡ true)
          ]
          → (fs ≢ []) × (list_all (λ (f : FieldEntry). is_field_sort sig n e.arity f.sort) fs ≡ true)
      by_kind Abstract h l = absurd (cc)
      by_kind (Choices cs) h l = absurd (cc)
      by_kind (Fields gs) h l =
          let same : gs ≡ fs = cc in
          subst (λ (hs : List FieldEntry). (hs ≢ []) × (list_all (λ (f : FieldEntry). is_field_sort sig n e.arity f.sort) hs ≡ true)) same l

  fields_below : (n : ℕ) (e : TypeEntry) → slice_get sig.types n ≡ Some e → NamesBelow n e
  unfolding NamesBelow
  fields_below n e g fs k = all fs (lawful_fields n e fs g k).1
    where
      all : (gs : List FieldEntry) → list_all (λ (f : FieldEntry). is_field_sort sig n e.arity f.sort) gs ≡ true
          → AllByRecursion (λ (f : FieldEntry). names_below n f.sort ≡ true) gs
      all [] h = tt
      all (f ∷ gs) h =
          let p = and_parts (is_field_sort sig n e.arity f.sort) (list_all (λ (f : FieldEntry). is_field_sort sig n e.arity f.sort) gs) h in
          ((and_parts (is_sort_over sig e.arity f.sort) (names_below n f.sort) p.0).1, all gs p.1)

  -- a record has a field
  pub some_field : (s : Sort) → record_fields sig s ≡ Some [] → ⊥
  some_field s e =
      let r = is_record sig s [] e in
      (lawful_fields r.type r.entry r.fields r.at r.kind).0 (empty r.fields r.sorts r.are)
    where
      empty : (fs : List FieldEntry) (us : List Sort) → [] ≡ map (λ (f : FieldEntry). put_sort us f.sort) fs → fs ≡ []
      empty [] us e = refl
      empty (f ∷ fs) us e = absurd (cc)

  depth_of_record : (s : Sort) (ss : List Sort) (r : IsRecord sig s ss)
      → depth_of sig s ≡ suc (largest (map (λ (f : FieldEntry). depth_of sig f.sort) r.fields)) + largest (map (depth_of sig) r.sorts)
  unfolding kind_depth
  depth_of_record s ss r =
      let D = type_depths [] sig.types in
      let e =
      entry [] sig.types
      (λ k t g. let z : k ≡ 0 + k = omega arith in subst (λ (n : ℕ). NamesBelow n t) z (fields_below k t g)) r.type r.entry r.at in
      let z : 0 + r.type ≡ r.type = omega arith in
      ap (depth_of sig) r.is ∙ depth_named D r.type r.sorts
      ∙ ap (λ (o : Option ℕ). or_else o 0 + largest (map (depth_by D) r.sorts))
      (ap (slice_get D) (sym z) ∙ e ∙ ap (λ (k : Kind). Some (kind_depth D k)) r.kind)

  -- the fields of a record are less deep than the record
  pub deep : (s : Sort) (ss : List Sort) → record_fields sig s ≡ Some ss → AllByRecursion (λ o. depth_of sig o < depth_of sig s) ss
  deep s ss e =
      let r = is_record sig s ss e in
      let d = depth_of_record s ss r in
      subst (AllByRecursion (λ o. depth_of sig o < depth_of sig s)) (sym r.are)
      (each r.sorts r.fields
      (λ i f g. let h = largest_at (map (λ (f : FieldEntry). depth_of sig f.sort) r.fields) i (depth_of sig f.sort)
      (get_map (λ (f : FieldEntry). depth_of sig f.sort) r.fields i f g) in
      let k = put_depth (type_depths [] sig.types) r.sorts f.sort in omega (arith, d, h, k)))
    where
      each : (us : List Sort) (fs : List FieldEntry)
          → ((i : ℕ) (f : FieldEntry) → slice_get fs i ≡ Some f → depth_of sig (put_sort us f.sort) < depth_of sig s)
          → AllByRecursion (λ o. depth_of sig o < depth_of sig s) (map (λ (f : FieldEntry). put_sort us f.sort) fs)
      each us [] h = tt
      each us (f ∷ fs) h = (h 0 f refl, each us fs (λ i g e. h (suc i) g e))

  pub not_flat : (s : Sort) (ss : List Sort) → record_fields sig s ≡ Some ss → 0 < depth_of sig s
  not_flat s ss e = let d = depth_of_record s ss (is_record sig s ss e) in omega (arith, d)

-- What is built of names of the ground fragment is of the fragment, where it is well sorted.
use Rattle.std.specs.Prelude.{ℤ, pos, ℕ, Bool, true, false, cond, ◌&&◌, ◌||◌, ◌⊎◌, List, [], ◌∷◌, ◌≡◌, Option, Some, None}
use Rattle.std.specs.List.{AllByRecursion, Contains}
use Rattle.std.proofs.Common.{refl, sym, ap, ◌∙◌, subst, inl, inr}
use Rattle.std.proofs.lemmas.Bool.{and_parts}
use Rattle.std.proofs.lemmas.Option.{same_Some}
use Rattle.ae_base.specs.Options.{all_known, when}
use Rattle.ae_base.proofs.AllOf.{all_weaker}
use Rattle.ae_base.proofs.Options.{never_some, known_some, when_some}
use Rattle.ae_base.proofs.Tests.{not_both}
use Rattle.ae_core.specs.Signatures.{IsLawful}
use Rattle.ae_core.specs.Sorts.{sort_of, is_closed_sort, head_sort, same_sorts, same_known, same_numeric, numeral_ok}
use Rattle.ae_core.specs.declared.terms.Sort.{Sort, Int, Real, out-Sort}
use Rattle.ae_core.specs.declared.terms.Sort.TheVariants.{outs-Int, outs-Real}
use Rattle.ae_core.specs.declared.terms.Term.{Term, Num, Apply}
use Rattle.ae_core.specs.declared.terms.Op.TheVariants as op
use Rattle.ae_core.specs.declared.terms.Head.{Head}
use Rattle.ae_core.specs.declared.terms.Head.TheVariants as head
use Rattle.ae_core.specs.declared.problems.Signature.{Signature}
use Rattle.ae_core.specs.declared.proofs.EqLine.{EqLine}
use Rattle.ae_core.specs.declared.proofs.Relation.{Relation}
use Rattle.ae_core.specs.declared.proofs.Relation.TheVariants.{Equal, AtMost, Below}
use Rattle.ae_core.proofs.SortFacts.{same_known_is}
use Rattle.ae_core.proofs.SortLaws.{sort_in_num}
use Rattle.ae_rules.specs.Built.{HasIntegers, HasUnplain, HasApplied, numeral, computed, IsBuilt, of_name, of_number, of_product, of_sum, of_symbol, of_unplain, IsBuiltEquation}
use Rattle.ae_rules.specs.Instances.{choices_of}
use Rattle.ae_rules.specs.Linear.{Linear, form, is_number, is_plain, plain_here}
use Rattle.ae_rules.specs.Lines.{Fact, IsAc, IsNumeric, states, fact_ok}
use Rattle.ae_rules.proofs.LinearLaws.{form-Num}
use Rattle.ae_journal.specs.Ground.{IsFragmentSort, reals, rigid, abstract, choices, records, HoldsEnumeration, itself as holds_itself, in_field}
use Rattle.ae_journal.specs.Ground.{subterms, HasFragmentSort, JoinsNoEnumeration, IsFragmentTerm, IsGroundEquation}
use Rattle.ae_journal.specs.Systems.{fields_of, record_fields}
use Rattle.ae_journal.proofs.Splits.{contains_at}
use Rattle.ae_evaluation.proofs.Decisions.{same_list}
use Rattle.ae_evaluation.proofs.SortFacts.{is_applied, result_is, ac_arguments}
use Rattle.ae_ground_laws.specs.Terms.{AreGroundNames}
use Rattle.ae_ground_laws.proofs.Plain.{Plain, plain_num, plain_apply}
use Rattle.ae_ground_laws.proofs.Subterms.{subterms_num, subterms_apply, all_flat, own, number_no_application, same_head}

-- ---- sorts
no_integer : (sig : Signature) (s : Sort) → s ≡ Int → IsFragmentSort sig s → ⊥
no_integer sig s e reals = cc
no_integer sig s e (rigid i) = cc
no_integer sig s e (abstract n ss t a k) = cc
no_integer sig s e (choices o hs c) = never_some hs (sym (ap (λ (z : Sort). choices_of sig (out-Sort z)) e ∙ ap (choices_of sig) outs-Int) ∙ c)
no_integer sig s e (records n ss fs r a) = cc

numeric_no_fields : (sig : Signature) (s : Sort) (fs : List Sort) → IsNumeric s → record_fields sig s ≡ Some fs → ⊥
numeric_no_fields sig s fs (inl e) r = never_some fs (sym (ap (record_fields sig) e ∙ ap (fields_of sig) outs-Int) ∙ r)
numeric_no_fields sig s fs (inr e) r = never_some fs (sym (ap (record_fields sig) e ∙ ap (fields_of sig) outs-Real) ∙ r)

numeric_no_choice : (sig : Signature) (s : Sort) (hs : List Head) → IsNumeric s → choices_of sig (out-Sort s) ≡ Some hs → ⊥
numeric_no_choice sig s hs (inl e) c = never_some hs (sym (ap (λ (z : Sort). choices_of sig (out-Sort z)) e ∙ ap (choices_of sig) outs-Int) ∙ c)
numeric_no_choice sig s hs (inr e) c = never_some hs (sym (ap (λ (z : Sort). choices_of sig (out-Sort z)) e ∙ ap (choices_of sig) outs-Real) ∙ c)

numeric_holds_none : (sig : Signature) (s : Sort) → IsNumeric s → HoldsEnumeration sig s → ⊥
numeric_holds_none sig s n (holds_itself o hs c) = numeric_no_choice sig s hs n c
numeric_holds_none sig s n (in_field o fs r h) = numeric_no_fields sig s fs n r

module _ (sig : Signature) where
  -- the sort of a term of the fragment
  own_sort : (t : Term) (s : Sort) → IsFragmentTerm sig [] t → sort_of sig t ≡ Some s → IsFragmentSort sig s
  own_sort t s i so = let w = own (HasFragmentSort sig []) t i.sorted in subst (IsFragmentSort sig) (same_Some w.0 s (sym w.1 ∙ so)) w.2

  number_good : (top bottom : ℤ) (real : Bool) (s : Sort) → sort_of sig (Num top bottom real) ≡ Some s → IsFragmentSort sig s → IsFragmentTerm sig [] (Num top bottom real)
  number_good top bottom real s so f = record {
    plain = plain_num top bottom real;
    sorted = subst (AllByRecursion (HasFragmentSort sig [])) (sym (subterms_num top bottom real)) ((s, so, f), tt);
    joins = subst (AllByRecursion (JoinsNoEnumeration sig [])) (sym (subterms_num top bottom real))
        ((λ h ss us o e ac q. absurd (number_no_application top bottom real h ss us e)), tt);
  }

  applied_good : (h : Head) (ss : List Sort) (us : List Term) (s : Sort) → sort_of sig (Apply h ss us) ≡ Some s → IsFragmentSort sig s → (IsAc sig h → HoldsEnumeration sig s → ⊥) → plain_here h us ≡ true
      → AllByRecursion (IsFragmentTerm sig []) us → IsFragmentTerm sig [] (Apply h ss us)
  applied_good h ss us s so f n p a = record {
    plain = plain_apply h ss us p (all_weaker (IsFragmentTerm sig []) Plain (λ t k. k.plain) us a);
    sorted = subst (AllByRecursion (HasFragmentSort sig [])) (sym (subterms_apply h ss us))
        ((s, so, f), all_flat (HasFragmentSort sig []) us (all_weaker (IsFragmentTerm sig []) (λ t. AllByRecursion (HasFragmentSort sig []) (subterms t)) (λ t k. k.sorted) us a));
    joins = subst (AllByRecursion (JoinsNoEnumeration sig [])) (sym (subterms_apply h ss us)) (
      (λ k os vs o e ac q. subst (λ (z : Sort). ¬ (HoldsEnumeration sig z)) (same_Some s o (sym so ∙ q)) (n (subst (IsAc sig) (sym (same_head h k ss os us vs e)) ac))),
      all_flat (JoinsNoEnumeration sig []) us (all_weaker (IsFragmentTerm sig []) (λ t. AllByRecursion (JoinsNoEnumeration sig []) (subterms t)) (λ t k. k.joins) us a),
    );
  }

  -- ---- two arguments of the sort of what they make
  abbrev OfOneSort : Head → List Sort → Type 0
  OfOneSort h ss = (args : List Sort) (s : Sort) → head_sort sig h ss args ≡ Some s → args ≡ s ∷ s ∷ []

  two_of_one : (h : Head) (ss : List Sort) (a b : Term) (s : Sort) → OfOneSort h ss → sort_of sig (Apply h ss (a ∷ b ∷ [])) ≡ Some s → (sort_of sig a ≡ Some s) × (sort_of sig b ≡ Some s)
  two_of_one h ss a b s o e =
      let i = is_applied sig h ss (a ∷ b ∷ []) s e in
      two_known (sort_of sig a) (sort_of sig b) i.args i.known (o i.args s i.headed)
    where
      two_known : (x y : Option Sort) (args : List Sort) → all_known (x ∷ y ∷ []) ≡ Some args → args ≡ s ∷ s ∷ [] → (x ≡ Some s) × (y ≡ Some s)
      two_known (Some u) (Some v) args k q =
          let whole : u ∷ v ∷ [] ≡ s ∷ s ∷ [] = same_Some (u ∷ v ∷ []) args k ∙ q in
          let first : u ≡ s = cc in
          let second : v ≡ s = cc in
          (ap (λ (z : Sort). Some z) first, ap (λ (z : Sort). Some z) second)
      two_known (Some u) None args k q = never_some args k
      two_known None y args k q = never_some args k

  two_sorts : (args : List Sort) (o s : Sort) → when (same_sorts [] [] && same_sorts args (o ∷ o ∷ [])) o ≡ Some s → (args ≡ s ∷ s ∷ []) × (o ≡ s)
  two_sorts args o s h =
      let w = when_some (same_sorts [] [] && same_sorts args (o ∷ o ∷ [])) o s h in
      (same_list args (o ∷ o ∷ []) (and_parts (same_sorts [] []) (same_sorts args (o ∷ o ∷ [])) w.0).1 ∙ ap (λ (z : Sort). z ∷ z ∷ []) w.1, w.1)

  sum_sorts : (real : Bool) → OfOneSort (cond real (head.Real op.Add) (head.Int op.Add)) []
  sum_sorts true args s h = (two_sorts args Real s h).0
  sum_sorts false args s h = (two_sorts args Int s h).0

  product_sorts : (real : Bool) → OfOneSort (cond real (head.Real op.Mul) (head.Int op.Mul)) []
  product_sorts true args s h = (two_sorts args Real s h).0
  product_sorts false args s h = (two_sorts args Int s h).0

  sum_numeric : (real : Bool) (us : List Term) (s : Sort) → sort_of sig (Apply (cond real (head.Real op.Add) (head.Int op.Add)) [] us) ≡ Some s → IsNumeric s
  sum_numeric true us s so = let i = is_applied sig (head.Real op.Add) [] us s so in inr (sym (two_sorts i.args Real s i.headed).1)
  sum_numeric false us s so = let i = is_applied sig (head.Int op.Add) [] us s so in inl (sym (two_sorts i.args Int s i.headed).1)

  product_numeric : (real : Bool) (us : List Term) (s : Sort) → sort_of sig (Apply (cond real (head.Real op.Mul) (head.Int op.Mul)) [] us) ≡ Some s → IsNumeric s
  product_numeric true us s so = let i = is_applied sig (head.Real op.Mul) [] us s so in inr (sym (two_sorts i.args Real s i.headed).1)
  product_numeric false us s so = let i = is_applied sig (head.Int op.Mul) [] us s so in inl (sym (two_sorts i.args Int s i.headed).1)

  number_sort : (real : Bool) (z : ℤ) (s : Sort) → sort_of sig (numeral real z) ≡ Some s → cond real Real Int ≡ s
  number_sort real z s so = (when_some (numeral_ok z (pos 1) real) (cond real Real Int) s (sym (sort_in_num sig (is_closed_sort sig) [] z (pos 1) real) ∙ so)).1

  sum_plain : (real : Bool) (a b : Term) → plain_here (cond real (head.Real op.Add) (head.Int op.Add)) (a ∷ b ∷ []) ≡ true
  sum_plain true a b = refl
  sum_plain false a b = refl

  product_plain : (real : Bool) (z : ℤ) (t : Term) → plain_here (cond real (head.Real op.Mul) (head.Int op.Mul)) (numeral real z ∷ t ∷ []) ≡ true
  product_plain true z t = ap (λ (f : Linear). is_number f || is_number (form t)) (form-Num z (pos 1) true)
  product_plain false z t = ap (λ (f : Linear). is_number f || is_number (form t)) (form-Num z (pos 1) false)

  module _ (lawful : IsLawful sig) where
    ac_sorts : (k : ℕ) (ss : List Sort) → IsAc sig (head.Symbol k) → OfOneSort (head.Symbol k) ss
    ac_sorts k ss ac args s h = ac_arguments sig lawful (head.Symbol k) ss args s ac h

  -- the sort of an application hangs on its head and the head's sorts alone
  same_result : (h : Head) (ss : List Sort) (us vs : List Term) (s o : Sort) → sort_of sig (Apply h ss us) ≡ Some s → sort_of sig (Apply h ss vs) ≡ Some o → s ≡ o
  same_result h ss us vs s o a b =
      let i = is_applied sig h ss us s a in
      let j = is_applied sig h ss vs o b in
      same_Some s o (sym (result_is sig h ss i.args s i.headed) ∙ result_is sig h ss j.args o j.headed)

  module _ (lawful : IsLawful sig) (ts : List Term) (names : AreGroundNames sig ts) where
    no_integers : HasIntegers sig ts → ⊥
    no_integers (n, t, at, so) = no_integer sig Int refl (own_sort t Int ((names t (contains_at ts n t at)).1 Int so) so)

    none_unplain : HasUnplain ts → ⊥
    none_unplain (n, t, at, u) = not_both (is_plain t) (names t (contains_at ts n t at)).0 u

    -- ---- an AC symbol that a name applies joins no enumeration
    holds_none : (k : ℕ) (ss : List Sort) (us : List Term) (s : Sort) → IsAc sig (head.Symbol k) → HasApplied ts k ss → sort_of sig (Apply (head.Symbol k) ss us) ≡ Some s → ¬ (HoldsEnumeration sig s)
    holds_none k ss us s ac a so =
        let t = Apply (head.Symbol k) ss a.arguments in
        let name = names t (contains_at ts a.name t a.there) in
        let o = name.2 k ss a.arguments refl ac in
        let joins = own (JoinsNoEnumeration sig []) t (name.1 o.0 o.1).joins in
        subst (λ (z : Sort). ¬ (HoldsEnumeration sig z)) (same_result (head.Symbol k) ss a.arguments us o.0 s o.1 so) (joins (head.Symbol k) ss a.arguments o.0 refl ac o.1)

    -- ---- what is built
    abbrev Claim : Term → Type 0
    Claim u = (s : Sort) → sort_of sig u ≡ Some s → IsFragmentTerm sig [] u

    joined_good : (h : Head) (ss : List Sort) (a b : Term) (s : Sort) → OfOneSort h ss → (IsAc sig h → HoldsEnumeration sig s → ⊥) → plain_here h (a ∷ b ∷ []) ≡ true → Claim a → Claim b
        → sort_of sig (Apply h ss (a ∷ b ∷ [])) ≡ Some s → IsFragmentTerm sig [] (Apply h ss (a ∷ b ∷ []))
    joined_good h ss a b s o n p k l so =
        let w = two_of_one h ss a b s o so in
        let c = k s w.0 in
        applied_good h ss (a ∷ b ∷ []) s so (own_sort a s c w.0) n p (c, (l s w.1, tt))

    number_claim : (u : Term) (real : Bool) (z : ℤ) → u ≡ numeral real z → (real ≡ true) ⊎ HasIntegers sig ts → Claim u
    number_claim u real z e (inr i) s so = absurd (no_integers i)
    number_claim u true z e (inl r) s so =
        let q = ap (sort_of sig) (sym e) ∙ so in
        subst (IsFragmentTerm sig []) (sym e) (number_good z (pos 1) true s q (subst (IsFragmentSort sig) (number_sort true z s q) reals))
    number_claim u false z e (inl r) s so = absurd (let w : false ≡ true = r in cc)

    product_claim : (u : Term) (real : Bool) (z : ℤ) (t : Term) → u ≡ computed real op.Mul (numeral real z) t → Contains ts t → Claim u
    product_claim u real z t e c s so =
        let h = cond real (head.Real op.Mul) (head.Int op.Mul) in
        let q = ap (sort_of sig) (sym e) ∙ so in
        let w = two_of_one h [] (numeral real z) t s (product_sorts real) q in
        let d = (names t c).1 s w.1 in
        let f = own_sort t s d w.1 in
        subst (IsFragmentTerm sig []) (sym e)
        (applied_good h [] (numeral real z ∷ t ∷ []) s q f (λ ac. numeric_holds_none sig s (product_numeric real (numeral real z ∷ t ∷ []) s q)) (product_plain real z t)
        (number_good z (pos 1) real s w.0 f, (d, tt)))

    pub built_good : (u : Term) → IsBuilt sig ts u → Claim u
    built_good u (of_name w c) s so = (names u c).1 s so
    built_good u (of_number w real z e m) s so = number_claim u real z e m s so
    built_good u (of_product w real z t e c) s so = product_claim u real z t e c s so
    built_good u (of_sum w real a b e k l) s so =
        let q = ap (sort_of sig) (sym e) ∙ so in
        subst (IsFragmentTerm sig []) (sym e)
        (joined_good (cond real (head.Real op.Add) (head.Int op.Add)) [] a b s (sum_sorts real) (λ ac. numeric_holds_none sig s (sum_numeric real (a ∷ b ∷ []) s q)) (sum_plain real a b)
        (built_good a k) (built_good b l) q)
    built_good u (of_symbol w n ss a b e ac x k l) s so =
        let q = ap (sort_of sig) (sym e) ∙ so in
        subst (IsFragmentTerm sig []) (sym e)
        (joined_good (head.Symbol n) ss a b s (ac_sorts lawful n ss ac) (λ c. holds_none n ss (a ∷ b ∷ []) s ac x q) refl (built_good a k) (built_good b l) q)
    built_good u (of_unplain w h ss a b e n k l) s so = absurd (none_unplain n)

    -- ---- lines
    equation_sorted : (f : Fact) → f.relation ≡ Equal → fact_ok sig f ≡ true → same_known (sort_of sig f.left) (sort_of sig f.right) ≡ true
    equation_sorted f e o =
        sym
        (ap (λ (r : Relation). elim r as (λ _. Bool) [
          | Equal ↦ same_known (sort_of sig f.left) (sort_of sig f.right)
          | AtMost ↦ same_numeric (sort_of sig f.left) (sort_of sig f.right)
          | Below ↦ same_numeric (sort_of sig f.left) (sort_of sig f.right)
        ]) e) ∙ o

    pub line_ground : (l : EqLine) → fact_ok sig (states l) ≡ true → IsBuiltEquation sig ts l → IsGroundEquation sig l
    line_ground l o b =
        let k = same_known_is (sort_of sig (states l).left) (sort_of sig (states l).right) (equation_sorted (states l) b.equation o) in
        let s = known_some (sort_of sig (states l).left) k.0 in
        (b.equation, built_good (states l).left b.left s.0 s.1, built_good (states l).right b.right s.0 (sym k.1 ∙ s.1))

-- Evaluation respects each rule of lines over plain terms.
use Rattle.std.specs.Prelude.{ℕ, ℤ, Bool, true, false, cond, ◌&&◌, nat_eq, List, [], ◌∷◌, ◌++◌, ◌≡◌, map, length, slice_get, Option, Some, None}
use Rattle.std.specs.List.{AllByRecursion, list_all}
use Rattle.std.specs.List.Sorted.{IsPermutation}
use Rattle.std.proofs.Common.{inl, inr}
use native.Mathlib.Omega.{arith}
use Rattle.std.proofs.lemmas.List.{length-map}
use mathlib.Core.Path.{refl, sym, ap, ◌∙◌, subst}
use Rattle.ae_rules.specs.Linear.{is_plain}
use Rattle.ae_base.specs.Options.{or_else, all_known, only, when, known, ◌>>=◌}
use Rattle.ae_core.specs.Sorts.{sort_of, is_closed_sort, same_sorts, symbol_sort}
use Rattle.ae_core.specs.Putting.{put_sort}
use Rattle.ae_rules.specs.Lines.{Fact, equal, IsAc, IsEqual, SomeBelow, HaveSort, flat, plain_ok, fact_ok, fields_from}
use Rattle.ae_core.specs.Signatures.{IsLawful, IsLawfulNature, IsEnumerated}
use Rattle.ae_rules.specs.Valuations.{RespectsRules, IsEstablished}
use Rattle.ae_core.proofs.SortFacts.{same_known_is}
use Rattle.ae_base.proofs.Tests.{three_parts}
use Rattle.ae_core.specs.declared.terms.Sort.{Sort, Int, Real, Named}
use Rattle.ae_core.specs.declared.terms.Sort.TheVariants.{outs-Named}
use Rattle.ae_core.specs.declared.terms.Term.{Term, Apply}
use Rattle.ae_core.specs.declared.terms.Head.{Head}
use Rattle.ae_core.specs.declared.terms.Head.TheVariants as head
use Rattle.ae_core.specs.declared.terms.Op.TheVariants as op
use Rattle.ae_core.specs.declared.problems.Signature.{Signature}
use Rattle.ae_core.specs.declared.problems.SymbolEntry.{SymbolEntry}
use Rattle.ae_core.specs.declared.problems.TypeEntry.{TypeEntry}
use Rattle.ae_core.specs.declared.problems.FieldEntry.{FieldEntry}
use Rattle.ae_core.specs.declared.problems.Kind.{Kind}
use Rattle.ae_core.specs.declared.problems.Kind.TheVariants.{Abstract, Choices, Fields}
use Rattle.ae_core.specs.declared.problems.Nature.{Nature}
use Rattle.ae_core.specs.declared.problems.Nature.TheVariants.{Free, Ac, Choice}
use Rattle.ae_core.specs.declared.proofs.Relation.{Relation}
use Rattle.ae_core.specs.declared.proofs.Relation.TheVariants.{Equal, AtMost, Below}
use Rattle.ae_journal.specs.Values.{Val}
use Rattle.ae_journal.specs.Keys.{Numbering}
use Rattle.ae_journal.specs.Systems.{record_fields, fields_of, field_terms, field_terms_of}
use Rattle.ae_journal.specs.Evaluation.{ev, is_ac, members, whole, result_sort, free_value}
use Rattle.ae_evaluation.proofs.Facts.{IsFit, Shapes, Reduces}
use Rattle.ae_evaluation.proofs.Linear.{ev-Apply, lin_alike}
use Rattle.ae_evaluation.proofs.Congruence.{congruent_alike, AreNumbers, IsPlainNode}
use Rattle.ae_evaluation.proofs.Decisions.{same_list}
use Rattle.ae_evaluation.proofs.Plainness.{plain-Apply, plain_node, factors_int, factors_real, sort-Apply}
use Rattle.ae_evaluation.proofs.Joins.{ac_alike}
use Rattle.ae_evaluation.proofs.Products.{int_products, real_products}
use Rattle.ae_evaluation.proofs.Records.{field_of_written, fields_tell}
use Rattle.ae_journal.specs.declared.systems.System.{System}
use Rattle.std.proofs.lemmas.Bool.{and_parts}

-- ---- what a fact over plain, well-sorted terms says of its sides
pub is_known : (o : Option Sort) → known o ≡ true → (s : Sort) × (o ≡ Some s)
is_known (Some s) e = (s, refl)
is_known None e = absurd (cc)

pub fits : (sig : Signature) (s t : Term) → plain_ok sig (equal s t) ≡ true → IsFit sig s × IsFit sig t
fits sig s t e =
    let p = three_parts (fact_ok sig (equal s t)) (is_plain s) (is_plain t) e in
    let q = same_known_is (sort_of sig s) (sort_of sig t) p.0 in
    let k = is_known (sort_of sig s) q.0 in
    (record { plain = p.1; sort = k.0; sorted = k.1 }, record { plain = p.2; sort = k.0; sorted = sym q.1 ∙ k.1 })

-- ---- an AC application has two arguments
two_of : (os : List (Option Sort)) (a b : Sort) → all_known os ≡ Some (a ∷ b ∷ []) → length os ≡ 2
two_of [] a b e = absurd (cc)
two_of (None ∷ os) a b e = absurd (cc)
two_of (Some x ∷ []) a b e = absurd (cc)
two_of (Some x ∷ None ∷ os) a b e = absurd (cc)
two_of (Some x ∷ Some z ∷ []) a b e = refl
two_of (Some x ∷ Some z ∷ None ∷ os) a b e = absurd (cc)
two_of (Some x ∷ Some z ∷ Some w ∷ os) a b e = go (all_known os) e
  where
    go : (m : Option (List Sort)) → (m >>= λ xs. Some (w ∷ xs)) >>= (λ xs. Some (z ∷ xs)) >>= (λ xs. Some (x ∷ xs)) ≡ Some (a ∷ b ∷ [])
        → length (Some x ∷ Some z ∷ Some w ∷ os) ≡ 2
    go None e = absurd (cc)
    go (Some xs) e = absurd (cc)

abbrev TwoArguments : List Term → Type 0
TwoArguments us = (a : Term) × (b : Term) × (us ≡ a ∷ b ∷ [])

two_terms : (f : Term → Option Sort) (us : List Term) → length (map f us) ≡ 2 → TwoArguments us
two_terms f [] e = absurd (cc)
two_terms f (a ∷ []) e = absurd (cc)
two_terms f (a ∷ b ∷ []) e = (a, b, refl)
two_terms f (a ∷ b ∷ c ∷ us) e = absurd (omega (arith, e))

two_by : (c : Bool) (m : Option (List Sort)) (p : List Sort → Bool) (o : Option Sort) (r : Sort → Sort) (s : Sort)
    → (only c m >>= λ args. only (p args) o >>= λ q. Some (r q)) ≡ Some s → (args : List Sort) × (m ≡ Some args) × (p args ≡ true)
two_by false m p o r s e = absurd (cc)
two_by true None p o r s e = absurd (cc)
two_by true (Some args) p o r s e = go (p args) refl e
  where
    go : (b : Bool) → b ≡ p args → (only b o >>= λ q. Some (r q)) ≡ Some s
        → (xs : List Sort) × (◌≡◌ {A = Option (List Sort)} (Some args) (Some xs)) × (p xs ≡ true)
    go true z e = (args, refl, sym z)
    go false z e = absurd (cc)

arith_two : (c z : Bool) (m : Option (List Sort)) (a r s : Sort)
    → (only c m >>= λ args. when (z && same_sorts args (a ∷ a ∷ [])) r) ≡ Some s → m ≡ Some (a ∷ a ∷ [])
arith_two false z m a r s e = absurd (cc)
arith_two true z None a r s e = absurd (cc)
arith_two true z (Some args) a r s e = go (z && same_sorts args (a ∷ a ∷ [])) refl e
  where
    go : (b : Bool) → b ≡ z && same_sorts args (a ∷ a ∷ []) → when b r ≡ Some s
        → ◌≡◌ {A = Option (List Sort)} (Some args) (Some (a ∷ a ∷ []))
    go true w e = ap Some (same_list args (a ∷ a ∷ []) (and_parts z (same_sorts args (a ∷ a ∷ [])) (sym w)).1)
    go false w e = absurd (cc)

pub ac_entry : (sig : Signature) (e : SymbolEntry) → e.nature ≡ Ac → IsLawfulNature sig e → (s : Sort) × (e.args ≡ s ∷ s ∷ [])
ac_entry sig e n l = go e.nature n l
  where
    go : (m : Nature) → m ≡ Ac
        → elim m as (λ _. Type 0) [
          | Free ↦ Unit {0}
          | Ac ↦ (s : Sort) × (e.args ≡ s ∷ s ∷ []) × (e.result ≡ Some s)
          | Choice of place ↦
              (e.vars ≡ 0) × (e.args ≡ []) × (e.result ≡ Some (Named of [])) × IsEnumerated sig of
        ]
        → (s : Sort) × (e.args ≡ s ∷ s ∷ [])
    go Free n l = absurd (cc)
    go Ac n l = (l.0, l.1)
    go (Choice of place) n l = absurd (cc)

two_arguments : (sig : Signature) → IsLawful sig → (h : Head) (ss : List Sort) (us : List Term) (s : Sort) → IsAc sig h
    → sort_of sig (Apply h ss us) ≡ Some s → TwoArguments us
two_arguments sig lawful (head.Symbol n) ss us s i o =
    let e = i.0 in
    let z = sym (sort-Apply sig (head.Symbol n) ss us) ∙ o in
    let w =
    subst
    (λ (q : Option SymbolEntry).
    (only (list_all (is_closed_sort sig) ss) (all_known (map (sort_of sig) us)) >>= λ args. q >>= symbol_sort ss args) ≡ Some s) i.1 z in
    let k =
    two_by (list_all (is_closed_sort sig) ss) (all_known (map (sort_of sig) us))
    (λ args. nat_eq (length ss) e.vars && same_sorts args (map (put_sort ss) e.args)) e.result (put_sort ss) s w in
    let a = ac_entry sig e i.2 (lawful.symbols n e i.1).2 in
    let same =
    same_list k.0 (map (put_sort ss) e.args) (and_parts (nat_eq (length ss) e.vars) (same_sorts k.0 (map (put_sort ss) e.args)) k.2).1 in
    two_terms (sort_of sig) us
    (two_of (map (sort_of sig) us) (put_sort ss a.0) (put_sort ss a.0)
    (k.1 ∙ ap (λ (q : List Sort). Some q) (same ∙ ap (map (put_sort ss)) a.1)))
two_arguments sig lawful (head.Int op.Mul) ss us s i o =
    two_terms (sort_of sig) us
    (two_of (map (sort_of sig) us) Int Int
    (arith_two (list_all (is_closed_sort sig) ss) (same_sorts ss []) (all_known (map (sort_of sig) us)) Int Int s
    (sym (sort-Apply sig (head.Int op.Mul) ss us) ∙ o)))
two_arguments sig lawful (head.Real op.Mul) ss us s i o =
    two_terms (sort_of sig) us
    (two_of (map (sort_of sig) us) Real Real
    (arith_two (list_all (is_closed_sort sig) ss) (same_sorts ss []) (all_known (map (sort_of sig) us)) Real Real s
    (sym (sort-Apply sig (head.Real op.Mul) ss us) ∙ o)))
two_arguments sig lawful (head.Build n) ss us s i o = absurd i
two_arguments sig lawful (head.Field n k) ss us s i o = absurd i
two_arguments sig lawful head.True ss us s i o = absurd i
two_arguments sig lawful head.False ss us s i o = absurd i
two_arguments sig lawful head.Void ss us s i o = absurd i
two_arguments sig lawful (head.Int op.Add) ss us s i o = absurd i
two_arguments sig lawful (head.Int op.Sub) ss us s i o = absurd i
two_arguments sig lawful (head.Int op.Neg) ss us s i o = absurd i
two_arguments sig lawful (head.Int op.Div) ss us s i o = absurd i
two_arguments sig lawful (head.Int op.Mod) ss us s i o = absurd i
two_arguments sig lawful (head.Real op.Add) ss us s i o = absurd i
two_arguments sig lawful (head.Real op.Sub) ss us s i o = absurd i
two_arguments sig lawful (head.Real op.Neg) ss us s i o = absurd i
two_arguments sig lawful (head.Real op.Div) ss us s i o = absurd i
two_arguments sig lawful (head.Real op.Mod) ss us s i o = absurd i

-- ---- the fields of a record type
pub fields_named : (sig : Signature) (n : ℕ) (ss : List Sort) (e : TypeEntry) (fs : List FieldEntry) → slice_get sig.types n ≡ Some e
    → e.kind ≡ Fields fs
    → record_fields sig (Named n ss) ≡ Some (map (λ f. put_sort ss f.sort) fs)
fields_named sig n ss e fs a b =
    ap (fields_of sig) (outs-Named n ss)
    ∙ ap
    (λ (o : Option TypeEntry). o >>= λ e. elim e.kind as
    (λ _. Option (List Sort)) [ Fields fs ↦ Some (map (λ f. put_sort ss f.sort) fs) | Abstract ↦ None | Choices cs ↦ None ]) a
    ∙ ap
    (λ (k : Kind). elim k as
    (λ _. Option (List Sort)) [ Fields fs ↦ Some (map (λ f. put_sort ss f.sort) fs) | Abstract ↦ None | Choices cs ↦ None ]) b

none_below : {V : Type 0} (ok : Fact → Bool) (ev : Term → V) (fs : List (ℤ × Fact)) → SomeBelow fs
    → AllByRecursion (λ f. IsEstablished ok ev (λ _ _. true) (λ _ _. false) f.1) fs → ⊥
none_below ok ev [] b a = b
none_below ok ev (f ∷ fs) (inl e) a = go (f.1).relation e (a.0).1
  where
    go : (r : Relation) → r ≡ Below
        → elim r as (λ _. Type 0) [ Equal ↦ ev (f.1).left ≡ ev (f.1).right | AtMost ↦ true ≡ true | Below ↦ false ≡ true ] → ⊥
    go Equal e h = cc
    go AtMost e h = cc
    go Below e h = cc
none_below ok ev (f ∷ fs) (inr b) a = none_below ok ev fs b a.1

equal_sides : {V : Type 0} (ok : Fact → Bool) (ev : Term → V) (fs : List (ℤ × Fact)) → AllByRecursion IsEqual fs
    → AllByRecursion (λ f. IsEstablished ok ev (λ _ _. true) (λ _ _. false) f.1) fs
    → AllByRecursion (λ f. ev (f.1).left ≡ ev (f.1).right) fs
equal_sides ok ev [] q a = tt
equal_sides ok ev (f ∷ fs) q a = (go (f.1).relation q.0 (a.0).1, equal_sides ok ev fs q.1 a.1)
  where
    go : (r : Relation) → r ≡ Equal
        → elim r as (λ _. Type 0) [ Equal ↦ ev (f.1).left ≡ ev (f.1).right | AtMost ↦ true ≡ true | Below ↦ false ≡ true ]
        → ev (f.1).left ≡ ev (f.1).right
    go Equal e h = h
    go AtMost e h = absurd (cc)
    go Below e h = absurd (cc)

when_is : (M : Option (List Sort)) (p : List Sort → Bool) (r s : Sort) → (M >>= λ args. when (p args) r) ≡ Some s → Some r ≡ Some s
when_is None p r s e = absurd (cc)
when_is (Some args) p r s e = go (p args) e
  where
    go : (b : Bool) → when b r ≡ Some s → Some r ≡ Some s
    go true e = e
    go false e = absurd (cc)

ac_nature : (n : Nature) → n ≡ Ac → elim n as (λ _. Bool) [ Free ↦ false | Ac ↦ true | Choice of at ↦ false ] ≡ true
ac_nature Free e = absurd (cc)
ac_nature Ac e = refl
ac_nature (Choice of at) e = absurd (cc)

module _ (sig : Signature) (y : System) (num : Numbering) (reduce : Head → List Sort → List ℕ → List ℕ) (choosing : Bool)
    (assigned : ℕ → Sort → Option Val) where
  -- `counts` says that what an AC application joins can be read off its value
  module _ (facts : Shapes sig y num reduce choosing assigned) (counts : (h : Head) (ss : List Sort) (a b : Term)
      → members sig y num reduce choosing h ss (or_else (result_sort sig h ss) Int)
      (whole sig y num reduce choosing h ss (or_else (result_sort sig h ss) Int) (reduce h ss
      (members sig y num reduce choosing h ss (or_else (result_sort sig h ss) Int) (ev sig y num reduce choosing assigned a)
      ++ members sig y num reduce choosing h ss (or_else (result_sort sig h ss) Int) (ev sig y num reduce choosing assigned b))))
      ≡ reduce h ss (members sig y num reduce choosing h ss (or_else (result_sort sig h ss) Int) (ev sig y num reduce choosing assigned a)
      ++ members sig y num reduce choosing h ss (or_else (result_sort sig h ss) Int) (ev sig y num reduce choosing assigned b)))
      (reduces : (n : ℕ) (ss : List Sort) → Reduces (reduce (head.Symbol n) ss)) where
    is_ac_symbol : (n : ℕ) → IsAc sig (head.Symbol n) → is_ac sig y num reduce choosing (head.Symbol n) ≡ true
    is_ac_symbol n a =
        ap (λ o. or_else (o >>= λ e. Some (elim e.nature as (λ _. Bool) [ Free ↦ false | Ac ↦ true | Choice of at ↦ false ])) false) a.1
        ∙ ac_nature (a.0).nature a.2

    joined_is : (n : ℕ) (ss : List Sort) (a b : Term) → is_ac sig y num reduce choosing (head.Symbol n) ≡ true
        → ev sig y num reduce choosing assigned (Apply (head.Symbol n) ss (a ∷ b ∷ [])) ≡ whole sig y num reduce choosing (head.Symbol n) ss
        (or_else (result_sort sig (head.Symbol n) ss) Int)
        (reduce (head.Symbol n) ss
        (members sig y num reduce choosing (head.Symbol n) ss (or_else (result_sort sig (head.Symbol n) ss) Int)
        (ev sig y num reduce choosing assigned a)
        ++ members sig y num reduce choosing (head.Symbol n) ss (or_else (result_sort sig (head.Symbol n) ss) Int)
        (ev sig y num reduce choosing assigned b)))
    joined_is n ss a b e =
        ev-Apply sig y num reduce choosing assigned (head.Symbol n) ss (a ∷ b ∷ [])
        ∙ ap (λ (c : Bool). cond c (whole sig y num reduce choosing (head.Symbol n) ss (or_else (result_sort sig (head.Symbol n) ss) Int)
        (reduce (head.Symbol n) ss
        (members sig y num reduce choosing (head.Symbol n) ss (or_else (result_sort sig (head.Symbol n) ss) Int)
        (ev sig y num reduce choosing assigned a)
        ++ members sig y num reduce choosing (head.Symbol n) ss (or_else (result_sort sig (head.Symbol n) ss) Int)
        (ev sig y num reduce choosing assigned b))))
        (free_value sig y num reduce choosing (head.Symbol n) ss (or_else (result_sort sig (head.Symbol n) ss) Int)
        (ev sig y num reduce choosing assigned a ∷ ev sig y num reduce choosing assigned b ∷ []))) e

    int_sort : (ss : List Sort) (a b : Term) (s : Sort) → sort_of sig (Apply (head.Int op.Mul) ss (a ∷ b ∷ [])) ≡ Some s
        → sort_of sig (Apply (head.Int op.Mul) ss (a ∷ b ∷ [])) ≡ Some Int
    int_sort ss a b s e =
        e ∙ sym (when_is (only (list_all (is_closed_sort sig) ss) (all_known (map (sort_of sig) (a ∷ b ∷ []))))
        (λ args. same_sorts ss [] && same_sorts args (Int ∷ Int ∷ [])) Int s (sym (sort-Apply sig (head.Int op.Mul) ss (a ∷ b ∷ [])) ∙ e))

    real_sort : (ss : List Sort) (a b : Term) (s : Sort) → sort_of sig (Apply (head.Real op.Mul) ss (a ∷ b ∷ [])) ≡ Some s
        → sort_of sig (Apply (head.Real op.Mul) ss (a ∷ b ∷ [])) ≡ Some Real
    real_sort ss a b s e =
        e ∙ sym (when_is (only (list_all (is_closed_sort sig) ss) (all_known (map (sort_of sig) (a ∷ b ∷ []))))
        (λ args. same_sorts ss [] && same_sorts args (Real ∷ Real ∷ [])) Real s
        (sym (sort-Apply sig (head.Real op.Mul) ss (a ∷ b ∷ [])) ∙ e))

    ac_respects : (h : Head) (ss : List Sort) (a b c d : Term) → IsFit sig (Apply h ss (a ∷ b ∷ [])) → IsFit sig (Apply h ss (c ∷ d ∷ []))
        → IsAc sig h
        → IsPermutation (flat h ss (Apply h ss (a ∷ b ∷ []))) (flat h ss (Apply h ss (c ∷ d ∷ [])))
        → ev sig y num reduce choosing assigned (Apply h ss (a ∷ b ∷ [])) ≡ ev sig y num reduce choosing assigned (Apply h ss (c ∷ d ∷ []))
    ac_respects (head.Symbol n) ss a b c d f g i p =
        let e = is_ac_symbol n i in
        let s = or_else (result_sort sig (head.Symbol n) ss) Int in
        ac_alike (head.Symbol n) ss (ev sig y num reduce choosing assigned) (members sig y num reduce choosing (head.Symbol n) ss s)
        (whole sig y num reduce choosing (head.Symbol n) ss s) (reduce (head.Symbol n) ss)
        (reduces n ss) (λ u v. joined_is n ss u v e) (λ u v. counts (head.Symbol n) ss u v) a b c d p
    ac_respects (head.Int op.Mul) ss a b c d f g i p =
        int_products sig y num reduce choosing assigned facts.numbers ss a b c d f g (int_sort ss a b f.sort f.sorted)
        (int_sort ss c d g.sort g.sorted) p
    ac_respects (head.Real op.Mul) ss a b c d f g i p =
        real_products sig y num reduce choosing assigned facts.numbers ss a b c d f g (real_sort ss a b f.sort f.sorted)
        (real_sort ss c d g.sort g.sorted) p
    ac_respects (head.Build n) ss a b c d f g i p = absurd i
    ac_respects (head.Field n k) ss a b c d f g i p = absurd i
    ac_respects head.True ss a b c d f g i p = absurd i
    ac_respects head.False ss a b c d f g i p = absurd i
    ac_respects head.Void ss a b c d f g i p = absurd i
    ac_respects (head.Int op.Add) ss a b c d f g i p = absurd i
    ac_respects (head.Int op.Sub) ss a b c d f g i p = absurd i
    ac_respects (head.Int op.Neg) ss a b c d f g i p = absurd i
    ac_respects (head.Int op.Div) ss a b c d f g i p = absurd i
    ac_respects (head.Int op.Mod) ss a b c d f g i p = absurd i
    ac_respects (head.Real op.Add) ss a b c d f g i p = absurd i
    ac_respects (head.Real op.Sub) ss a b c d f g i p = absurd i
    ac_respects (head.Real op.Neg) ss a b c d f g i p = absurd i
    ac_respects (head.Real op.Div) ss a b c d f g i p = absurd i
    ac_respects (head.Real op.Mod) ss a b c d f g i p = absurd i

    are_numbers : (h : Head) (ss : List Sort) (ts : List Term) → IsFit sig (Apply h ss ts)
        → AreNumbers sig y num reduce choosing assigned h ts
    are_numbers (head.Symbol n) ss ts f = tt
    are_numbers (head.Build n) ss ts f = tt
    are_numbers (head.Field n k) ss ts f = tt
    are_numbers head.True ss ts f = tt
    are_numbers head.False ss ts f = tt
    are_numbers head.Void ss ts f = tt
    are_numbers (head.Int op.Add) ss ts f = tt
    are_numbers (head.Int op.Sub) ss ts f = tt
    are_numbers (head.Int op.Neg) ss ts f = tt
    are_numbers (head.Int op.Div) ss ts f = tt
    are_numbers (head.Int op.Mod) ss ts f = tt
    are_numbers (head.Int op.Mul) ss [] f = tt
    are_numbers (head.Int op.Mul) ss (a ∷ []) f = tt
    are_numbers (head.Int op.Mul) ss (a ∷ b ∷ []) f =
        let s = factors_int sig ss a b f.sort f.sorted in (facts.numbers a Int s.0 (inl refl), facts.numbers b Int s.1 (inl refl))
    are_numbers (head.Int op.Mul) ss (a ∷ b ∷ c ∷ ts) f = tt
    are_numbers (head.Real op.Add) ss ts f = tt
    are_numbers (head.Real op.Sub) ss ts f = tt
    are_numbers (head.Real op.Neg) ss ts f = tt
    are_numbers (head.Real op.Div) ss ts f = tt
    are_numbers (head.Real op.Mod) ss ts f = tt
    are_numbers (head.Real op.Mul) ss [] f = tt
    are_numbers (head.Real op.Mul) ss (a ∷ []) f = tt
    are_numbers (head.Real op.Mul) ss (a ∷ b ∷ []) f =
        let s = factors_real sig ss a b f.sort f.sorted in (facts.numbers a Real s.0 (inr refl), facts.numbers b Real s.1 (inr refl))
    are_numbers (head.Real op.Mul) ss (a ∷ b ∷ c ∷ ts) f = tt

    node_of : (h : Head) (ss : List Sort) (ts : List Term) → IsFit sig (Apply h ss ts) → IsPlainNode h ts
    node_of h ss ts f = plain_node h ts (and_parts _ _ (sym (plain-Apply h ss ts) ∙ f.plain)).0

    both_ac : IsLawful sig → (h : Head) (ss : List Sort) (us vs : List Term) → IsAc sig h
        → IsPermutation (flat h ss (Apply h ss us)) (flat h ss (Apply h ss vs))
        → IsFit sig (Apply h ss us) → IsFit sig (Apply h ss vs)
        → ev sig y num reduce choosing assigned (Apply h ss us) ≡ ev sig y num reduce choosing assigned (Apply h ss vs)
    both_ac lawful h ss us vs i p f g =
        let u = two_arguments sig lawful h ss us f.sort i f.sorted in
        let v = two_arguments sig lawful h ss vs g.sort i g.sorted in
        let r =
        subst
        (λ (w : List Term × List Term). IsPermutation (flat h ss (Apply h ss w.0)) (flat h ss (Apply h ss w.1)) × IsFit sig (Apply h ss w.0)
        × IsFit sig (Apply h ss w.1))
        (λ k. (u.2 k, v.2 k)) (p, f, g) in
        ap (λ ws. ev sig y num reduce choosing assigned (Apply h ss ws)) u.2 ∙ ac_respects h ss u.0 u.1 v.0 v.1 r.1 r.2 i r.0 ∙ sym
        (ap (λ ws. ev sig y num reduce choosing assigned (Apply h ss ws)) v.2)

    same_fields : (n : ℕ) (ss : List Sort) (e : TypeEntry) (fs : List FieldEntry) (s t : Term) → slice_get sig.types n ≡ Some e
        → e.kind ≡ Fields fs → HaveSort sig (Named n ss) (equal s t)
        → map (ev sig y num reduce choosing assigned) (fields_from n ss s 0 (length fs)) ≡ map (ev sig y num reduce choosing assigned)
        (fields_from n ss t 0 (length fs))
        → ev sig y num reduce choosing assigned s ≡ ev sig y num reduce choosing assigned t
    same_fields n ss e fs s t a b c q =
        let o = fields_named sig n ss e fs a b in
        let os = map (λ (f : FieldEntry). put_sort ss f.sort) fs in
        let terms : (u : Term) → field_terms (Named n ss) u (length os) ≡ fields_from n ss u 0 (length fs) =
        λ u. (λ k. field_terms_of (outs-Named n ss k) u (length os)) ∙ ap (λ (k : ℕ). fields_from n ss u 0 k)
        (length-map fs (λ (f : FieldEntry). put_sort ss f.sort)) in
        fields_tell sig y num reduce choosing assigned (Named n ss) os s t o (facts.records s (Named n ss) os c.0 o)
        (facts.records t (Named n ss) os c.1 o)
        (ap (map (ev sig y num reduce choosing assigned)) (terms s) ∙ q ∙ sym (ap (map (ev sig y num reduce choosing assigned)) (terms t)))

    -- each rule is respected, of inequalities in a trivial way
    pub respects_rules : IsLawful sig
        → RespectsRules sig (plain_ok sig) (ev sig y num reduce choosing assigned) (λ _ _. true) (λ _ _. false)
    respects_rules lawful = record {
      cong = λ h ss us vs e o. let f = fits sig (Apply h ss us)
          (Apply h ss vs) o in congruent_alike sig y num reduce choosing assigned assigned h ss us vs e (node_of h ss us f.0)
          (node_of h ss vs f.1) (are_numbers h ss us f.0);
      ac = λ h ss us vs i p o. let f = fits sig (Apply h ss us) (Apply h ss vs) o in both_ac lawful h ss us vs i p f.0 f.1;
      field = λ n place ss args t g o. field_of_written sig y num reduce choosing assigned n place ss args t g;
      fields = λ s t n ss e fs a b c q o. same_fields n ss e fs s t a b c q;
      lin = λ s t d fs n q z a o.
          lin_alike sig y num reduce choosing assigned s t d fs n z.sums
          (equal_sides (plain_ok sig) (ev sig y num reduce choosing assigned) fs q a) (facts.numbers s z.sort z.sorted.0 z.numeric)
          (facts.numbers t z.sort z.sorted.1 z.numeric);
      le_sum = λ s t d fs n q z a o. refl;
      lt_sum = λ s t d fs n q w z a o. absurd (none_below (plain_ok sig) (ev sig y num reduce choosing assigned) fs w a);
      round = λ s t from r a o. refl;
    }

-- The heights fall from a record's sort to those of its fields, where each field's sort names earlier types alone.
use Rattle.std.specs.Prelude.{ℕ, zero, suc, ◌+◌, ◌<◌, ◌≤◌, ◌≢◌, Bool, true, ◌&&◌, nat_lt, List, [], ◌∷◌, ◌++◌, ◌≡◌, map, length, slice_get, Option, Some, None}
use Rattle.std.specs.List.{AllByRecursion, list_all}
use Rattle.std.proofs.Common.{refl, sym, ap, ◌∙◌, subst, arith, length-append}
use Rattle.std.proofs.lemmas.Bool.{and_parts}
use Rattle.std.proofs.lemmas.Bool.Decides.{nat_tests}
use Rattle.ae_base.specs.Options.{or_else}
use Rattle.ae_core.specs.Putting.{put_sort}
use Rattle.ae_core.specs.Inner.Induction.{by_sorts}
use Rattle.ae_core.specs.Signatures.{fields_of, names_below, names_below_step, IsLawful, IsLawfulType, is_field_sort, is_sort_over}
use Rattle.ae_core.proofs.PuttingLaws.{put_var, put_rigid, put_int, put_real, put_bool, put_unit, put_named}
use Rattle.ae_core.specs.declared.terms.Sort.{Sort, Var, Rigid, Int, Real, Bool as BoolSort, Unit as UnitSort, Named, fold-roll-Sort}
use Rattle.ae_core.specs.declared.terms.Sort.TheOpen as sort_layer
use Rattle.ae_core.specs.declared.terms.Sort.TheVariants.{rolls-Var, rolls-Rigid, rolls-Int, rolls-Real, rolls-Bool, rolls-Unit, rolls-Named}
use Rattle.ae_core.specs.declared.problems.Signature.{Signature}
use Rattle.ae_core.specs.declared.problems.TypeEntry.{TypeEntry}
use Rattle.ae_core.specs.declared.problems.FieldEntry.{FieldEntry}
use Rattle.ae_core.specs.declared.problems.Kind.{Kind}
use Rattle.ae_core.specs.declared.problems.Kind.TheVariants.{Abstract, Choices, Fields}
use Rattle.ae_store.specs.Heights.{largest, height, height_step, weight, weights, weights_after, FieldsFall, HasEarlierFields}
use Rattle.ae_base.proofs.ListFacts.{get_append, value_at, get_map, list_all_at}
use Rattle.ae_store.proofs.Gets.{get_last}

height_var : (ws : List ℕ) (i : ℕ) → height ws (Var i) ≡ 0
unfolding height
height_var ws i = ap (height ws) (sym (rolls-Var i)) ∙ fold-roll-Sort ℕ (height_step ws) (sort_layer.Var i)

height_named : (ws : List ℕ) (h : ℕ) (ss : List Sort) → height ws (Named h ss) ≡ or_else (slice_get ws h) 0 + largest (map (height ws) ss)
unfolding height
height_named ws h ss = ap (height ws) (sym (rolls-Named h ss)) ∙ fold-roll-Sort ℕ (height_step ws) (sort_layer.Named h ss)

below_named : (n h : ℕ) (ss : List Sort) → names_below n (Named h ss) ≡ (nat_lt h n && list_all (names_below n) ss)
unfolding names_below
below_named n h ss = ap (names_below n) (sym (rolls-Named h ss)) ∙ fold-roll-Sort Bool (names_below_step n) (sort_layer.Named h ss) ∙ ap (λ b. nat_lt h n && b) (all_of (names_below n) ss)
  where
    all_of : (f : Sort → Bool) (xs : List Sort) → list_all (λ b. b) (map f xs) ≡ list_all f xs
    all_of f [] = refl
    all_of f (x ∷ xs) = ap (λ b. f x && b) (all_of f xs)

at_most_largest : (ns : List ℕ) (i n : ℕ) → slice_get ns i ≡ Some n → n ≤ largest ns
at_most_largest [] i n e = cc e
at_most_largest (m ∷ ns) zero n e = let e' : m ≡ n = cc e in omega (arith, e')
at_most_largest (m ∷ ns) (suc i) n e = let h = at_most_largest ns i n e in omega (arith, h)

-- ---- what is put for variables
module _ (ws : List ℕ) (ss : List Sort) where
  Bounded : Sort → Type 0
  Bounded s = height ws (put_sort ss s) ≤ height ws s + largest (map (height ws) ss)

  var_by : (i : ℕ) (o : Option Sort) → slice_get ss i ≡ o → height ws (or_else o (Var i)) ≤ largest (map (height ws) ss)
  var_by i None e = let h : height ws (Var i) ≡ 0 = height_var ws i in omega (arith, h)
  var_by i (Some t) e = at_most_largest (map (height ws) ss) i (height ws t) (get_map (height ws) ss i t e)

  all_bounded : (args : List Sort) → AllByRecursion Bounded args → largest (map (height ws) (map (put_sort ss) args)) ≤ largest (map (height ws) args) + largest (map (height ws) ss)
  unfolding Bounded
  all_bounded [] h = omega arith
  all_bounded (a ∷ args) h =
      let p : height ws (put_sort ss a) ≤ height ws a + largest (map (height ws) ss) = h.0 in
      let q = all_bounded args h.1 in
      omega (arith, p, q)

  plain : (s : Sort) → put_sort ss s ≡ s → Bounded s
  unfolding Bounded
  plain s e = let h : height ws (put_sort ss s) ≡ height ws s = ap (height ws) e in omega (arith, h)

  bounded_var : (i : ℕ) → Bounded (Var i)
  unfolding Bounded
  bounded_var i =
      let e : height ws (put_sort ss (Var i)) ≡ height ws (or_else (slice_get ss i) (Var i)) = ap (height ws) (put_var ss i) in
      let h = var_by i (slice_get ss i) refl in
      omega (arith, e, h)

  bounded_named : (h : ℕ) (args : List Sort) → AllByRecursion Bounded args → Bounded (Named h args)
  unfolding Bounded
  bounded_named h args all =
      let e : height ws (put_sort ss (Named h args)) ≡ or_else (slice_get ws h) 0 + largest (map (height ws) (map (put_sort ss) args)) = ap (height ws) (put_named ss h args) ∙ height_named ws h (map (put_sort ss) args) in
      let f = height_named ws h args in
      let g = all_bounded args all in
      omega (arith, e, f, g)

  bounded : (s : Sort) → Bounded s
  bounded = by_sorts Bounded bounded_var (λ i. plain (Rigid i) (put_rigid ss i)) (plain Int (put_int ss)) (plain Real (put_real ss)) (plain BoolSort (put_bool ss)) (plain UnitSort (put_unit ss)) bounded_named

  pub put_height : (s : Sort) → height ws (put_sort ss s) ≤ height ws s + largest (map (height ws) ss)
  unfolding Bounded
  put_height s = bounded s

-- ---- weights of later types don't matter
module _ (vs ws : List ℕ) (n : ℕ) (agree : (i : ℕ) → i < n → slice_get vs i ≡ slice_get ws i) where
  Same : Sort → Type 0
  Same s = names_below n s ≡ true → height vs s ≡ height ws s

  all_same : (args : List Sort) → AllByRecursion Same args → list_all (names_below n) args ≡ true → map (height vs) args ≡ map (height ws) args
  unfolding Same
  all_same [] h e = refl
  all_same (a ∷ args) h e =
      let p = and_parts (names_below n a) (list_all (names_below n) args) e in
      λ i. h.0 p.0 i ∷ all_same args h.1 p.1 i

  same_named : (h : ℕ) (args : List Sort) → AllByRecursion Same args → Same (Named h args)
  unfolding Same
  same_named h args all e =
      let p = and_parts (nat_lt h n) (list_all (names_below n) args) (sym (below_named n h args) ∙ e) in
      let l : h < n = grind (arith, nat_tests, p.0) in
      let q : or_else (slice_get vs h) 0 ≡ or_else (slice_get ws h) 0 = ap (λ o. or_else o 0) (agree h l) in
      height_named vs h args ∙ (λ i. q i + largest (all_same args all p.1 i)) ∙ sym (height_named ws h args)

  flat_same : (s : Sort) → height vs s ≡ 0 → height ws s ≡ 0 → Same s
  unfolding Same
  flat_same s p q e = p ∙ sym q

zero_rigid : (ws : List ℕ) (i : ℕ) → height ws (Rigid i) ≡ 0
unfolding height
zero_rigid ws i = ap (height ws) (sym (rolls-Rigid i)) ∙ fold-roll-Sort ℕ (height_step ws) (sort_layer.Rigid i)

zero_int : (ws : List ℕ) → height ws Int ≡ 0
unfolding height
zero_int ws = ap (height ws) (sym rolls-Int) ∙ fold-roll-Sort ℕ (height_step ws) sort_layer.Int

zero_real : (ws : List ℕ) → height ws Real ≡ 0
unfolding height
zero_real ws = ap (height ws) (sym rolls-Real) ∙ fold-roll-Sort ℕ (height_step ws) sort_layer.Real

zero_bool : (ws : List ℕ) → height ws BoolSort ≡ 0
unfolding height
zero_bool ws = ap (height ws) (sym rolls-Bool) ∙ fold-roll-Sort ℕ (height_step ws) sort_layer.Bool

zero_unit : (ws : List ℕ) → height ws UnitSort ≡ 0
unfolding height
zero_unit ws = ap (height ws) (sym rolls-Unit) ∙ fold-roll-Sort ℕ (height_step ws) sort_layer.Unit

same_height : (vs ws : List ℕ) (n : ℕ) → ((i : ℕ) → i < n → slice_get vs i ≡ slice_get ws i) → (s : Sort) → names_below n s ≡ true → height vs s ≡ height ws s
unfolding Same
same_height vs ws n agree =
    by_sorts (Same vs ws n agree) (λ i. flat_same vs ws n agree (Var i) (height_var vs i) (height_var ws i)) (λ i. flat_same vs ws n agree (Rigid i) (zero_rigid vs i) (zero_rigid ws i))
    (flat_same vs ws n agree Int (zero_int vs) (zero_int ws)) (flat_same vs ws n agree Real (zero_real vs) (zero_real ws)) (flat_same vs ws n agree BoolSort (zero_bool vs) (zero_bool ws))
    (flat_same vs ws n agree UnitSort (zero_unit vs) (zero_unit ws)) (same_named vs ws n agree)

-- ---- the weight of a type stands at its number
front_after : (ws : List ℕ) (es : List TypeEntry) (i n : ℕ) → slice_get ws i ≡ Some n → slice_get (weights_after ws es) i ≡ Some n
front_after ws [] i n e = e
front_after ws (x ∷ es) i n e = front_after (ws ++ weight ws x ∷ []) es i n (get_append ws (weight ws x ∷ []) i n e)

record HasWeight (all : List ℕ) (i : ℕ) (e : TypeEntry) : Type 0 where
  before : List ℕ
  at : slice_get all i ≡ Some (weight before e)
  agree : (j : ℕ) → j < i → slice_get before j ≡ slice_get all j

weight_at : (ws : List ℕ) (es : List TypeEntry) (i : ℕ) (e : TypeEntry) → slice_get es i ≡ Some e → HasWeight (weights_after ws es) (length ws + i) e
weight_at ws [] i e p = cc p
weight_at ws (x ∷ es) zero e p =
    let x' : x ≡ e = cc p in
    let z : length ws + 0 ≡ length ws = omega arith in
    let all : List ℕ = weights_after (ws ++ weight ws x ∷ []) es in
    record {
      before = ws;
      at = ap (slice_get all) z ∙ front_after (ws ++ weight ws x ∷ []) es (length ws) (weight ws x) (get_last ws (weight ws x)) ∙ ap (λ y. Some (weight ws y)) x';
      agree = λ j h.
          let g = value_at ws j (omega (arith, h)) in
          g.1 ∙ sym (front_after (ws ++ weight ws x ∷ []) es j g.0 (get_append ws (weight ws x ∷ []) j g.0 g.1));
    }
weight_at ws (x ∷ es) (suc i) e p =
    let z : length (ws ++ weight ws x ∷ []) + i ≡ length ws + suc i = omega (arith, length-append ws (weight ws x ∷ [])) in
    subst (λ k. HasWeight (weights_after (ws ++ weight ws x ∷ []) es) k e) z (weight_at (ws ++ weight ws x ∷ []) es i e p)

pub fields_fall : (sig : Signature) → HasEarlierFields sig → FieldsFall sig
unfolding weights
fields_fall sig earlier = record { falls = falls }
  where
    falls : (n : ℕ) (ss : List Sort) (e : TypeEntry) (k : ℕ) (f : FieldEntry) → slice_get sig.types n ≡ Some e → slice_get (fields_of e) k ≡ Some f → height (weights sig) (put_sort ss f.sort) < height (weights sig) (Named n ss)
    falls n ss e k f p q =
        let all : List ℕ = weights sig in
        let z : 0 + n ≡ n = omega arith in
        let w : HasWeight all n e = subst (λ i. HasWeight all i e) z (weight_at [] sig.types n e p) in
        let low : names_below n f.sort ≡ true = list_all_at (λ g. names_below n g.sort) (fields_of e) k f (earlier.fields n e p) q in
        let a : height all (put_sort ss f.sort) ≤ height all f.sort + largest (map (height all) ss) = put_height all ss f.sort in
        let b : height (w.before) f.sort ≡ height all f.sort = same_height w.before all n w.agree f.sort low in
        let c : height (w.before) f.sort ≤ largest (map (λ g. height w.before g.sort) (fields_of e)) = at_most_largest (map (λ g. height w.before g.sort) (fields_of e)) k (height w.before f.sort)
        (get_map (λ g. height w.before g.sort) (fields_of e) k f q) in
        let d : height all (Named n ss) ≡ or_else (slice_get all n) 0 + largest (map (height all) ss) = height_named all n ss in
        let h : or_else (slice_get all n) 0 ≡ suc (largest (map (λ g. height w.before g.sort) (fields_of e))) = ap (λ o. or_else o 0) w.at in
        omega (arith, a, b, c, d, h)

earlier_of : (sig : Signature) (n arity : ℕ) (fs : List FieldEntry) → list_all (λ (f : FieldEntry). is_field_sort sig n arity f.sort) fs ≡ true → list_all (λ (f : FieldEntry). names_below n f.sort) fs ≡ true
earlier_of sig n arity [] h = refl
earlier_of sig n arity (f ∷ fs) h =
    let p = and_parts (is_field_sort sig n arity f.sort) (list_all (λ (f : FieldEntry). is_field_sort sig n arity f.sort) fs) h in
    let q = (and_parts (is_sort_over sig arity f.sort) (names_below n f.sort) p.0).1 in
    λ i. q i && earlier_of sig n arity fs p.1 i

earlier_by : (sig : Signature) (n : ℕ) (e : TypeEntry) (k : Kind) → e.kind ≡ k → IsLawfulType sig n e → list_all (λ (f : FieldEntry). names_below n f.sort) (fields_of e) ≡ true
earlier_by sig n e Abstract p h = cc p
earlier_by sig n e (Choices cs) p h = cc p
earlier_by sig n e (Fields fs) p h =
    let h' : (fs ≢ []) × (list_all (λ (f : FieldEntry). is_field_sort sig n e.arity f.sort) fs ≡ true) = rw p at h in
    ap (list_all (λ (f : FieldEntry). names_below n f.sort)) (ap (λ k. elim k [ Fields fs ↦ fs | Abstract ↦ [] | Choices cs ↦ [] ]) p) ∙ earlier_of sig n e.arity fs h'.1

pub lawful_falls : (sig : Signature) → IsLawful sig → FieldsFall sig
lawful_falls sig law = fields_fall sig (record { fields = λ n e p. earlier_by sig n e e.kind refl (law.types n e p) })

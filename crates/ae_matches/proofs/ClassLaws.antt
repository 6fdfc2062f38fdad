-- Matches are the same where the same stands for them.
use Rattle.std.specs.Prelude.{ℕ, zero, suc, ◌+◌, ◌≡◌, ◌<◌, ◌≤◌, ◌↔◌, Bool, true, false, cond, ◌||◌, List, [], ◌∷◌, ◌++◌, length, take, slice_get, slice_index_or, Option, Some, None}
use Rattle.std.specs.List.{list_any, Contains}
use Rattle.std.proofs.Common.{refl, sym, ap, ◌∙◌, subst, arith, inl, inr}
use Rattle.std.proofs.lemmas.Bool.{cases_Bool, and_parts, and_from}
use Rattle.std.proofs.lemmas.List.{take_more}
use Rattle.std.proofs.lemmas.List.Folds.{list_any-append}
use Rattle.std.proofs.lemmas.Option.{same_Some}
use Rattle.ae_base.proofs.Decided.{decided_of, decided_yes}
use Rattle.ae_core.specs.Decided.{Sorts_discrete}
use Rattle.ae_core.specs.Sorts.{same_sorts}
use Rattle.ae_store.specs.Keys.{is_same, Shape_discrete}
use Rattle.ae_store.specs.declared.nodes.Shape.{Shape}
use Rattle.ae_theory.specs.Names.{IsOrdered}
use Rattle.ae_matching.specs.Laws.{IsEquivalence}
use Rattle.ae_inst.specs.Matches.{are_same}
use Rattle.ae_trigger.specs.declared.patterns.Subst.{Subst}
use Rattle.ae_matches.specs.Answers.{is_same_match}
use Rattle.ae_matches.specs.Classes.{IsLeast, AreLeast, class, IsClass, IsIndexed}
use Rattle.ae_matches.proofs.Once.{sorts_yes, back}

module _ (alike : ℕ → ℕ → Bool) (count : ℕ) where
  -- ---- the first of the names that are the same
  first_of : (ns : List ℕ) (n : ℕ) → IsOrdered ns → Contains ns n → (r : ℕ) × (slice_get ns 0 ≡ Some r) × (r ≤ n) × Contains ns r
  first_of [] n o c = absurd (omega (arith, c.1))
  first_of (x ∷ ns) n o c = (x, refl, le c.0 c.1 c.2, (0, omega arith, refl))
    where
      le : (k : ℕ) → k < length (x ∷ ns) → slice_index_or (x ∷ ns) k n ≡ n → x ≤ n
      le zero l e = omega (arith, e)
      le (suc k) l e =
          let there : slice_index_or ns k 0 ≡ n = other ns k (omega (arith, l)) ∙ e in
          omega (arith, o 0 (suc k) (omega arith) l, there)
        where
          other : (xs : List ℕ) (j : ℕ) → j < length xs → slice_index_or xs j 0 ≡ slice_index_or xs j n
          other [] j l = absurd (omega (arith, l))
          other (y ∷ xs) zero l = refl
          other (y ∷ xs) (suc j) l = other xs j (omega (arith, l))

  module _ (q : IsEquivalence alike) (ns : List ℕ) (n : ℕ) (l : n < count) (all : (m : ℕ) → m < count → Contains ns m ↔ alike n m ≡ true) (o : IsOrdered ns) where
    own : Contains ns n
    own = (all n l).1 (q.reflexive n)

    pub first_least : (r : ℕ) → slice_get ns 0 ≡ Some r → IsLeast alike count n r
    first_least r e =
        let f = first_of ns n o own in
        let is : f.0 ≡ r = same_Some f.0 r (sym f.1 ∙ e) in
        subst (IsLeast alike count n) is (record {
          within = omega (arith, f.2, l);
          same = (all f.0 (omega (arith, f.2, l))).0 f.3;
          least = λ m lm am. let g = first_of ns m o ((all m lm).1 am) in omega (arith, g.2, same_Some g.0 f.0 (sym g.1 ∙ f.1));
        })

    pub never_none : {P : Type 0} → slice_get ns 0 ≡ None → P
    never_none e = let f = first_of ns n o own in let z : ◌≡◌ {A = Option ℕ} None (Some f.0) = sym e ∙ f.1 in cc z

  -- ---- one name more
  pub least_more : (ns rs : List ℕ) (n r : ℕ) → AreLeast alike count ns rs → IsLeast alike count n r → AreLeast alike count (ns ++ n ∷ []) (rs ++ r ∷ [])
  least_more [] [] n r a i = (i, tt)
  least_more [] (s ∷ rs) n r a i = elim a [ ]
  least_more (m ∷ ns) [] n r a i = elim a [ ]
  least_more (m ∷ ns) (s ∷ rs) n r a i = (a.0, least_more ns rs n r a.1 i)

  pub least_next : (ns rs : List ℕ) (i r : ℕ) → i < length ns → AreLeast alike count (take i ns) rs → IsLeast alike count (slice_index_or ns i 0) r → AreLeast alike count (take (i + 1) ns) (rs ++ r ∷ [])
  least_next ns rs i r l a is =
      subst (λ l. AreLeast alike count l (rs ++ r ∷ [])) (sym (take_more ns i 0 l)) (least_more (take i ns) rs (slice_index_or ns i 0) r a is)

  -- ---- the same stands for matches that are the same, and for no others
  module _ (q : IsEquivalence alike) where
    names_same : (ns ms rs : List ℕ) → AreLeast alike count ns rs → AreLeast alike count ms rs → are_same alike ns ms ≡ true
    names_same [] [] rs a b = refl
    names_same [] (m ∷ ms) [] a b = elim b [ ]
    names_same [] (m ∷ ms) (r ∷ rs) a b = elim a [ ]
    names_same (n ∷ ns) [] [] a b = elim a [ ]
    names_same (n ∷ ns) [] (r ∷ rs) a b = elim b [ ]
    names_same (n ∷ ns) (m ∷ ms) [] a b = elim a [ ]
    names_same (n ∷ ns) (m ∷ ms) (r ∷ rs) a b = and_from _ _ (q.transitive n r m a.0.same (q.symmetric m r b.0.same)) (names_same ns ms rs a.1 b.1)

    one_least : (n m r s : ℕ) → alike n m ≡ true → IsLeast alike count n r → IsLeast alike count m s → r ≡ s
    one_least n m r s e a b =
        let x : r ≤ s = a.least s b.within (q.transitive n m s e b.same) in
        let y : s ≤ r = b.least r a.within (q.transitive m n r (q.symmetric n m e) a.same) in
        omega (arith, x, y)

    same_least : (ns ms rs ss : List ℕ) → are_same alike ns ms ≡ true → AreLeast alike count ns rs → AreLeast alike count ms ss → rs ≡ ss
    same_least [] [] [] [] e a b = refl
    same_least [] [] [] (s ∷ ss) e a b = elim b [ ]
    same_least [] [] (r ∷ rs) ss e a b = elim a [ ]
    same_least [] (m ∷ ms) rs ss e a b = cc e
    same_least (n ∷ ns) [] rs ss e a b = cc e
    same_least (n ∷ ns) (m ∷ ms) [] ss e a b = elim a [ ]
    same_least (n ∷ ns) (m ∷ ms) (r ∷ rs) [] e a b = elim b [ ]
    same_least (n ∷ ns) (m ∷ ms) (r ∷ rs) (s ∷ ss) e a b =
        let p = and_parts (alike n m) (are_same alike ns ms) e in
        let first = one_least n m r s p.0 a.0 b.0 in
        let rest = same_least ns ms rs ss p.1 a.1 b.1 in
        λ i. first i ∷ rest i

    pub same_class : (m k : Subst) (x y : Shape) → IsClass alike count m x → IsClass alike count k y → is_same x y ≡ is_same_match alike m k
    same_class m k x y a b =
        elim (cases_Bool (is_same_match alike m k)) as (λ _. is_same x y ≡ is_same_match alike m k) [
          | inl e ↦
              let p = and_parts (same_sorts m.sorts k.sorts) (are_same alike m.terms k.terms) e in
              let ss : m.sorts ≡ k.sorts = decided_yes (Sorts_discrete m.sorts k.sorts) p.0 in
              let rs : a.0 ≡ b.0 = same_least m.terms k.terms a.0 b.0 p.1 a.1 b.1 in
              decided_of (Shape_discrete x y) (a.2 ∙ (λ i. class alike count (ss i) (rs i)) ∙ sym b.2) ∙ sym e
          | inr e ↦ elim (cases_Bool (is_same x y)) as (λ _. is_same x y ≡ is_same_match alike m k) [
            | inl f ↦
                let z : class alike count m.sorts a.0 ≡ class alike count k.sorts b.0 = sym a.2 ∙ decided_yes (Shape_discrete x y) f ∙ b.2 in
                let rs : b.0 ≡ a.0 = sym (ap (λ (s : Shape). s.args) z) in
                let t : is_same_match alike m k ≡ true =
                and_from _ _ (sorts_yes m.sorts k.sorts (ap (λ (s : Shape). s.sorts) z)) (names_same m.terms k.terms a.0 a.1 (subst (AreLeast alike count k.terms) rs b.1)) in
                f ∙ sym t
            | inr f ↦ f ∙ sym e
          ]
        ]

    -- ---- what is kept, by what stands for it
    pub indexed_more : (has new : Shape → Bool) (found : List Subst) (k : Subst) (y : Shape) → IsClass alike count k y → ((x : Shape) → new x ≡ cond (is_same y x) true (has x)) → IsIndexed alike count has found
        → IsIndexed alike count new (found ++ k ∷ [])
    indexed_more has new found k y c e i m x d =
        let there : is_same y x ≡ is_same_match alike m k = same_class k m y x c d ∙ either_way m k in
        e x ∙ (λ j. cond (there j) true (i m x d j)) ∙ by (is_same_match alike m k) (list_any (is_same_match alike m) found) ∙ sym (list_any-append (is_same_match alike m) found (k ∷ []))
      where
        by : (b p : Bool) → cond b true p ≡ (p || (b || false))
        by true true = refl
        by true false = refl
        by false true = refl
        by false false = refl

        either_way : (m k : Subst) → is_same_match alike k m ≡ is_same_match alike m k
        either_way m k = elim (cases_Bool (is_same_match alike k m)) as (λ _. is_same_match alike k m ≡ is_same_match alike m k) [
          | inl y ↦ y ∙ sym (back alike q k m y)
          | inr n ↦ elim (cases_Bool (is_same_match alike m k)) as (λ _. is_same_match alike k m ≡ is_same_match alike m k) [
            | inl y ↦ let z : ◌≡◌ {A = Bool} true false = sym (back alike q m k y) ∙ n in cc z
            | inr f ↦ n ∙ sym f
          ]
        ]

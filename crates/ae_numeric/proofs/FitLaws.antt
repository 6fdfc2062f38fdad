-- Which lines a sum may name, and what it states and means where they fit.
use Rattle.std.specs.Prelude.{ℤ, Bool, true, false, ◌&&◌, ◌||◌, ◌≡◌, ◌↔◌, List, [], ◌∷◌, map, slice_get, Option, Some, None, Ok}
use Rattle.std.specs.List.{list_all, AllByRecursion}
use Rattle.std.proofs.Common.{refl, sym, ap, ◌∙◌, subst, true≢false, inl, inr}
use Rattle.std.proofs.lemmas.Bool.{and_parts, and_from, or_right}
use Rattle.std.proofs.lemmas.Option.{same_Some, none-some}
use Rattle.ae_math.specs.Fractions.{ℚ, one_ℚ, neg_ℚ, ◌+ℚ◌, ◌*ℚ◌, whole}
use Rattle.ae_math.specs.Forms.{plus, minus, scale}
use Rattle.ae_math.proofs.FractionLaws.{field, mul_comm_q, mul_zero_q}
use Rattle.ae_math.proofs.FormLaws.{factor_in-append, factor_in-scale, plus-same, scale-same, scale_plus, scale_scale, scale_one, same_sym, same_trans}
use Rattle.ae_base.specs.Decided.{decided}
use Rattle.ae_core.specs.Decided.{Sort_discrete, Term_discrete}
use Rattle.ae_rules.specs.Linear.{Linear, IsSame, form, factor_of}
use Rattle.ae_core.specs.Sorts.{sort_of, same_numeric, is_numeric}
use Rattle.ae_base.specs.Options.{known, ◌>>=◌, when}
use Rattle.ae_base.proofs.Decided.{decided_yes, decided_of}
use Rattle.ae_base.proofs.ListFacts.{list_all_weaker, list_all_both}
use Rattle.ae_base.proofs.AllOf.{all_of_test}
use Rattle.ae_rules.specs.Lines.{Fact, states, gap, total, Combined, IsNumeric, HaveSort}
use Rattle.ae_core.specs.declared.terms.Sort.{Sort, Int, Real}
use Rattle.ae_core.specs.declared.terms.Term.{Term}
use Rattle.ae_core.specs.declared.problems.Signature.{Signature}
use Rattle.ae_core.specs.declared.proofs.EqLine.{EqLine}
use Rattle.ae_core.specs.declared.proofs.Scaled.{Scaled}
use Rattle.ae_core.specs.declared.proofs.Relation.{Relation}
use Rattle.ae_core.specs.declared.proofs.Relation.TheVariants.{Equal, AtMost, Below}
use Rattle.std.specs.declared.result.Result.{Result}
use Rattle.ae_num.specs.Forms.{Step}
use Rattle.ae_num.specs.declared.numbers.NumFail.{NumFail}
use Rattle.ae_num.proofs.Checks.{StepChecks, states_no, states_like}
use Rattle.ae_numeric.specs.Stated.{facts_at, of_one_sort, steps_of, sum_steps, sum_line_steps}
use Rattle.ae_numeric.specs.Computing.{IsSorted}
use Rattle.ae_numeric.specs.Inner.Sums.{may_join, summed, meant, meant_sum, facts_of, part_fits, sum_fits, IsSummand, IsSum}

-- ---- numeric sorts
numeric_is : (s : Sort) → is_numeric s ≡ true → IsNumeric s
numeric_is s e = by_test (Sort_discrete s Int) e
  where
    by_test : (d : Dec (s ≡ Int)) → decided d || decided (Sort_discrete s Real) ≡ true → IsNumeric s
    by_test (yes p) e = inl p
    by_test (no n) e = inr (decided_yes (Sort_discrete s Real) e)

is_numeric_of : (s : Sort) → IsNumeric s → is_numeric s ≡ true
is_numeric_of s (inl p) = ap (λ b. b || decided (Sort_discrete s Real)) (decided_of (Sort_discrete s Int) p)
is_numeric_of s (inr p) = or_right (decided (Sort_discrete s Int)) (decided (Sort_discrete s Real)) (decided_of (Sort_discrete s Real) p)

-- the one numeric sort of two terms
pub one_sort : (a b : Option Sort) → same_numeric a b ≡ true → (s : Sort) × IsNumeric s × (a ≡ Some s) × (b ≡ Some s)
one_sort (Some s) (Some t) e =
    let p = and_parts (decided (Sort_discrete s t)) (is_numeric s) e in
    (s, numeric_is s p.1, refl, ap Some (sym (decided_yes (Sort_discrete s t) p.0)))
one_sort (Some s) None e = absurd (true≢false (sym e))
one_sort None b e = absurd (true≢false (sym e))

pub of_sort : (a b : Option Sort) (s : Sort) → IsNumeric s → a ≡ Some s → b ≡ Some s → same_numeric a b ≡ true
of_sort a b s n p q =
    (λ i. same_numeric (p i) (q i)) ∙ ap (λ b. b && is_numeric s) (decided_of (Sort_discrete s s) refl) ∙ is_numeric_of s n

pub sorted_of : (sig : Signature) (t : Term) (s : Sort) → sort_of sig t ≡ Some s → IsSorted t
sorted_of sig t s e = (sig, ap known e)

-- ---- lists of tests
all_of_each : {X : Type 0} (p : X → Bool) (P Q : X → Type 0) (xs : List X) → ((x : X) → P x → Q x → p x ≡ true) → AllByRecursion P xs → AllByRecursion Q xs → list_all p xs ≡ true
all_of_each p P Q [] f a b = refl
all_of_each p P Q (x ∷ xs) f a b = and_from _ _ (f x a.0 b.0) (all_of_each p P Q xs f a.1 b.1)

-- ---- what a part names
pub stated_line : (o : Option EqLine) (f : Fact) → (o >>= λ l. Some (states l)) ≡ Some f → (l : EqLine) × (o ≡ Some l) × (states l ≡ f)
stated_line (Some l) f e = (l, refl, same_Some (states l) f e)
stated_line None f e = absurd (none-some f e)

facts_cons : (earlier : List EqLine) (p : Scaled) (ps : List Scaled) (l : EqLine) → slice_get earlier p.line ≡ Some l → facts_of earlier (p ∷ ps) ≡ (p.factor, states l) ∷ facts_of earlier ps
facts_cons earlier p ps l e = ap (λ o. elim o [ Some l ↦ (p.factor, states l) ∷ facts_of earlier ps | None ↦ facts_of earlier ps ]) e

at_cons : (earlier : List EqLine) (p : Scaled) (ps : List Scaled) (l : EqLine) (fs : List (ℤ × Fact)) → slice_get earlier p.line ≡ Some l → facts_at earlier ps ≡ Some fs
    → facts_at earlier (p ∷ ps) ≡ Some ((p.factor, states l) ∷ fs)
at_cons earlier p ps l fs e h = λ i. (e i >>= λ l. Some (p.factor, states l)) >>= λ x. h i >>= λ xs. Some (x ∷ xs)

no_more : (f : ℤ × Fact) (fs : List (ℤ × Fact)) → ◌≡◌ {A = Option (List (ℤ × Fact))} (Some []) (Some (f ∷ fs)) → ⊥
no_more f fs e = cc

at_combined : (earlier : List EqLine) (ps : List Scaled) (fs : List (ℤ × Fact)) → facts_at earlier ps ≡ Some fs → Combined earlier ps fs
at_combined earlier [] [] e = tt
at_combined earlier [] (f ∷ fs) e = absurd (no_more f fs e)
at_combined earlier (p ∷ ps) fs e = by_parts (slice_get earlier p.line) (facts_at earlier ps) refl refl (λ gs. at_combined earlier ps gs) e
  where
    by_parts : (o : Option EqLine) (os : Option (List (ℤ × Fact))) → slice_get earlier p.line ≡ o → facts_at earlier ps ≡ os → ((gs : List (ℤ × Fact)) → facts_at earlier ps ≡ Some gs → Combined earlier ps gs)
        → ((o >>= λ l. Some (p.factor, states l)) >>= λ x. os >>= λ xs. Some (x ∷ xs)) ≡ Some fs → Combined earlier (p ∷ ps) fs
    by_parts (Some l) (Some gs) a b ih e =
        subst (Combined earlier (p ∷ ps)) (same_Some ((p.factor, states l) ∷ gs) fs e) (refl, ap (λ o. o >>= λ l. Some (states l)) a, ih gs b)
    by_parts (Some l) None a b ih e = absurd (none-some fs e)
    by_parts None os a b ih e = absurd (none-some fs e)

pub combined_unique : (earlier : List EqLine) (ps : List Scaled) (fs : List (ℤ × Fact)) → Combined earlier ps fs → facts_of earlier ps ≡ fs
combined_unique earlier [] [] c = refl
combined_unique earlier [] (f ∷ fs) c = absurd c
combined_unique earlier (p ∷ ps) [] c = absurd c
combined_unique earlier (p ∷ ps) (f ∷ fs) c =
    let s = stated_line (slice_get earlier p.line) f.1 c.1 in
    facts_cons earlier p ps s.0 s.1 ∙ (λ i. (c.0 i, s.2 i) ∷ combined_unique earlier ps fs c.2 i)

-- ---- left minus right is right minus left, times -1
abbrev pub Minus : ℚ
Minus = neg_ℚ one_ℚ

turn : (a b : ℚ) → a +ℚ Minus *ℚ b ≡ Minus *ℚ (b +ℚ Minus *ℚ a)
turn a b = simp field

minus_factor : (s t : Linear) (u : Term) → factor_of (minus s t) u ≡ factor_of s u +ℚ Minus *ℚ factor_of t u
minus_factor s t u =
    factor_in-append Term_discrete s.parts (map (λ (p : Term × ℚ). (p.0, Minus *ℚ p.1)) t.parts) u ∙ ap (λ x. factor_of s u +ℚ x) (factor_in-scale Term_discrete Minus t.parts u)

pub minus_turned : (s t : Linear) → IsSame (minus s t) (scale Minus (minus t s))
minus_turned s t = record {
  factors = λ u.
      minus_factor s t u ∙ turn (factor_of s u) (factor_of t u) ∙ ap (λ x. Minus *ℚ x) (sym (minus_factor t s u)) ∙ sym (factor_in-scale Term_discrete Minus (minus t s).parts u);
  constants = turn s.constant t.constant;
}

turned_sum : (a b c d : Linear) → IsSame a (scale Minus c) → IsSame b (scale Minus d) → IsSame (plus a b) (scale Minus (plus c d))
turned_sum a b c d p q =
    same_trans Term_discrete (plus a b) (plus (scale Minus c) (scale Minus d)) (scale Minus (plus c d)) (plus-same Term_discrete a (scale Minus c) b (scale Minus d) p q)
    (same_sym Term_discrete (scale Minus (plus c d)) (plus (scale Minus c) (scale Minus d)) (scale_plus Term_discrete Minus c d))

turned_multiple : (x : ℚ) (a c : Linear) → IsSame a (scale Minus c) → IsSame (scale x a) (scale Minus (scale x c))
turned_multiple x a c p =
    same_trans Term_discrete (scale x a) (scale x (scale Minus c)) (scale Minus (scale x c)) (scale-same Term_discrete x a (scale Minus c) p)
    (same_trans Term_discrete (scale x (scale Minus c)) (scale (x *ℚ Minus) c) (scale Minus (scale x c)) (scale_scale Term_discrete x Minus c)
    (subst (λ y. IsSame (scale y c) (scale Minus (scale x c))) (mul_comm_q Minus x) (same_sym Term_discrete (scale Minus (scale x c)) (scale (Minus *ℚ x) c) (scale_scale Term_discrete Minus x c))))

twice : Minus *ℚ Minus ≡ one_ℚ
twice = simp field

turned_back : (a : Linear) → IsSame (scale Minus (scale Minus a)) a
turned_back a =
    same_trans Term_discrete (scale Minus (scale Minus a)) (scale (Minus *ℚ Minus) a) a (scale_scale Term_discrete Minus Minus a)
    (subst (λ y. IsSame (scale y a) a) (sym twice) (scale_one Term_discrete a))

turned_same : (a b : Linear) → IsSame (scale Minus a) (scale Minus b) → IsSame a b
turned_same a b s =
    same_trans Term_discrete a (scale Minus (scale Minus a)) b (same_sym Term_discrete (scale Minus (scale Minus a)) a (turned_back a))
    (same_trans Term_discrete (scale Minus (scale Minus a)) (scale Minus (scale Minus b)) b (scale-same Term_discrete Minus (scale Minus a) (scale Minus b) s) (turned_back b))

-- ---- what a sum means, and the sum of the gaps
total_at_most : (fs : List (ℤ × Fact)) → meant_sum AtMost fs ≡ total fs
total_at_most [] = refl
total_at_most (f ∷ fs) = ap (plus (scale (whole f.0) (gap f.1))) (total_at_most fs)

total_below : (fs : List (ℤ × Fact)) → meant_sum Below fs ≡ total fs
total_below [] = refl
total_below (f ∷ fs) = ap (plus (scale (whole f.0) (gap f.1))) (total_below fs)

total_turned : (fs : List (ℤ × Fact)) → IsSame (meant_sum Equal fs) (scale Minus (total fs))
total_turned [] = record { factors = λ u. refl; constants = sym (mul_zero_q Minus) }
total_turned (f ∷ fs) =
    let m : Linear = minus (form (f.1).left) (form (f.1).right) in
    turned_sum (scale (whole f.0) m) (meant_sum Equal fs) (scale (whole f.0) (gap f.1)) (total fs)
    (turned_multiple (whole f.0) m (gap f.1) (minus_turned (form (f.1).left) (form (f.1).right))) (total_turned fs)

pub same_sums : (r : Relation) (d : ℤ) (s t : Term) (fs : List (ℤ × Fact)) → IsSame (scale (whole d) (meant r s t)) (meant_sum r fs) ↔ IsSame (scale (whole d) (minus (form t) (form s))) (total fs)
same_sums AtMost d s t fs =
    let a : Linear = scale (whole d) (minus (form t) (form s)) in
    (subst (IsSame a) (total_at_most fs), subst (IsSame a) (sym (total_at_most fs)))
same_sums Below d s t fs =
    let a : Linear = scale (whole d) (minus (form t) (form s)) in
    (subst (IsSame a) (total_below fs), subst (IsSame a) (sym (total_below fs)))
same_sums Equal d s t fs =
    let a : Linear = scale (whole d) (minus (form s) (form t)) in
    let b : Linear = scale (whole d) (minus (form t) (form s)) in
    let ab : IsSame a (scale Minus b) = turned_multiple (whole d) (minus (form s) (form t)) (minus (form t) (form s)) (minus_turned (form s) (form t)) in
    let mt : IsSame (meant_sum Equal fs) (scale Minus (total fs)) = total_turned fs in (
      λ h. turned_same b (total fs) (same_trans Term_discrete (scale Minus b) a (scale Minus (total fs)) (same_sym Term_discrete a (scale Minus b) ab) (same_trans Term_discrete a (meant_sum Equal fs) (scale Minus (total fs)) h mt)),
      λ h. same_trans Term_discrete a (scale Minus b) (meant_sum Equal fs) ab
          (same_trans Term_discrete (scale Minus b) (scale Minus (total fs)) (meant_sum Equal fs) (scale-same Term_discrete Minus b (total fs) h) (same_sym Term_discrete (meant_sum Equal fs) (scale Minus (total fs)) mt)),
    )

-- ---- where all of a sum fits
module _ (sig : Signature) (fact : Fact) (earlier : List EqLine) where
  abbrev Own : Option Sort
  Own = sort_of sig fact.left

  abbrev LineFits : Fact → Bool
  LineFits f = may_join fact.relation f && same_numeric Own (sort_of sig f.left) && same_numeric Own (sort_of sig f.right)

  abbrev PartFits : Scaled → Bool
  PartFits = part_fits sig Own fact.relation earlier

  abbrev Test : List (ℤ × Fact) → Bool
  Test fs = list_all (λ f. may_join fact.relation f.1) fs && of_one_sort sig fact fact && list_all (λ f. of_one_sort sig fact f.1) fs

  part_line : (p : Scaled) → PartFits p ≡ true → (l : EqLine) × (slice_get earlier p.line ≡ Some l) × (LineFits (states l) ≡ true)
  part_line p e = by_line (slice_get earlier p.line) e
    where
      by_line : (o : Option EqLine) → elim o [ Some l ↦ LineFits (states l) | None ↦ false ] ≡ true → (l : EqLine) × (o ≡ Some l) × (LineFits (states l) ≡ true)
      by_line (Some l) e = (l, refl, e)
      by_line None e = absurd (true≢false (sym e))

  line_parts : (f : Fact) → LineFits f ≡ true → (may_join fact.relation f ≡ true) × (same_numeric Own (sort_of sig f.left) ≡ true) × (same_numeric Own (sort_of sig f.right) ≡ true)
  line_parts f e =
      let h = and_parts (may_join fact.relation f && same_numeric Own (sort_of sig f.left)) (same_numeric Own (sort_of sig f.right)) e in
      let k = and_parts (may_join fact.relation f) (same_numeric Own (sort_of sig f.left)) h.0 in
      (k.0, k.1, h.1)

  parts_known : (ps : List Scaled) → list_all PartFits ps ≡ true → facts_at earlier ps ≡ Some (facts_of earlier ps)
  parts_known [] e = refl
  parts_known (p ∷ ps) e =
      let h = and_parts (PartFits p) (list_all PartFits ps) e in
      let l = part_line p h.0 in
      at_cons earlier p ps l.0 (facts_of earlier ps) l.1 (parts_known ps h.1) ∙ ap Some (sym (facts_cons earlier p ps l.0 l.1))

  parts_lines : (ps : List Scaled) → list_all PartFits ps ≡ true → list_all (λ (f : ℤ × Fact). LineFits f.1) (facts_of earlier ps) ≡ true
  parts_lines [] e = refl
  parts_lines (p ∷ ps) e =
      let h = and_parts (PartFits p) (list_all PartFits ps) e in
      let l = part_line p h.0 in
      subst (λ (fs : List (ℤ × Fact)). list_all (λ (f : ℤ × Fact). LineFits f.1) fs ≡ true) (sym (facts_cons earlier p ps l.0 l.1)) (and_from _ _ l.2 (parts_lines ps h.1))

  parts_combined : (ps : List Scaled) → list_all PartFits ps ≡ true → Combined earlier ps (facts_of earlier ps)
  parts_combined ps e = at_combined earlier ps (facts_of earlier ps) (parts_known ps e)

  summand_of : (p : Scaled) → PartFits p ≡ true → IsSummand earlier p
  summand_of p e =
      let l = part_line p e in
      let t = line_parts (states l.0) l.2 in
      let a = one_sort Own (sort_of sig (states l.0).left) t.1 in
      let b = one_sort Own (sort_of sig (states l.0).right) t.2 in
      (l.0, l.1, sorted_of sig (states l.0).left a.0 a.3, sorted_of sig (states l.0).right b.0 b.3)

  combined_fits : (ps : List Scaled) (fs : List (ℤ × Fact)) → Combined earlier ps fs → list_all (λ (f : ℤ × Fact). LineFits f.1) fs ≡ true → list_all PartFits ps ≡ true
  combined_fits [] [] c e = refl
  combined_fits [] (f ∷ fs) c e = absurd c
  combined_fits (p ∷ ps) [] c e = absurd c
  combined_fits (p ∷ ps) (f ∷ fs) c e =
      let h = and_parts (LineFits f.1) (list_all (λ (f : ℤ × Fact). LineFits f.1) fs) e in
      let s = stated_line (slice_get earlier p.line) f.1 c.1 in
      and_from _ _ (ap (λ o. elim o [ Some l ↦ LineFits (states l) | None ↦ false ]) s.1 ∙ ap LineFits s.2 ∙ h.0) (combined_fits ps fs c.2 h.1)

  -- the test that the stated steps make
  test_of : (fs : List (ℤ × Fact)) → same_numeric Own (sort_of sig fact.right) ≡ true → list_all (λ (f : ℤ × Fact). LineFits f.1) fs ≡ true → Test fs ≡ true
  test_of fs same e =
      let o = one_sort Own (sort_of sig fact.right) same in
      let itself : same_numeric Own Own ≡ true = of_sort Own Own o.0 o.1 o.2 o.2 in
      and_from _ _
      (and_from _ _ (list_all_weaker (λ (f : ℤ × Fact). LineFits f.1) (λ (f : ℤ × Fact). may_join fact.relation f.1) (λ f h. (line_parts f.1 h).0) fs e) (and_from _ _ (and_from _ _ same itself) same))
      (list_all_weaker (λ (f : ℤ × Fact). LineFits f.1) (λ (f : ℤ × Fact). of_one_sort sig fact f.1) (λ f h. and_from _ _ (and_from _ _ same (line_parts f.1 h).1) (line_parts f.1 h).2) fs e)

  test_parts : (fs : List (ℤ × Fact)) → Test fs ≡ true → (same_numeric Own (sort_of sig fact.right) ≡ true) × (list_all (λ (f : ℤ × Fact). LineFits f.1) fs ≡ true)
  test_parts fs e =
      let joins = λ (f : ℤ × Fact). may_join fact.relation f.1 in
      let sorts = λ (f : ℤ × Fact). of_one_sort sig fact f.1 in
      let h = and_parts (list_all joins fs && of_one_sort sig fact fact) (list_all sorts fs) e in
      let k = and_parts (list_all joins fs) (of_one_sort sig fact fact) h.0 in
      let same = (and_parts (same_numeric Own (sort_of sig fact.right) && same_numeric Own Own) (same_numeric Own (sort_of sig fact.right)) k.1).1 in
      (same, list_all_both joins sorts (λ (f : ℤ × Fact). LineFits f.1) (λ f a b. line_of f.1 a b) fs k.0 h.1)
    where
      line_of : (f : Fact) → may_join fact.relation f ≡ true → of_one_sort sig fact f ≡ true → LineFits f ≡ true
      line_of f a b =
          let h = and_parts (same_numeric Own (sort_of sig fact.right) && same_numeric Own (sort_of sig f.left)) (same_numeric Own (sort_of sig f.right)) b in
          and_from _ _ (and_from _ _ a (and_parts (same_numeric Own (sort_of sig fact.right)) (same_numeric Own (sort_of sig f.left)) h.0).1) h.1

  module _ (ps : List Scaled) where
    fit_parts : sum_fits sig earlier fact ps ≡ true → (same_numeric Own (sort_of sig fact.right) ≡ true) × (list_all PartFits ps ≡ true)
    fit_parts e = and_parts (same_numeric Own (sort_of sig fact.right)) (list_all PartFits ps) e

    -- what the comparison of the sums asks for
    pub fit_sorted : sum_fits sig earlier fact ps ≡ true → record { left : IsSorted fact.left; right : IsSorted fact.right; parts : AllByRecursion (IsSummand earlier) ps }
    fit_sorted e =
        let o = one_sort Own (sort_of sig fact.right) (fit_parts e).0 in
        record { left = sorted_of sig fact.left o.0 o.2; right = sorted_of sig fact.right o.0 o.3; parts = all_of_test PartFits (IsSummand earlier) summand_of ps (fit_parts e).1 }

    module _ (d : ℤ) where
      -- what is stated
      abbrev Steps : List (ℤ × Fact) → List Step
      Steps = sum_steps (summed fact.relation) d fact

      fit_steps : sum_fits sig earlier fact ps ≡ true → sum_line_steps sig earlier (may_join fact.relation) (summed fact.relation) d fact ps ≡ Steps (facts_of earlier ps)
      fit_steps e =
          ap (λ o. steps_of (o >>= λ fs. when (Test fs) fs) Steps) (parts_known ps (fit_parts e).1)
          ∙ ap (λ b. steps_of (when b (facts_of earlier ps)) Steps) (test_of (facts_of earlier ps) (fit_parts e).0 (parts_lines ps (fit_parts e).1))

      unfit_steps : sum_fits sig earlier fact ps ≡ false → sum_line_steps sig earlier (may_join fact.relation) (summed fact.relation) d fact ps ≡ []
      unfit_steps n = by_known (facts_at earlier ps) refl
        where
          by_test : (fs : List (ℤ × Fact)) → facts_at earlier ps ≡ Some fs → (b : Bool) → Test fs ≡ b → steps_of (when b fs) Steps ≡ []
          by_test fs k true t =
              let h = test_parts fs t in
              absurd (true≢false (sym (and_from _ _ h.0 (combined_fits ps fs (at_combined earlier ps fs k) h.1)) ∙ n))
          by_test fs k false t = refl

          by_known : (o : Option (List (ℤ × Fact))) → facts_at earlier ps ≡ o → steps_of (o >>= λ fs. when (Test fs) fs) Steps ≡ []
          by_known (Some fs) k = by_test fs k (Test fs) refl
          by_known None k = refl

      -- what it means
      sum_fit : IsSum sig earlier fact d ps → sum_fits sig earlier fact ps ≡ true
      sum_fit (fs, combined, joins, sums) =
          let own : Own ≡ Some sums.sort = sums.sorted.0 in
          and_from _ _ (of_sort Own (sort_of sig fact.right) sums.sort sums.numeric own sums.sorted.1)
          (combined_fits ps fs combined
          (all_of_each (λ (f : ℤ × Fact). LineFits f.1) (λ (f : ℤ × Fact). may_join fact.relation f.1 ≡ true) (λ (f : ℤ × Fact). HaveSort sig sums.sort f.1) fs
          (λ f j h. and_from _ _ (and_from _ _ j (of_sort Own (sort_of sig (f.1).left) sums.sort sums.numeric own h.0)) (of_sort Own (sort_of sig (f.1).right) sums.sort sums.numeric own h.1)) joins sums.all_sorted))

      fit_sum : sum_fits sig earlier fact ps ≡ true → IsSum sig earlier fact d ps ↔ IsSame (scale (whole d) (meant fact.relation fact.left fact.right)) (meant_sum fact.relation (facts_of earlier ps))
      fit_sum e =
          let r = fact.relation in
          let o = one_sort Own (sort_of sig fact.right) (fit_parts e).0 in
          let lines = parts_lines ps (fit_parts e).1 in (
            λ s. (same_sums r d fact.left fact.right (facts_of earlier ps)).1 (subst (λ (fs : List (ℤ × Fact)). IsSame (scale (whole d) (gap fact)) (total fs)) (sym (combined_unique earlier ps s.0 s.1)) s.3.sums),
            λ same. (
              facts_of earlier ps,
              parts_combined ps (fit_parts e).1,
              all_of_test (λ (f : ℤ × Fact). LineFits f.1) (λ (f : ℤ × Fact). may_join r f.1 ≡ true) (λ f h. (line_parts f.1 h).0) (facts_of earlier ps) lines,
              record {
                sort = o.0;
                numeric = o.1;
                sorted = (o.2, o.3);
                all_sorted = all_of_test (λ (f : ℤ × Fact). LineFits f.1) (λ (f : ℤ × Fact). HaveSort sig o.0 f.1) (λ f h. sorts_of_line o.0 o.2 f.1 h) (facts_of earlier ps) lines;
                sums = (same_sums r d fact.left fact.right (facts_of earlier ps)).0 same;
              },
            ),
          )
        where
          same_sort_as : (s : Sort) → Own ≡ Some s → (b : Option Sort) → same_numeric Own b ≡ true → b ≡ Some s
          same_sort_as s own b e =
              let o = one_sort Own b e in
              o.3 ∙ ap Some (same_Some o.0 s (sym o.2 ∙ own))

          sorts_of_line : (s : Sort) → Own ≡ Some s → (f : Fact) → LineFits f ≡ true → HaveSort sig s f
          sorts_of_line s own f h =
              let t = line_parts f h in
              (same_sort_as s own (sort_of sig f.left) t.1, same_sort_as s own (sort_of sig f.right) t.2)

      -- the check of the sum
      abbrev SumChecks : Result Bool NumFail → Type 0
      SumChecks = StepChecks (IsSum sig earlier fact d ps) (sum_line_steps sig earlier (may_join fact.relation) (summed fact.relation) d fact ps)

      pub sum_not : sum_fits sig earlier fact ps ≡ false → SumChecks (Ok false)
      sum_not n =
          states_no (IsSum sig earlier fact d ps) (sum_line_steps sig earlier (may_join fact.relation) (summed fact.relation) d fact ps) (λ s. true≢false (sym (sum_fit s) ∙ n))
          (unfit_steps n)

      abbrev Balances : Type 0
      Balances = IsSame (scale (whole d) (meant fact.relation fact.left fact.right)) (meant_sum fact.relation (facts_of earlier ps))

      pub sum_is : (r : Result Bool NumFail) → sum_fits sig earlier fact ps ≡ true → StepChecks Balances (Steps (facts_of earlier ps)) r → SumChecks r
      sum_is r e =
          states_like Balances (Steps (facts_of earlier ps)) (IsSum sig earlier fact d ps) (sum_line_steps sig earlier (may_join fact.relation) (summed fact.relation) d fact ps) r
          (fit_sum e).1 (fit_sum e).0 (fit_steps e)

-- How many different formulas a list has: fewer than another where each of them is there, and one that is there is missing.
use Rattle.std.specs.Prelude.{◌<◌, ◌≡◌, ◌≢◌, Bool, true, false, cond, ◌||◌, List, [], ◌∷◌}
use Rattle.std.specs.Bool.{Decides}
use Rattle.std.specs.Cmp.{IsEquivalence, decided as equivalence}
use Rattle.std.specs.List.{AllByRecursion, Contains, IsDistinct}
use Rattle.std.specs.Set.{distinct_count, is_member, unique_keys}
use Rattle.std.proofs.Common.{refl, sym, ap, ◌∙◌, subst, arith}
use Rattle.std.proofs.lemmas.Map.Keys.{IsDistinct-cons}
use Rattle.std.proofs.lemmas.Map.Made.{is_member-Decides, length-le_from_is_member}
use Rattle.ae_base.proofs.Decided.{decided_of, decided_yes}
use Rattle.ae_base.proofs.Tests.{by_bool, by_either, true_false}
use Rattle.ae_core.specs.Decided.{Formula_discrete}
use Rattle.ae_core.specs.declared.formulas.Formula.{Formula}
use Rattle.ae_order_counts.specs.Counts.{same_formula}

pub decides : (f h : Formula) → Decides (same_formula f h) (f ≡ h)
decides f h = (decided_yes (Formula_discrete f h), decided_of (Formula_discrete f h))

pub laws : IsEquivalence same_formula
laws = equivalence same_formula decides

abbrev pub member : List Formula → Formula → Bool
member fs f = is_member same_formula fs f

abbrev unique : List Formula → List Formula
unique fs = unique_keys same_formula fs

pub present : (fs : List Formula) (f : Formula) → Contains fs f → member fs f ≡ true
present fs f = (is_member-Decides decides fs f).1

pub contained_in : (fs : List Formula) (f : Formula) → member fs f ≡ true → Contains fs f
contained_in fs f = (is_member-Decides decides fs f).0

member_unique : (q : Formula) (fs : List Formula) → member (unique fs) q ≡ member fs q
member_unique q [] = refl
member_unique q (f ∷ fs) =
    by_bool (member fs f)
    (λ m. ap (λ b. member (cond b (unique fs) (f ∷ unique fs)) q) m ∙ member_unique q fs ∙ sym (covered m))
    (λ m. ap (λ b. member (cond b (unique fs) (f ∷ unique fs)) q) m ∙ ap (λ b. same_formula q f || b) (member_unique q fs))
  where
    covered : member fs f ≡ true → (same_formula q f || member fs q) ≡ member fs q
    covered m =
        by_bool (same_formula q f)
        (λ e. ap (λ b. b || member fs q) e ∙ sym (subst (λ (z : Formula). member fs z ≡ true) (sym (decided_yes (Formula_discrete q f) e)) m))
        (λ e. ap (λ b. b || member fs q) e)

apart : (f : Formula) (fs : List Formula) → member fs f ≡ false → AllByRecursion (λ h. same_formula f h ≡ false) fs
apart f [] e = tt
apart f (h ∷ fs) e =
    by_bool (same_formula f h) (λ y. true_false (sym (ap (λ b. b || member fs f) y) ∙ e))
    (λ n. (n, apart f fs (sym (ap (λ b. b || member fs f) n) ∙ e)))

with_one : (f : Formula) (fs : List Formula) → member (unique fs) f ≡ false → IsDistinct same_formula (unique fs) → IsDistinct same_formula (f ∷ unique fs)
with_one f fs e d = IsDistinct-cons same_formula f (unique fs) (apart f (unique fs) e) d

distinct : (fs : List Formula) → IsDistinct same_formula (unique fs)
unfolding IsDistinct
distinct [] = tt
distinct (f ∷ fs) =
    by_bool (member fs f)
    (λ m. subst (λ b. IsDistinct same_formula (cond b (unique fs) (f ∷ unique fs))) (sym m) (distinct fs))
    (λ m. subst (λ b. IsDistinct same_formula (cond b (unique fs) (f ∷ unique fs))) (sym m) (with_one f fs (member_unique f fs ∙ m) (distinct fs)))

pub fewer : (fs hs : List Formula) (k : Formula) → Contains hs k → ((f : Formula) → Contains fs f → Contains hs f × (f ≢ k)) → distinct_count same_formula fs < distinct_count same_formula hs
fewer fs hs k here within =
    let absent : member fs k ≡ false = by_bool (member fs k) (λ y. absurd ((within k (contained_in fs k y)).1 refl)) (λ n. n) in
    let there : (q : Formula) → member (k ∷ unique fs) q ≡ true → member (unique hs) q ≡ true =
    λ q m. member_unique q hs ∙ present hs q (by_either (same_formula q k) (member (unique fs) q) m
    (λ e. subst (Contains hs) (sym (decided_yes (Formula_discrete q k) e)) here)
    (λ e. (within q (contained_in fs q (sym (member_unique q fs) ∙ e))).0)) in
    let more = length-le_from_is_member laws (k ∷ unique fs) (unique hs) (with_one k fs (member_unique k fs ∙ absent) (distinct fs)) there in
    omega (arith, more)

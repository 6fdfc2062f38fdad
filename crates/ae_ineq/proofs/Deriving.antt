-- Sums of inequalities: of one alone, of two sums, and what a combination of rows comes to.
use Rattle.std.specs.Prelude.{ℕ, ◌≡◌, Bool, true, false, ◌||◌, List, [], ◌∷◌, ◌++◌, map, Contains}
use Rattle.std.proofs.Common.{refl, sym, ap, ◌∙◌, subst, inl, inr}
use Rattle.std.specs.List.{AllByRecursion}
use Rattle.std.proofs.Math.Bool.{or-false, or_assoc}
use native.Mathlib.Decide.{ℕ_discrete}
use Rattle.ae_base.proofs.AllOf.{all_append, all_of_map, all_weaker}
use Rattle.ae_math.specs.Fractions.{ℚ, one_ℚ, zero_ℚ, neg_ℚ, ◌*ℚ◌, is_positive}
use Rattle.ae_math.specs.Forms.{Form, SameForm, number, plus, scale}
use Rattle.ae_math.proofs.FormLaws.{same_trans, plus-same, scale-same, scale_one, plus_comm, zero_plus}
use Rattle.ae_num.specs.Forms.{meaning}
use Rattle.ae_rows.specs.Rows.{mixture, combination, factor_at}
use Rattle.ae_rows.proofs.Choosing.{positive_one}
use Rattle.ae_rows.proofs.Elimination.{both_positive}
use Rattle.ae_rows.proofs.Mixtures.{multiplied, mixture-append, mixture-multiplied}
use Rattle.ae_ineq.specs.declared.solving.Inequality.{Inequality}
use Rattle.ae_ineq.specs.declared.rows.Row.{Row}
use Rattle.ae_ineq.specs.Sums.{Share, IsSum, IsZero, IsRefuted, SomeNonzero, HasTightSum, HasRefutedSum, forms_of, some_strict}
use Rattle.ae_ineq.specs.Inner.Sets.{IsLowerRow, IsUpperRow}
use Rattle.ae_ineq.specs.Inner.Derived.{IsNonzeroSum, IsDerived}
use Rattle.ae_ineq.proofs.LastLaws.{lower_means, upper_means}

abbrev times : ℚ → Share → Share
times a u = record { factor = a *ℚ u.factor; row = u.row }

-- ---- strictness
strict-append : (us vs : List Share) → some_strict (us ++ vs) ≡ some_strict us || some_strict vs
strict-append [] vs = refl
strict-append (u ∷ us) vs = ap (λ b. u.row.strict || b) (strict-append us vs) ∙ sym (or_assoc u.row.strict (some_strict us) (some_strict vs))

strict-times : (a : ℚ) (us : List Share) → some_strict (map (times a) us) ≡ some_strict us
strict-times a [] = refl
strict-times a (u ∷ us) = ap (λ b. u.row.strict || b) (strict-times a us)

-- ---- forms
forms-times : (a : ℚ) (us : List Share) → forms_of (map (times a) us) ≡ multiplied a (forms_of us)
forms-times a [] = refl
forms-times a (u ∷ us) = ap (λ ps. (a *ℚ u.factor, meaning u.row.lin) ∷ ps) (forms-times a us)

forms-append : (us vs : List Share) → forms_of (us ++ vs) ≡ forms_of us ++ forms_of vs
forms-append [] vs = refl
forms-append (u ∷ us) vs = ap (λ ps. (u.factor, meaning u.row.lin) ∷ ps) (forms-append us vs)

nonzero-front : (a : ℚ) (us vs : List Share) → SomeNonzero us → SomeNonzero (map (times a) us ++ vs)
nonzero-front a [] vs h = absurd h
nonzero-front a (u ∷ us) vs (inl h) = inl h
nonzero-front a (u ∷ us) vs (inr h) = inr (nonzero-front a us vs h)

-- ---- the sum of two sums
module _ (given : List Inequality) (a b : ℚ) (pa : is_positive a ≡ true) (pb : is_positive b ≡ true) (us vs : List Share) where
  both : List Share
  both = map (times a) us ++ map (times b) vs

  pub mixture_both : SameForm ℕ_discrete (mixture (forms_of (map (times a) us ++ map (times b) vs))) (plus (scale a (mixture (forms_of us))) (scale b (mixture (forms_of vs))))
  mixture_both =
      let e : forms_of (map (times a) us ++ map (times b) vs) ≡ multiplied a (forms_of us) ++ multiplied b (forms_of vs) = forms-append (map (times a) us) (map (times b) vs) ∙ (λ i. forms-times a us i ++ forms-times b vs i) in
      subst (λ ps. SameForm ℕ_discrete (mixture ps) (plus (scale a (mixture (forms_of us))) (scale b (mixture (forms_of vs))))) (sym e)
      (same_trans ℕ_discrete (mixture (multiplied a (forms_of us) ++ multiplied b (forms_of vs))) (plus (mixture (multiplied a (forms_of us))) (mixture (multiplied b (forms_of vs))))
      (plus (scale a (mixture (forms_of us))) (scale b (mixture (forms_of vs))))
      (mixture-append (multiplied a (forms_of us)) (multiplied b (forms_of vs)))
      (plus-same ℕ_discrete (mixture (multiplied a (forms_of us))) (scale a (mixture (forms_of us))) (mixture (multiplied b (forms_of vs))) (scale b (mixture (forms_of vs))) (mixture-multiplied a (forms_of us))
      (mixture-multiplied b (forms_of vs))))

  pub among_both : AllByRecursion (λ u. Contains given u.row) us → AllByRecursion (λ u. Contains given u.row) vs → AllByRecursion (λ u. Contains given u.row) (map (times a) us ++ map (times b) vs)
  among_both p q =
      all_append (λ (u : Share). Contains given u.row) (map (times a) us) (map (times b) vs)
      (all_of_map (λ (u : Share). Contains given u.row) (times a) us p) (all_of_map (λ (u : Share). Contains given u.row) (times b) vs q)

  pub positive_both : AllByRecursion (λ u. is_positive u.factor ≡ true) us → AllByRecursion (λ u. is_positive u.factor ≡ true) vs → AllByRecursion (λ u. is_positive u.factor ≡ true) (map (times a) us ++ map (times b) vs)
  positive_both p q =
      all_append (λ (u : Share). is_positive u.factor ≡ true) (map (times a) us) (map (times b) vs)
      (all_of_map (λ (u : Share). is_positive u.factor ≡ true) (times a) us (all_weaker (λ (u : Share). is_positive u.factor ≡ true) (λ (u : Share). is_positive (a *ℚ u.factor) ≡ true) (λ u h. both_positive a u.factor pa h) us p))
      (all_of_map (λ (u : Share). is_positive u.factor ≡ true) (times b) vs (all_weaker (λ (u : Share). is_positive u.factor ≡ true) (λ (u : Share). is_positive (b *ℚ u.factor) ≡ true) (λ u h. both_positive b u.factor pb h) vs q))

pub sum_both : (given : List Inequality) (f g : Form ℕ) (s t : Bool) (a b : ℚ) → is_positive a ≡ true → is_positive b ≡ true → IsNonzeroSum given f s → IsNonzeroSum given g t → IsNonzeroSum given (plus (scale a f) (scale b g)) (s || t)
sum_both given f g s t a b pa pb m n =
    let us = m.sum.shares in
    let vs = n.sum.shares in
    record {
      sum = record {
        shares = map (times a) us ++ map (times b) vs;
        among = among_both given a b pa pb us vs m.sum.among n.sum.among;
        positive = positive_both given a b pa pb us vs m.sum.positive n.sum.positive;
        same = same_trans ℕ_discrete (mixture (forms_of (map (times a) us ++ map (times b) vs))) (plus (scale a (mixture (forms_of us))) (scale b (mixture (forms_of vs)))) (plus (scale a f) (scale b g))
            (mixture_both given a b pa pb us vs)
            (plus-same ℕ_discrete (scale a (mixture (forms_of us))) (scale a f) (scale b (mixture (forms_of vs))) (scale b g) (scale-same ℕ_discrete a (mixture (forms_of us)) f m.sum.same)
            (scale-same ℕ_discrete b (mixture (forms_of vs)) g n.sum.same));
        is_strict = strict-append (map (times a) us) (map (times b) vs) ∙ (λ i. strict-times a us i || strict-times b vs i) ∙ (λ i. m.sum.is_strict i || n.sum.is_strict i);
      };
      some = nonzero-front a us (map (times b) vs) m.some;
    }

-- ---- the same form
pub sum_same : (given : List Inequality) (f g : Form ℕ) (s : Bool) → SameForm ℕ_discrete f g → IsSum given f s → IsSum given g s
sum_same given f g s e m =
    record { shares = m.shares; among = m.among; positive = m.positive; same = same_trans ℕ_discrete (mixture (forms_of m.shares)) f g m.same e; is_strict = m.is_strict }

pub nonzero_same : (given : List Inequality) (f g : Form ℕ) (s : Bool) → SameForm ℕ_discrete f g → IsNonzeroSum given f s → IsNonzeroSum given g s
unfolding sum_same
nonzero_same given f g s e m = record { sum = sum_same given f g s e m.sum; some = m.some }

-- ---- one inequality
pub sum_one : (given : List Inequality) (row : Inequality) → Contains given row → IsSum given (meaning row.lin) row.strict
sum_one given row c =
    let f = meaning row.lin in
    record {
      shares = record { factor = one_ℚ; row = row } ∷ [];
      among = (c, tt);
      positive = (positive_one, tt);
      same = same_trans ℕ_discrete (plus (scale one_ℚ f) (number zero_ℚ)) (plus (number zero_ℚ) (scale one_ℚ f)) f (plus_comm ℕ_discrete (scale one_ℚ f) (number zero_ℚ))
          (same_trans ℕ_discrete (plus (number zero_ℚ) (scale one_ℚ f)) (scale one_ℚ f) f (zero_plus ℕ_discrete (scale one_ℚ f)) (scale_one ℕ_discrete f));
      is_strict = or-false row.strict;
    }

pub nonzero_one : (given : List Inequality) (row : Inequality) → Contains given row → ¬ IsZero (meaning row.lin) → IsNonzeroSum given (meaning row.lin) row.strict
unfolding sum_one
nonzero_one given row c n = record { sum = sum_one given row c; some = inl n }

-- ---- a combination
pub combination_sum : (given : List Inequality) (name : ℕ) (lower upper : Row) → IsLowerRow name lower → IsUpperRow name upper → IsDerived given lower → IsDerived given upper
    → IsNonzeroSum given (combination name (meaning lower.lin) (meaning upper.lin)) (lower.strict || upper.strict)
combination_sum given name lower upper l u m n =
    let low = lower_means lower.lin (record { key = name; factor = l.factor }) l.row.normal l.is l.sign in
    let up = upper_means upper.lin (record { key = name; factor = u.factor }) u.row.normal u.is u.sign in
    sum_both given (meaning lower.lin) (meaning upper.lin) lower.strict upper.strict (neg_ℚ (factor_at name (meaning upper.lin))) (factor_at name (meaning lower.lin)) up.sign low.sign m n

pub tight_sum : (given : List Inequality) (f : Form ℕ) (s : Bool) → IsNonzeroSum given f s → s ≡ false → IsZero f → HasTightSum given
tight_sum given f s m e z = by_strict s m e
  where
    by_strict : (s : Bool) → IsNonzeroSum given f s → s ≡ false → HasTightSum given
    by_strict false m e = record { form = f; sum = m.sum; zero = z; some = m.some }
    by_strict true m e = cc

pub refuted_sum : (given : List Inequality) (f : Form ℕ) (s : Bool) → IsSum given f s → IsRefuted s f → HasRefutedSum given
refuted_sum given f s m r = record { form = f; strict = s; sum = m; refuted = r }

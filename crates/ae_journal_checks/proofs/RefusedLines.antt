-- Lines on names and rows that their rules refuse.
use Rattle.std.specs.Prelude.{ℕ, ◌≤◌, true, [], ◌++◌, ◌≡◌, ◌≢◌}
use mathlib.Core.Path.{refl, sym, ap, ◌∙◌}
use native.Mathlib.Omega.{arith}
use Rattle.ae_math.specs.Fractions.{ℚ, zero_ℚ, one_ℚ, frac, ◌+ℚ◌, ◌*ℚ◌, is_positive}
use std.Quotient.{/_rec}
use Rattle.ae_math.proofs.FractionLaws.{add_zero_q, one_mul_q, zero_mul_q}
use Rattle.ae_num.specs.declared.forms.Lin.{Lin}
use Rattle.ae_num.specs.Forms.{meaning as form_of}
use Rattle.ae_journal.specs.Rows.{IsMultiple}
use Rattle.ae_journal.specs.SolverLines.{Solves}
use Rattle.ae_journal.specs.SolverLines.Solves.{a_number, a_leaf, other_leaf}
use Rattle.ae_journal.specs.Standing.{Setting}
use Rattle.ae_journal.specs.Values.{Val, Vals, Sum, number, leaf, fields, leaf_factor, settled, scaled, sum_of_lin}
use Rattle.ae_evaluation.proofs.Sums.{factor-append, factor-scaled, factor-settled, one_sum, settles}
use Rattle.ae_journal_checks.specs.Laws.{NoLargerLeaf, NoSumWithItself, NoRecordIsSolved, NoSecondCombination}

-- ---- names
no_larger : (x : Setting) (n m : ℕ) (w l r : Val) → Solves x n w l r → w ≡ leaf m → n ≤ m → ⊥
no_larger x n m _ l r (a_number _ f v w a b c) e h = cc
no_larger x n m _ _ _ (a_leaf k _ less) e h = let z : k ≡ m = cc in omega (arith, less, h, z)
no_larger x n m _ _ _ (other_leaf k _ less) e h = let z : k ≡ m = cc in omega (arith, less, h, z)

no_sum : (x : Setting) (n : ℕ) (g : Sum) (w l r : Val) → Solves x n w l r → w ≡ number g → leaf_factor g.parts n ≢ zero_ℚ → ⊥
no_sum x n g _ l r (a_number _ f v w a b c) e h = let z : f ≡ g = cc in h (sym (ap (λ (s : Sum). leaf_factor s.parts n) z) ∙ b)
no_sum x n g _ _ _ (a_leaf k _ less) e h = cc
no_sum x n g _ _ _ (other_leaf k _ less) e h = cc

no_fields : (x : Setting) (n : ℕ) (vs : Vals) (w l r : Val) → Solves x n w l r → w ≡ fields vs → ⊥
no_fields x n vs _ l r (a_number _ f v w a b c) e = cc
no_fields x n vs _ _ _ (a_leaf k _ less) e = cc
no_fields x n vs _ _ _ (other_leaf k _ less) e = cc

pub no_larger_leaf : NoLargerLeaf
no_larger_leaf x js n m v e h o = no_larger x n m _ _ _ o.solves e h

pub no_sum_with_itself : NoSumWithItself
no_sum_with_itself x js n v f e h o = no_sum x n f _ _ _ o.solves e h

pub no_record_is_solved : NoRecordIsSolved
no_record_is_solved x js n v vs e o = no_fields x n vs _ _ _ o.solves e

-- ---- rows
once_and_nothing : (q : ℚ) → q ≡ one_ℚ *ℚ q +ℚ zero_ℚ *ℚ q
once_and_nothing q = sym (add_zero_q q) ∙ (λ i. sym (one_mul_q q) i +ℚ sym (zero_mul_q q) i)

pub one_positive : is_positive one_ℚ ≡ true
unfolding one_ℚ is_positive frac /_rec
one_positive = refl

multiple_of_itself : (f : Lin) → IsMultiple (sum_of_lin f) (sum_of_lin f)
multiple_of_itself f = (one_ℚ, one_positive, λ i. record { parts = parts i; constant = once_and_nothing (sum_of_lin f).constant i })
  where
    parts : (sum_of_lin f).parts ≡ settled (scaled one_ℚ (sum_of_lin f).parts ++ scaled zero_ℚ (sum_of_lin f).parts)
    parts =
        one_sum (sum_of_lin f).parts (settled (scaled one_ℚ (sum_of_lin f).parts ++ scaled zero_ℚ (sum_of_lin f).parts)) (settles (form_of f).parts)
        (settles (scaled one_ℚ (sum_of_lin f).parts ++ scaled zero_ℚ (sum_of_lin f).parts))
        (λ j. once_and_nothing (leaf_factor (sum_of_lin f).parts j)
        ∙ sym (factor-settled (scaled one_ℚ (sum_of_lin f).parts ++ scaled zero_ℚ (sum_of_lin f).parts) j
        ∙ factor-append (scaled one_ℚ (sum_of_lin f).parts) (scaled zero_ℚ (sum_of_lin f).parts) j
        ∙ (λ i. factor-scaled one_ℚ (sum_of_lin f).parts j i +ℚ factor-scaled zero_ℚ (sum_of_lin f).parts j i)))

pub no_second_combination : NoSecondCombination
no_second_combination x js a b f m = m.no_line js [] a f refl tt (multiple_of_itself f)

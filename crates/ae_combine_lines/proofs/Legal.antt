-- The combination of two rows that stand is a legal line, and a step whose products and sums a journal may state.
use Rattle.std.specs.Prelude.{ℕ, Bool, true, ◌||◌, List, ◌≡◌, ◌≢◌}
use Rattle.std.proofs.Common.{refl, sym, ap, ◌∙◌, arith, inl}
use Rattle.ae_base.proofs.Tests.{true_false}
use Rattle.ae_math.specs.Fractions.{ℚ, zero_ℚ, neg_ℚ, is_positive}
use Rattle.ae_math.proofs.FractionLaws.{neg_zero_q}
use Rattle.ae_math.proofs.FractionOrder.{positive_zero}
use Rattle.ae_num.specs.declared.forms.Lin.{Lin}
use Rattle.ae_num.specs.Forms.{meaning, SameMeaning, IsNormal}
use Rattle.ae_rows.specs.Rows.{combination, factor_at}
use Rattle.ae_journal.specs.Values.{Sum, sum_of_lin}
use Rattle.ae_journal.specs.TermValues.{IsLargest}
use Rattle.ae_journal.specs.Standing.{Setting}
use Rattle.ae_journal.specs.Rows.{IsMultiple, AreCombined, MayCombine}
use Rattle.ae_journal.specs.declared.lines.Line.{Line}
use Rattle.ae_combine_lines.specs.Laws.{IsSure, AreOpposed}
use Rattle.ae_combine_lines.specs.Laws.IsSure.{of_literal, of_line}
use Rattle.ae_combine_lines.proofs.Sums.{factor_in_sum, combined_sum}

positive_is_some : (y : ℚ) → is_positive y ≡ true → y ≢ zero_ℚ
positive_is_some y p z = true_false (sym p ∙ ap is_positive z ∙ positive_zero)

negative_is_some : (y : ℚ) → is_positive (neg_ℚ y) ≡ true → y ≢ zero_ℚ
negative_is_some y p z = true_false (sym p ∙ ap (λ t. is_positive (neg_ℚ t)) z ∙ ap is_positive neg_zero_q ∙ positive_zero)

module _ (x : Setting) (js : List Line) (n : ℕ) (s t : Bool) (p q r : Lin) (o : AreOpposed x js n s p t q) where
  largest_one : IsLargest x.names n (sum_of_lin p)
  largest_one = (o.named, λ z. positive_is_some (factor_at n (meaning p)) o.lower.sign (sym (factor_in_sum p n) ∙ z), λ m h. factor_in_sum p m ∙ o.lower.largest.absent m (omega (arith, h)))

  largest_other : IsLargest x.names n (sum_of_lin q)
  largest_other = (o.named, λ z. negative_is_some (factor_at n (meaning q)) o.upper.sign (sym (factor_in_sum q n) ∙ z), λ m h. factor_in_sum q m ∙ o.upper.largest.absent m (omega (arith, h)))

  pub are_combined : AreCombined x js s (sum_of_lin p) t (sum_of_lin q) n
  are_combined = record {
    first = o.first;
    second = o.second;
    largest = (largest_one, largest_other);
    signs = (ap is_positive (factor_in_sum p n) ∙ o.lower.sign, ap (λ y. is_positive (neg_ℚ y)) (factor_in_sum q n) ∙ o.upper.sign);
  }

  pub legal : IsNormal r → SameMeaning (meaning r) (combination n (meaning p) (meaning q)) → ((g : Sum) → IsSure x js g → ¬ IsMultiple (sum_of_lin r) g) → MayCombine x js (s || t) r
  legal normal same none = record {
    plain = sum_of_lin r;
    was_strict = s || t;
    combination = record {
      one = sum_of_lin p;
      other = sum_of_lin q;
      strict_one = s;
      strict_other = t;
      key = n;
      combined = are_combined;
      strictness = refl;
      is = combined_sum n p q r same;
    };
    normal = normal;
    is = inl (refl, refl);
    no_literal = λ l a b c h e. none _ (of_literal l a b c h e);
    no_line = λ before after b h e c. none _ (of_line before after b h e c);
  }

-- The rounded combination of two rows is a legal line.
use Rattle.std.specs.Prelude.{ℕ, Bool, false, ◌||◌, List}
use Rattle.std.proofs.Common.{refl, inr}
use Rattle.ae_num.specs.declared.forms.Lin.{Lin}
use Rattle.ae_num.specs.Forms.{meaning, SameMeaning, IsNormal}
use Rattle.ae_rows.specs.Rows.{combination}
use Rattle.ae_journal.specs.Values.{Sum, sum_of_lin}
use Rattle.ae_journal.specs.Sides.{AreWhole, IsRounded}
use Rattle.ae_journal.specs.Standing.{Setting}
use Rattle.ae_journal.specs.Rows.{IsMultiple, MayCombine}
use Rattle.ae_journal.specs.declared.lines.Line.{Line}
use Rattle.ae_combine_lines.specs.Laws.{IsSure, AreOpposed}
use Rattle.ae_combine_lines.specs.Laws.IsSure.{of_literal, of_line}
use Rattle.ae_combine_lines.proofs.Sums.{combined_sum}
use Rattle.ae_combine_lines.proofs.Legal.{are_combined}

pub rounded_legal : (x : Setting) (js : List Line) (n : ℕ) (s t : Bool) (p q h r : Lin) → AreOpposed x js n s p t q → IsNormal h → SameMeaning (meaning h) (combination n (meaning p) (meaning q))
    → AreWhole x.problem.signature x.names h → IsNormal r → IsRounded (s || t) h r → ((g : Sum) → IsSure x js g → ¬ IsMultiple (sum_of_lin r) g) → MayCombine x js false r
rounded_legal x js n s t p q h r o nh same whole nr rounded none = record {
  plain = sum_of_lin h;
  was_strict = s || t;
  combination = record {
    one = sum_of_lin p;
    other = sum_of_lin q;
    strict_one = s;
    strict_other = t;
    key = n;
    combined = are_combined x js n s t p q h o;
    strictness = refl;
    is = combined_sum n p q h same;
  };
  normal = nr;
  is = inr (h, nh, refl, whole, rounded, refl);
  no_literal = λ l a b c k e. none _ (of_literal l a b c k e);
  no_line = λ before after b k e c. none _ (of_line before after b k e c);
}

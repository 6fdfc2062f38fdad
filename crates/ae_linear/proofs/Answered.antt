-- Answers for forms of one meaning, and widths.
use Rattle.std.specs.Prelude.{ℕ, Ok, Err, IfErr}
use Rattle.std.specs.declared.result.Result.{Result}
use Rattle.std.proofs.Common.{sym, ◌∙◌}
use native.Mathlib.Decide.{ℕ_discrete}
use Rattle.ae_math.specs.Forms.{Form}
use Rattle.ae_math.proofs.FormLaws.{same_sym, same_trans}
use Rattle.ae_num.specs.declared.numbers.Wide.{Wide}
use Rattle.ae_num.specs.declared.numbers.NumFail.{NumFail}
use Rattle.ae_num.specs.Forms.{SameMeaning, IfWide}
use Rattle.ae_num.proofs.Checks.{wide_too}
use Rattle.ae_linear.specs.declared.solving.Solved.{Solved}
use Rattle.ae_linear.specs.declared.solving.Solved.TheVariants.{Trivial, Bottom, Rule}
use Rattle.ae_linear.specs.Solving.{IsSolved}

pub solved_same : (d e : Form ℕ) (s : Solved) → SameMeaning d e → IsSolved d s → IsSolved e s
solved_same d e Trivial same h = same_trans ℕ_discrete e d _ (same_sym ℕ_discrete d e same) h
solved_same d e Bottom same h = record { factors = λ k. sym (same.factors k) ∙ h.factors k; off = λ z. h.off (same.constants ∙ z) }
solved_same d e (Rule name value) same h = record {
  times = h.times;
  nonzero = h.nonzero;
  normal = h.normal;
  smaller = h.smaller;
  equation = same_trans ℕ_discrete e d _ (same_sym ℕ_discrete d e same) h.equation;
}

pub if_wide : {A : Type 0} (r : Result A NumFail) (P Q : Wide → Type 0) → ((w : Wide) → P w → Q w) → IfErr r (λ e. IfWide e P) → IfErr r (λ e. IfWide e Q)
if_wide (Ok a) P Q f h = h
if_wide (Err e) P Q f h = wide_too e P Q f h

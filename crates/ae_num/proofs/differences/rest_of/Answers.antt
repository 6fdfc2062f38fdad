use Rattle.std.specs.Prelude.{◌≡◌, ℕ, pos, [], None}
use Rattle.std.proofs.Common.{subst, sym, ap, ◌∙◌}
use native.Mathlib.Decide.{ℕ_discrete}
use Rattle.ae_math.specs.Fractions.{zero_ℚ}
use Rattle.ae_math.specs.Forms.{Form, number, substitute}
use Rattle.ae_num.specs.declared.forms.Lin.{Lin}
use Rattle.ae_num.specs.Forms.{meaning, SameMeaning, first_wide, subst_steps}
use Rattle.ae_num.proofs.MeaningLaws.{ratio_zero}
use Rattle.std.proofs.lemmas.Result.{IfOk-weaker}
use Rattle.ae_num.proofs.Rests.{nothing_wide, never_wide}
use Rattle.ae_num.proofs.differences.rest_of.Goals as goal

pub returns-clause-exact : goal.returns-clause-exact
returns-clause-exact c =
    let p = c.args.form.now in
    let e : meaning c.zero-nothing.result ≡ number zero_ℚ = ap meaning c.zero-nothing.ensures.form ∙ (λ i. record { parts = []; constant = ratio_zero (pos 1) i }) in
    IfOk-weaker c.subst.result (λ f. SameMeaning (meaning f) (substitute ℕ_discrete (meaning p) c.args.name (meaning c.zero-nothing.result))) (λ f. SameMeaning (meaning f) (substitute ℕ_discrete (meaning p) c.args.name (number zero_ℚ)))
    (λ (f : Lin) s. subst (λ (g : Form ℕ). SameMeaning (meaning f) (substitute ℕ_discrete (meaning p) c.args.name g)) e s) c.subst.ensures.exact

pub returns-clause-never : goal.returns-clause-never
returns-clause-never c =
    never_wide c.subst.result (first_wide (subst_steps c.args.form.now c.args.name c.zero-nothing.result))
    (subst (λ (q : Lin). first_wide (subst_steps c.args.form.now c.args.name q) ≡ None) (sym c.zero-nothing.ensures.form) (nothing_wide c.args.form.now c.args.name c.requires)) c.subst.ensures.wide

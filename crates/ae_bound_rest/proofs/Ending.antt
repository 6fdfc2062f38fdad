-- What the lines of the rest are, and the widths of its combinations.
use Rattle.std.specs.Prelude.{ℕ, List, ◌++◌, ◌≡◌, Some}
use Rattle.std.proofs.Common.{sym, ◌∙◌, subst, inl}
use Rattle.ae_num.specs.declared.forms.Lin.{Lin}
use Rattle.ae_num.specs.Forms.{IsNormal, first_wide}
use Rattle.ae_journal.specs.Values.{sum_of_lin}
use Rattle.ae_journal.specs.Standing.{Setting}
use Rattle.ae_journal.specs.Legal.{AreLegal}
use Rattle.ae_journal.specs.Licences.{stated_steps, IsLicensedStep, IsLicensed}
use Rattle.ae_journal.specs.Licences.IsLicensedStep.{a_combine}
use Rattle.ae_journal.specs.declared.answers.NumStep.{NumStep}
use Rattle.ae_journal.specs.declared.answers.NumStep.TheVariants.{Combine}
use Rattle.ae_journal.specs.declared.answers.WideAt.{WideAt}
use Rattle.ae_journal.specs.declared.lines.Line.{Line}
use Rattle.ae_combine_lines.proofs.Legal.{are_combined}
use Rattle.ae_bounds.specs.declared.rows.Row.{Row}
use Rattle.ae_bound_widths.specs.Fractions.{AreFinished}
use Rattle.ae_bound_rest.specs.Rest.{AreNoted, AreWide}
use Rattle.ae_bound_rest.specs.Laws.{AreAgreed}
use Rattle.ae_bound_rest.proofs.Growth.{grown_fine, opposed_fine}

pub rest_legal : (x : Setting) (bound : ℕ) (rows : List Row) (js ks : List Line) → AreAgreed x js rows → AreFinished rows → AreNoted rows js ks → (added : List Line) × (ks ≡ js ++ added) × AreLegal x bound js added
rest_legal x bound rows js ks a done n = let f = grown_fine x bound js rows a done n.sure ks n.grown in (f.added, f.lines, f.are_legal)

pub rest_width : (x : Setting) (rows : List Row) (js ks : List Line) (w : WideAt) → AreAgreed x js rows → AreFinished rows → AreWide rows js ks w → IsLicensed x ks w
rest_width x rows js ks w a done h =
    let d = h.wide in
    let f = grown_fine x 0 js rows a done h.sure ks h.grown in
    let o = opposed_fine x ks h.sure f.fine d.first d.second d.name d.opposed in
    let c = are_combined x ks d.name d.first.strict d.second.strict d.first.lin d.second.lin d.first.lin o in
    let step = a_combine d.first.strict d.second.strict (sum_of_lin d.first.lin) (sum_of_lin d.second.lin) d.name c in
    record {
      normal = (subst IsNormal (sym d.left) d.opposed.normal.0, subst IsNormal (sym d.right) d.opposed.normal.1);
      wide = (λ i. first_wide (stated_steps (d.step i) (d.left i) (d.key i) (d.right i))) ∙ d.wide;
      forms = inl
          (subst (λ (s : NumStep). IsLicensedStep x ks s (sum_of_lin w.left) w.key (sum_of_lin w.right)) (sym d.step)
          (subst (λ (l : Lin). IsLicensedStep x ks Combine (sum_of_lin l) w.key (sum_of_lin w.right)) (sym d.left)
          (subst (λ k. IsLicensedStep x ks Combine (sum_of_lin d.first.lin) k (sum_of_lin w.right)) (sym d.key)
          (subst (λ (l : Lin). IsLicensedStep x ks Combine (sum_of_lin d.first.lin) (Some d.name) (sum_of_lin l)) (sym d.right) step))));
    }

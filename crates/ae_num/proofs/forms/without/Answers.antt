use Rattle.std.proofs.Common.{◌≡◌, ◌≤◌, ◌++◌, ◌∙◌, sym, ap, subst, length, rules, append-nil}
use Rattle.std.proofs.lemmas.Int.{to_z-of_z}
use mir.Syntax.{w128}
use Rattle.std.proofs.lemmas.List.{drop_all}
use Rattle.ae_num.specs.Forms.{others}
use Rattle.ae_num.proofs.KeyLaws.{others_step}
use Rattle.ae_num.proofs.forms.without.Goals as goal

pub loop-part-preserved : goal.loop-part-preserved
loop-part-preserved c =
    others_step c.args.form.now.parts c.as_slice-part-items.result.now c.loop-part.part-index _ c.args.key _ _ _ c.as_slice-part-items.ensures c.loop-part-test.true c.in_ok-push_other.ensures c.loop-part.invariant

pub returns : goal.returns
returns c =
    let form = c.args.form.now in
    let ended : length form.parts ≤ c.loop-part.part-index = subst (λ ps. length ps ≤ c.loop-part.part-index) c.as_slice-part-items.ensures c.loop-part-test.false in
    let parts : c.loop-part.parts ≡ others form.parts c.args.key =
    sym (append-nil c.loop-part.parts) ∙ ap (λ ps. c.loop-part.parts ++ others ps c.args.key) (sym (drop_all c.loop-part.part-index form.parts ended)) ∙ c.loop-part.invariant in
    λ k. record {
      den = to_z-of_z w128 form.den (search rules) k;
      parts = parts k;
      constant = to_z-of_z w128 form.constant (search rules) k;
    }

use Rattle.std.proofs.Common.{rules, ◌≡◌, ◌∙◌, ap, drop, get_or, ◌+◌, pos}
use Rattle.std.proofs.lemmas.Int.{to_z-of_z}
use mir.Syntax.{w128}
use mir.Val.{to_z, of_z}
use Rattle.ae_math.specs.Fractions.{ratio, ◌+ℚ◌}
use Rattle.ae_math.proofs.FractionLaws.{zero_add_q}
use Rattle.ae_journal.specs.Values.{leaf_factor}
use Rattle.ae_num.specs.declared.forms.Part.{Part}
use Rattle.ae_naturals.specs.Fractions.{value_of}
use Rattle.ae_computing.proofs.TotalLaws.{parts_over, leaf_there, leaf_elsewhere, no_leaf_left}
use Rattle.ae_computing.proofs.values.leaf_factor.Goals as goal
use Rattle.ae_computing.proofs.values.leaf_factor.Goals.{then-part-leaf+in_ok-factor+in_ok-sum-2, else-part-leaf}

pub loop-part-init : goal.loop-part-init
loop-part-init c = ap (λ z. z +ℚ leaf_factor (parts_over c.args.form.now.den c.as_slice-parts.result.now) c.args.leaf) c.in_ok-sum.ensures ∙ zero_add_q _

pub loop-part-preserved : goal.loop-part-preserved
loop-part-preserved c =
    let k = c.args.leaf in
    let ps = c.as_slice-parts.result.now in
    let i = c.loop-part.part-index in
    let none : Part = record { key = 0; factor = pos 0 } in
    let p : Part = get_or ps i none in
    let s = value_of c.loop-part.sum in
    let rest = leaf_factor (parts_over c.args.form.now.den (drop (i + 1) ps)) k in
    elim c.if-part-leaf.branch [
      | then-part-leaf+in_ok-factor+in_ok-sum-2 w ↦
          let top : to_z w128 (of_z w128 p.factor) ≡ p.factor = to_z-of_z w128 p.factor (search rules) in
          let den : to_z w128 (of_z w128 c.args.form.now.den) ≡ c.args.form.now.den = to_z-of_z w128 c.args.form.now.den (search rules) in
          ap (λ f. value_of f +ℚ rest) w.sum-is
          ∙ ap (λ z. z +ℚ rest) (w.in_ok-sum-2.ensures ∙ ap (λ z. s +ℚ z) (w.in_ok-factor.ensures ∙ (λ j. ratio (top j) (den j))))
          ∙ leaf_there k c.args.form.now.den ps i none s c.loop-part-test.true w.if-part-leaf.true ∙ c.loop-part.invariant
      | else-part-leaf w ↦
          ap (λ f. value_of f +ℚ rest) w.sum-is
          ∙ ap (λ z. s +ℚ z) (leaf_elsewhere k c.args.form.now.den ps i none c.loop-part-test.true w.if-part-leaf.false) ∙ c.loop-part.invariant
    ]

pub returns : goal.returns
returns c =
    no_leaf_left c.args.leaf c.args.form.now.den c.as_slice-parts.result.now c.loop-part.part-index (value_of c.loop-part.sum) c.loop-part-test.false
    ∙ c.loop-part.invariant ∙ ap (λ ps. leaf_factor (parts_over c.args.form.now.den ps) c.args.leaf) c.as_slice-parts.ensures

use Rattle.std.proofs.Common.{◌≡◌, ◌∙◌, sym, ap, drop, ◌+◌, get_or}
use Rattle.ae_base.specs.Decided.{decided}
use Rattle.ae_math.specs.Fractions.{◌+ℚ◌}
use Rattle.ae_math.specs.Forms.{factor_in}
use Rattle.ae_math.proofs.FractionLaws.{zero_add_q}
use Rattle.ae_core.specs.Decided.{Term_discrete}
use Rattle.ae_naturals.specs.Fractions.{value_of}
use Rattle.ae_computing.specs.Inner.Exact.{multiples}
use Rattle.ae_computing.specs.declared.forms.Multiple.{Multiple}
use Rattle.ae_computing.proofs.ExactLaws.{factor_there, factor_elsewhere, no_factor_left}
use Rattle.ae_computing.proofs.forms.factor_of.Goals as goal
use Rattle.ae_computing.proofs.forms.factor_of.Goals.{then-is_term+in_ok-sum-2, else-is_term}

pub loop-part-init : goal.loop-part-init
loop-part-init c =
    ap (λ z. z +ℚ factor_in Term_discrete (multiples c.args.parts.now) c.args.term.now) c.in_ok-sum.ensures ∙ zero_add_q _

pub loop-part-preserved : goal.loop-part-preserved
loop-part-preserved c =
    let t = c.args.term.now in
    let ms = c.args.parts.now in
    let i = c.loop-part.part-index in
    let d = c.part-item.result in
    let s = value_of c.loop-part.sum in
    let rest = factor_in Term_discrete (multiples (drop (i + 1) ms)) t in
    let here : decided (Term_discrete (get_or ms i d).term.now t) ≡ c.is_term.result =
    ap (λ (m : Multiple). decided (Term_discrete m.term.now t)) (sym c.part-item.is) ∙ sym c.is_term.ensures in
    elim c.if-is_term.branch [
      | then-is_term+in_ok-sum-2 w ↦
          ap (λ f. value_of f +ℚ rest) w.sum-is
          ∙ ap (λ z. z +ℚ rest) (w.in_ok-sum-2.ensures ∙ ap (λ (m : Multiple). s +ℚ value_of m.factor) c.part-item.is)
          ∙ factor_there t ms i d s c.loop-part-test.true (here ∙ w.if-is_term.true) ∙ c.loop-part.invariant
      | else-is_term w ↦
          ap (λ f. value_of f +ℚ rest) w.sum-is
          ∙ ap (λ z. s +ℚ z) (factor_elsewhere t ms i d c.loop-part-test.true (here ∙ w.if-is_term.false)) ∙ c.loop-part.invariant
    ]

pub returns : goal.returns
returns c =
    no_factor_left c.args.term.now c.args.parts.now c.loop-part.part-index (value_of c.loop-part.sum) c.loop-part-test.false ∙ c.loop-part.invariant

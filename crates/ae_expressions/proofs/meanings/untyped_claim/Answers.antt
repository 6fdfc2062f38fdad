use Rattle.std.proofs.Common.{arith, ◌≡◌, length, sym, subst}
use Rattle.ae_elab.specs.Expressions.{name_formula}
use Rattle.ae_elab.specs.Scope.{a_formula, bound}
use Rattle.ae_elab.specs.Trees.{falsity}
use Rattle.ae_elab.specs.Typings.{Stops, around_in}
use Rattle.ae_elab.proofs.TypingLaws.{puts_claim}
use Rattle.ae_expressions.proofs.NameSteps.{claim_count, claim_held, falsity_merged}
use Rattle.ae_expressions.proofs.meanings.untyped_claim.Goals as goal

pub returns-then-count-ne0 : goal.returns-then-count-ne0
returns-then-count-ne0 c d args place same =
    let o = around_in c.args.around.now in
    subst (λ e. Stops d (λ sc. name_formula c.args.name args sc o place (bound (a_formula falsity))) c.args.typing.now e) (sym c.wrong_count.ensures)
    (claim_count d place c.args.name args o c.args.typing.now falsity (λ z. omega (arith, z, same, c.if-count-ne0.true)))

pub returns : goal.returns
returns c d args place same =
    let o = around_in c.args.around.now in
    let none : length args ≡ 0 = omega (arith, same, c.if-count-ne0.false) in
    claim_held d place c.args.name args o c.args.typing.now none falsity c.push_node.new.typing c.in_ok-push_node.field-0 (falsity_merged o)
    (puts_claim d c.args.typing.now c.push_node.new.typing falsity c.in_ok-push_node.field-0 c.in_ok-push_node.ensures)

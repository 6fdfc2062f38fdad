use Rattle.std.proofs.Common.{arith, ◌≡◌, List, length, sym, subst}
use Rattle.ae_elab.specs.Expressions.{name_formula}
use Rattle.ae_elab.specs.Formulas.{merging_into}
use Rattle.ae_elab.specs.Nodes.{Entry, claim_at}
use Rattle.ae_elab.specs.Scope.{a_formula, bound}
use Rattle.ae_elab.specs.Steps.{AreHeld, AreFailed}
use Rattle.ae_elab.specs.Typings.{Stops, around_in, nodes_of}
use Rattle.ae_elab.proofs.TypingLaws.{walks_give}
use Rattle.ae_expressions.proofs.NameSteps.{claim_count, claim_failed, claim_held}
use Rattle.ae_expressions.proofs.meanings.named_claim.Goals as goal

pub returns-then-count-ne0 : goal.returns-then-count-ne0
returns-then-count-ne0 c d args place same =
    let old = c.args.typing.now in
    let f = claim_at (nodes_of old) c.args.claim in
    let o = around_in c.args.around.now in
    subst (λ e. Stops d (λ sc. name_formula c.args.name args sc o place (bound (a_formula f))) old e) (sym c.wrong_count.ensures)
    (claim_count d place c.args.name args o old f (λ z. omega (arith, z, same, c.if-count-ne0.true)))

pub returns-in-Ok : goal.returns-in-Ok
returns-in-Ok c d args place same =
    let old = c.args.typing.now in
    let n = c.args.claim in
    let f = claim_at (nodes_of old) n in
    let o = around_in c.args.around.now in
    let none : length args ≡ 0 = omega (arith, same, c.if-count-ne0.false) in
    claim_held d place c.args.name args o old none f old n (subst (λ (es : List Entry). AreHeld (merging_into o (claim_at es n))) c.nodes.ensures c.in-Ok.ensures.met)
    (record { claim = f; stands = c.requires.stands; walks = walks_give d old f })

pub returns-in-Err : goal.returns-in-Err
returns-in-Err c d args place same =
    let old = c.args.typing.now in
    let n = c.args.claim in
    let f = claim_at (nodes_of old) n in
    let o = around_in c.args.around.now in
    let none : length args ≡ 0 = omega (arith, same, c.if-count-ne0.false) in
    claim_failed d place c.args.name args o old none f c.in-Err.fault (subst (λ (es : List Entry). AreFailed (merging_into o (claim_at es n)) c.in-Err.fault) c.nodes.ensures c.in-Err.ensures.fault)

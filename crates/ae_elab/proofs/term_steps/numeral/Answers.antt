use Rattle.std.specs.Prelude.{pos, true, false}
use Rattle.std.proofs.Common.{rules, subst, to_z, of_z}
use Rattle.std.specs.Int.{w128}
use Rattle.std.proofs.lemmas.Int.{to_z-of_z}
use Rattle.ae_core.specs.declared.terms.Sort.{Int, Real}
use Rattle.ae_elab.specs.Rules.{give, typed}
use Rattle.ae_elab.specs.Trees.{numeral}
use Rattle.ae_elab.specs.Typings.{TypesTerm}
use Rattle.ae_elab.proofs.TypingLaws.{puts_term}
use Rattle.ae_elab.proofs.term_steps.numeral.Goals as goal

pub returns-in_ok-tree-in-Whole : goal.returns-in_ok-tree-in-Whole
returns-in_ok-tree-in-Whole c d =
    let n = c.in-Whole.top in
    let t = c.in_ok-tree-in-Whole.tree in
    rw c.in-Whole.is (subst (λ z. TypesTerm d (λ sc. give (typed (numeral z (pos 1) false) Int)) c.args.typing.now c.push_node.new.typing (record { tree = t; sort = Int })) (to_z-of_z w128 n (search rules))
    (puts_term d c.args.typing.now c.push_node.new.typing (numeral (to_z w128 (of_z w128 n)) (pos 1) false) t Int c.in_ok-tree-in-Whole.ensures))

pub returns-in_ok-tree-in-Decimal : goal.returns-in_ok-tree-in-Decimal
returns-in_ok-tree-in-Decimal c d =
    let n = c.in-Decimal.top in
    let m = c.in-Decimal.bottom in
    let t = c.in_ok-tree-in-Decimal.tree in
    rw c.in-Decimal.is (subst (λ z. TypesTerm d (λ sc. give (typed (numeral z m true) Real)) c.args.typing.now c.push_node-in-Decimal.new.typing (record { tree = t; sort = Real })) (to_z-of_z w128 n (search rules))
    (subst (λ z. TypesTerm d (λ sc. give (typed (numeral (to_z w128 (of_z w128 n)) z true) Real)) c.args.typing.now c.push_node-in-Decimal.new.typing (record { tree = t; sort = Real })) (to_z-of_z w128 m (search rules))
    (puts_term d c.args.typing.now c.push_node-in-Decimal.new.typing (numeral (to_z w128 (of_z w128 n)) (to_z w128 (of_z w128 m)) true) t Real c.in_ok-tree-in-Decimal.ensures)))

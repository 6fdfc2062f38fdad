use Rattle.std.proofs.Common.{arith, ◌≡◌, length, sym, subst}
use Rattle.ae_elab.specs.declared.environment.Meaning.{Meaning}
use Rattle.ae_elab.specs.declared.environment.Meaning.TheVariants as code
use Rattle.ae_elab.specs.Environments.{IsMeaning, meaning_in}
use Rattle.ae_elab.specs.Expressions.{name_term}
use Rattle.ae_elab.specs.Nodes.{tree_at, claim_at}
use Rattle.ae_elab.specs.Scope.{bound}
use Rattle.ae_elab.specs.Typings.{Stops, TermAnswer, TypesTerm, nodes_of}
use Rattle.ae_expressions.proofs.NameSteps.{bound_count, bound_variable, bound_value, bound_claim}
use Rattle.ae_expressions.proofs.meanings.bound_term.Goals as goal

pub returns-then-count-ne0 : goal.returns-then-count-ne0
returns-then-count-ne0 c d args same =
    let old = c.args.typing.now in
    let m = meaning_in (nodes_of old) c.args.meaning in
    subst (λ e. Stops d (λ sc. name_term c.args.name args sc c.args.place (bound m)) old e) (sym c.wrong_count.ensures)
    (bound_count d c.args.place c.args.name args old m (λ z. omega (arith, z, same, c.if-count-ne0.true)))

pub returns-in_ok-tree-in-Variable : goal.returns-in_ok-tree-in-Variable
returns-in_ok-tree-in-Variable c d args same =
    let old = c.args.typing.now in
    let new = c.push_node.new.typing in
    let v = c.in-Variable in
    let n = c.in_ok-tree-in-Variable.tree in
    let none : length args ≡ 0 = omega (arith, same, c.if-count-ne0.false) in
    subst (λ (m : Meaning). TypesTerm d (λ sc. name_term c.args.name args sc c.args.place (bound (meaning_in (nodes_of old) m))) old new (record { tree = n; sort = v.sort })) (sym v.is)
    (bound_variable d c.args.place c.args.name args old none v.number v.sort new n c.in_ok-tree-in-Variable.ensures)

pub returns-in-Term : goal.returns-in-Term
returns-in-Term c d args same =
    let old = c.args.typing.now in
    let es = nodes_of old in
    let v = c.in-Term in
    let none : length args ≡ 0 = omega (arith, same, c.if-count-ne0.false) in
    subst (λ (m : Meaning). TypesTerm d (λ sc. name_term c.args.name args sc c.args.place (bound (meaning_in es m))) old old (record { tree = v.tree; sort = v.sort })) (sym v.is)
    (bound_value d c.args.place c.args.name args old none v.class (tree_at es v.tree) v.sort v.tree (subst (IsMeaning es) v.is c.requires.stands))

pub returns-in-Formula : goal.returns-in-Formula
returns-in-Formula c d args same =
    let old = c.args.typing.now in
    let es = nodes_of old in
    let v = c.in-Formula in
    let none : length args ≡ 0 = omega (arith, same, c.if-count-ne0.false) in
    subst (λ (m : Meaning). Stops d (λ sc. name_term c.args.name args sc c.args.place (bound (meaning_in es m))) old c.prop_in_term.result) (sym v.is)
    (subst (λ e. Stops d (λ sc. name_term c.args.name args sc c.args.place (bound (meaning_in es (code.Formula v.field-0)))) old e) (sym c.prop_in_term.ensures)
    (bound_claim d c.args.place c.args.name args old none (claim_at es v.field-0)))

pub returns-in-Untyped : goal.returns-in-Untyped
returns-in-Untyped c d args same =
    let old = c.args.typing.now in
    let es = nodes_of old in
    let v = c.in-Untyped in
    let none : length args ≡ 0 = omega (arith, same, c.if-count-ne0.false) in
    subst (λ (m : Meaning). TermAnswer d (λ sc. name_term c.args.name args sc c.args.place (bound (meaning_in es m))) old c.untyped_term.new.typing c.untyped_term.result) (sym v.is)
    (c.untyped_term.ensures d c.args.name args none)

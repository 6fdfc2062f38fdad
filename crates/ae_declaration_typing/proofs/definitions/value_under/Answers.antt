use Rattle.std.proofs.Common.{◌∙◌, map, reverse}
use Rattle.std.proofs.lemmas.Result.{err_from_is_err_and}
use Rattle.ae_declaration_typing.proofs.UnderLaws.{under_stops, tree_under, as_many}
use Rattle.ae_elab.specs.Formulas.{local_of}
use Rattle.ae_elab.specs.Rules.{wanted}
use Rattle.ae_elab.specs.Expressions.{part_of}
use Rattle.ae_elab.specs.Typings.{bound_in, locals_of}
use Rattle.ae_declaration_typing.proofs.definitions.value_under.Goals as goal

pub returns-in_err-tree : goal.returns-in_err-tree
returns-in_err-tree c =
    let p = err_from_is_err_and c.from_residual-in_err-tree.result c.from_residual-in_err-tree.ensures.1 in
    let d = c.args.context.now in
    let bs = map (bound_in d.text.now) c.args.bounds.now in
    rw (p.1, p.2) (under_stops d (λ sc. wanted sc c.args.sort.now
    (part_of c.args.body.now)) c.args.typing.now bs c.enter_block.new.environment c.enter_block.ensures.nodes c.in_ok-enter_block.ensures.locals c.in_err-tree.field-0.0 c.in_err-tree.ensures)

pub returns : goal.returns
returns c =
    let d = c.args.context.now in
    let bs = map (bound_in d.text.now) c.args.bounds.now in
    let left = c.leave_block.new.environment in
    let body = c.in_ok-tree.ensures in
    let outer = c.leave_block.ensures.locals (reverse (map local_of bs)) (locals_of c.args.typing.now) (body.walks.locals ∙ c.in_ok-enter_block.ensures.locals) (as_many d.text.now c.args.bounds.now) in
    tree_under d (λ sc. wanted sc c.args.sort.now (part_of c.args.body.now)) c.args.typing.now bs c.enter_block.new.environment c.enter_block.ensures.nodes c.in_ok-enter_block.ensures.locals
    c.wanted_at.new.typing c.in_ok-tree.tree body left c.leave_block.ensures.nodes outer

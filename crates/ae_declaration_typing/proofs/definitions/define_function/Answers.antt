use Rattle.std.proofs.Common.{◌∙◌, map, length, ap}
use Rattle.std.proofs.lemmas.Result.{err_from_is_err_and}
use Rattle.ae_declaration_typing.proofs.DefinitionLaws.{function_fails, function_given}
use Rattle.ae_elab.specs.Typings.{bound_in}
use Rattle.ae_declaration_typing.proofs.definitions.define_function.Goals as goal

pub returns-in_err-tree-clause-draft : goal.returns-in_err-tree-clause-draft
returns-in_err-tree-clause-draft c =
    let p = err_from_is_err_and c.from_residual-in_err-tree.result c.from_residual-in_err-tree.ensures.1 in
    let d = c.args.context.now in
    let text = d.text.now in
    rw (p.1, p.2) (function_fails text d.known c.args.place c.args.name c.args.body.now (map (bound_in text) c.args.bounds.now) c.count_written-vars.result c.args.typing.now c.count_written-vars.ensures
    c.declare_function.new.known c.requires.locals c.in_err-tree.field-0.0 c.args.sort.now c.in_ok-declare_function.ensures c.in_err-tree.ensures)

pub returns-clause-draft : goal.returns-clause-draft
returns-clause-draft c =
    let d = c.args.context.now in
    let text = d.text.now in
    let bs = map (bound_in text) c.args.bounds.now in
    let body = c.in_ok-tree.ensures in
    function_given text d.known c.args.place c.args.name c.args.body.now bs c.count_written-vars.result c.args.typing.now c.value_under.new.typing c.count_written-vars.ensures
    c.declare_function.new.known c.requires.locals c.len-symbol.result (c.len-symbol.ensures ∙ ap (λ s. length s.symbols) c.signature.ensures) c.function_claim.new.environment c.in_ok-claim.claim body.walks.locals body.walks.kept
    c.args.sort.now c.in_ok-declare_function.ensures body.tree body.walks.walked (c.in_ok-claim.ensures text body.tree body.stands)

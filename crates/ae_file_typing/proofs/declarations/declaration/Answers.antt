use Rattle.ae_elab.specs.Declarations.{kind_rule}
use Rattle.ae_file_typing.proofs.KindLaws.{alone_answer}
use Rattle.ae_file_typing.proofs.declarations.declaration.Goals as goal

pub returns-clause-declared : goal.returns-clause-declared
returns-clause-declared c =
    let d = c.args.context.now in
    let text = d.text.now in
    let old = c.args.typing.now in
    alone_answer text (kind_rule text d.known c.args.decl.now.span c.args.decl.now.kind) c.by_kind.new.context.known old c.by_kind.new.typing
    c.begin_anew.new.passing c.begin_anew.ensures.next c.begin_anew.ensures.written c.by_kind.result c.by_kind.ensures.declared

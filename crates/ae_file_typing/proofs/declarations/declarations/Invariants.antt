use Rattle.std.proofs.Common.{◌≡◌, [], drop}
use Rattle.ae_types.specs.Bound.{bound}
use Rattle.ae_elab.specs.Declarations.{decls_rule}
use Rattle.ae_elab.specs.Typings.{Begins, locals_of, nodes_of}
use Rattle.ae_file_typing.specs.Files.{drafts_at}
use Rattle.ae_file_typing.specs.Inner.Walks.{Stand}
use Rattle.ae_file_typing.proofs.FileRules.{Goes}
use Rattle.ae_file_typing.proofs.declarations.declarations.Given as goal

abbrev pub invariant-loop-decl : goal.invariant-loop-decl
invariant-loop-decl l = record {
  text : l.context.text.now ≡ l.fn.context.text.now;
  locals : locals_of l.typing ≡ [];
  kept : Begins (nodes_of l.fn.typing) (nodes_of l.typing);
  stand : Stand (nodes_of l.typing) l.drafts;
  goes : Goes l.fn.context.text.now (decls_rule l.fn.context.text.now l.fn.context.known l.decls) (bound l.fn.typing.bindings) l.fn.typing.passing l.context.known (bound l.typing.bindings) l.typing.passing
      (drafts_at l.fn.context.text.now (nodes_of l.typing) l.drafts) (drop l.decl-index l.decls);
}

use Rattle.std.proofs.Common.{List, ◌∙◌, sym, subst}
use Rattle.std.specs.List.{AllByRecursion}
use Rattle.ae_elab.specs.Names.{IsName}
use Rattle.ae_syntax.specs.declared.spans.Span.{Span}
use Rattle.ae_fault_lines.proofs.TypePlaces.{types_named}
use Rattle.ae_fault_lines.proofs.lines.fault_text.Goals as goal

pub put_words-requires : goal.put_words-requires
put_words-requires c = record {
  names = subst (λ (xs : List Span). AllByRecursion (IsName c.args.text.now) xs) (sym (c.as_slice.ensures ∙ c.in_ok-types.ensures)) (types_named c.args.text.now c.args.file.now.decls c.requires.names);
}

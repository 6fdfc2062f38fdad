use Rattle.std.proofs.Common.{◌∙◌, Some, map, ap}
use Rattle.ae_declaration_typing.specs.Definitions.{with_defined}
use Rattle.ae_elab.specs.Typings.{bound_in}
use Rattle.ae_core.specs.declared.terms.Sort.{Sort}
use Rattle.ae_declaration_typing.proofs.definitions.declare_function.Goals as goal

pub returns : goal.returns
returns c =
    c.in_ok-declare.ensures ∙ ap (λ (s : Sort). with_defined c.args.text.now c.args.known.now c.args.name c.args.vars (map (bound_in c.args.text.now) c.args.bounds.now) (Some s)) c.in_ok-copy_sort.ensures

use Rattle.std.proofs.Common.{◌∙◌, [], ◌∷◌, ap}
use Rattle.ae_elab.specs.Environments.{meaning_in, entries, locals, locals_inside}
use Rattle.ae_elab.specs.Nodes.{entries_of}
use Rattle.ae_elab.specs.Scope.{named}
use Rattle.ae_elab.proofs.LocalLaws.{one_more}
use Rattle.ae_elab.proofs.environment.Environment.enter.Goals as goal

pub returns-clause-locals : goal.returns-clause-locals
returns-clause-locals c =
    let es = entries_of c.self.inside.nodes in
    ap (locals_inside es []) c.in_ok-push.ensures.ok ∙ one_more es [] c.self.inside.locals (record { name = c.args.name; meaning = c.args.meaning })
    ∙ ap (λ b. named c.args.name.now (meaning_in (entries b) c.args.meaning) ∷ locals b) c.self.view_is

use Rattle.std.proofs.Common.{ap, ◌∙◌}
use Rattle.std.specs.List.{list_any}
use Rattle.std.proofs.lemmas.Result.{IfOk-weaker}
use Rattle.ae_match.specs.Seen.{seen}
use Rattle.ae_finding.specs.Nodes.{is_named}
use Rattle.ae_matches.proofs.testing.own_passes.Goals as goal

pub returns : goal.returns
returns g c =
    IfOk-weaker c.any_root.result _ _
    (λ b e. e ∙ ap (λ u. list_any (λ m. is_named (seen c.args.store.now.signature c.args.store.now.nodes) (g.E.Equalities.alike c.args.equalities.now) c.args.below u m m) c.args.names.now) c.in_ok-put.ensures)
    c.any_root.ensures

use Rattle.std.proofs.Common.{sym, ap, ◌∙◌, subst}
use Rattle.std.specs.List.{flat_map}
use Rattle.std.proofs.lemmas.Result.{IfOk-weaker}
use Rattle.ae_finding.specs.Sites.{at_argument, HasNames}
use Rattle.ae_finding.proofs.SiteLaws.{names_had}
use Rattle.ae_finding.proofs.sites.names_at.Goals as goal

pub returns : goal.returns
returns g c =
    let alike = g.E.Equalities.alike c.args.equalities.now in
    IfOk-weaker c.names_with.result _ _
    (λ ns e.
    subst (HasNames c.args.store.now.nodes alike c.args.head c.args.either c.args.site) (sym (e ∙ ap (flat_map (at_argument c.args.known.now c.args.head c.args.either c.args.site.place)) c.as_slice.ensures))
    (names_had c.args.store.now.signature c.args.store.now.nodes c.len-names.ensures.store alike c.args.known.now c.requires.entered c.args.head c.args.either c.args.site c.in_ok-arguments.arguments c.in_ok-arguments.ensures.all))
    c.names_with.ensures

use Rattle.std.proofs.Common.{ap, ◌∙◌, subst, ℕ, Bool}
use Rattle.std.specs.List.{list_any}
use Rattle.std.proofs.lemmas.Result.{IfOk-weaker}
use Rattle.ae_match.specs.Seen.{seen}
use Rattle.ae_matching.specs.Generating.{is_ac}
use Rattle.ae_finding.specs.Nodes.{node_passes}
use Rattle.ae_finding.specs.Sites.{HasNames}
use Rattle.ae_matches.proofs.Sites.{passes_there}
use Rattle.ae_matches.proofs.testing.application_passes.Goals as goal

pub returns-in_ok-names-in-Some : goal.returns-in_ok-names-in-Some
returns-in_ok-names-in-Some g c =
    let alike = g.E.Equalities.alike c.args.equalities.now in
    let passes : ℕ → Bool = λ m. node_passes (seen c.args.store.now.signature c.args.store.now.nodes) alike c.args.below c.args.sorts.now c.args.values.now c.args.head c.args.put.now c.args.args.now m m in
    IfOk-weaker c.node_roots_pass-in-Some.result _ _
    (λ b e.
    e ∙ ap (list_any passes) c.as_slice.ensures
    ∙ passes_there c.args.store.now.signature c.args.store.now.nodes alike c.args.below c.args.known.now c.args.sorts.now c.args.values.now c.requires.entered c.args.head c.args.put.now c.args.args.now _ c.in-Some.site c.in-Some.ensures
    c.in_ok-names-in-Some.names
    (subst (λ b. HasNames c.args.store.now.nodes alike c.args.head b c.in-Some.site c.in_ok-names-in-Some.names) (c.is_ac-either.ensures ∙ ap (λ s. is_ac s c.args.head) c.requires.same) c.in_ok-names-in-Some.ensures))
    c.node_roots_pass-in-Some.ensures

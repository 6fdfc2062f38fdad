use Rattle.std.proofs.Common.{sym, ap, ◌∙◌, subst}
use Rattle.std.specs.List.{flat_map}
use Rattle.std.proofs.lemmas.Result.{IfOk-weaker}
use Rattle.ae_matching.specs.Laws.{In}
use Rattle.ae_match.specs.Seen.{seen}
use Rattle.ae_matching.specs.Generating.{is_ac, name_found}
use Rattle.ae_finding.specs.Sites.{IsSite, HasNames}
use Rattle.ae_matches.specs.Candidates.{node_root}
use Rattle.ae_matches.proofs.Sites.{roots_among}
use Rattle.ae_matches.proofs.candidates.application_roots.Goals as goal

pub returns-in-None : goal.returns-in-None
returns-in-None g c =
    let root = node_root (seen c.args.store.now.signature c.args.store.now.nodes) (g.E.Equalities.alike c.args.equalities.now) c.args.below c.args.known.now c.args.head c.args.sorts.now c.args.args.now c.args.bindings.now in
    IfOk-weaker c.node_roots.result _ _ (λ bs e new i. subst (λ l. In l new) (sym (e ∙ ap (flat_map root) c.with_head.ensures)) i) c.node_roots.ensures

pub returns-in_ok-names-in-Some : goal.returns-in_ok-names-in-Some
returns-in_ok-names-in-Some g c =
    let alike = g.E.Equalities.alike c.args.equalities.now in
    let root = node_root (seen c.args.store.now.signature c.args.store.now.nodes) alike c.args.below c.args.known.now c.args.head c.args.sorts.now c.args.args.now c.args.bindings.now in
    IfOk-weaker c.node_roots-in-Some.result _ _
    (λ bs e new i.
    subst (λ l. In l new) (sym (e ∙ ap (flat_map root) c.as_slice-in-Some.ensures))
    (roots_among c.args.store.now.signature c.args.store.now.nodes alike c.args.below c.args.known.now c.args.head c.args.sorts.now c.args.args.now c.args.bindings.now c.len.result c.in-Some.site
    (subst (λ l. IsSite (λ i. name_found i l) c.args.args.now c.len.result c.in-Some.site) c.as_slice.ensures c.in-Some.ensures) c.in_ok-names-in-Some.names
    (subst (λ b. HasNames c.args.store.now.nodes alike c.args.head b c.in-Some.site c.in_ok-names-in-Some.names) (c.is_ac-either.ensures ∙ ap (λ s. is_ac s c.args.head) c.requires.same) c.in_ok-names-in-Some.ensures) new i))
    c.node_roots-in-Some.ensures

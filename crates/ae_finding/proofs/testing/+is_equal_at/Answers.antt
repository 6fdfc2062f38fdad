use Rattle.std.proofs.Common.{refl, sym, ap, ◌∙◌, map, length}
use Rattle.std.specs.List.{list_any}
use Rattle.std.proofs.lemmas.Result.{IfOk-weaker}
use Rattle.std.proofs.lemmas.List.{length-map}
use Rattle.ae_rules.specs.Matches.{is_arithmetic}
use Rattle.ae_matching.specs.Testing.{test}
use Rattle.ae_match.specs.Seen.{seen}
use Rattle.ae_finding.specs.Nodes.{node_passes}
use Rattle.ae_finding.proofs.ClassNames.{class_passes}
use Rattle.ae_finding.proofs.TestRules.{test_lengths}
use Rattle.ae_finding.proofs.testing.+is_equal_at.Goals as goal

pub each_test-returns-then-args-names : goal.each_test-returns-then-args-names
each_test-returns-then-args-names g t c =
    let tst = test (seen c.args.store.now.signature c.args.store.now.nodes) (g.E.Equalities.alike c.args.equalities.now) c.args.below c.args.sorts.now c.args.values.now is_arithmetic in
    sym (test_lengths (map tst c.args.args.now) c.args.names.now (λ e. c.if-args-names.true (sym (length-map c.args.args.now tst) ∙ e)))

pub any_node-returns : goal.any_node-returns
any_node-returns g t c =
    let alike = g.E.Equalities.alike c.args.equalities.now in
    let nodes = c.args.store.now.nodes in
    IfOk-weaker c.any_at-2.result _ _
    (λ b e.
    e ∙ ap (list_any (node_passes (seen c.args.store.now.signature nodes) alike c.args.below c.args.sorts.now c.args.values.now c.args.head c.args.put.now c.args.args.now c.args.name)) c.as_slice.ensures
    ∙ class_passes alike c.args.name (length nodes) c.in_ok-names.names c.in_ok-names.ensures.all c.in_ok-names.ensures.rising c.args.store.now.signature nodes refl (λ l m x. g.met.E.Equalities.symmetric c.args.equalities.now l m x) c.args.below
    c.args.known.now c.requires.entered c.args.head c.args.sorts.now c.args.values.now c.args.put.now c.args.args.now)
    c.any_at-2.ensures

use Rattle.std.specs.Prelude.{ℕ, List, ◌++◌}
use Rattle.std.proofs.Common.{subst}
use Rattle.ae_multiset.specs.Multisets.{IsSame, minus}
use Rattle.ae_monoid.proofs.Deducing.{sum_after}
use Rattle.ae_monoid.proofs.overlapping.result.Goals as goal

pub returns-clause-names : goal.returns-clause-names
returns-clause-names c =
    sum_after c.in_ok-names.names.items c.args.rule.now.entry.right c.in_ok-rest.rest.items c.args.other.now.entry.left c.args.shared.now
    (subst (λ (l : List ℕ). IsSame c.in_ok-rest.rest.items (minus l c.args.shared.now)) c.as_slice.ensures c.in_ok-rest.ensures.names)
    (subst (λ (l : List ℕ). IsSame c.in_ok-names.names.items (l ++ c.in_ok-rest.rest.items)) c.as_slice-2.ensures
    (subst (λ (l : List ℕ). IsSame c.in_ok-names.names.items (c.as_slice-2.result.now ++ l)) c.deref.ensures.value c.in_ok-names.ensures.names))

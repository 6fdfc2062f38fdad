use Rattle.std.specs.Prelude.{ℕ, List, ◌++◌}
use Rattle.std.proofs.Common.{subst}
use Rattle.ae_multiset.specs.Multisets.{IsSame, minus}
use Rattle.ae_monoid.proofs.Reductions.{turned_by}
use Rattle.ae_monoid.proofs.reducing.turn.Goals as goal

pub returns-clause-turned : goal.returns-clause-turned
returns-clause-turned c =
    turned_by c.args.rule.now c.args.names.now c.in_ok-rest.rest.items c.in_ok-names.names.items c.requires.part
    (subst (λ (l : List ℕ). IsSame c.in_ok-rest.rest.items (minus c.args.names.now l)) c.as_slice.ensures c.in_ok-rest.ensures.names)
    (subst (λ (l : List ℕ). IsSame c.in_ok-names.names.items (l ++ c.in_ok-rest.rest.items)) c.as_slice-2.ensures
    (subst (λ (l : List ℕ). IsSame c.in_ok-names.names.items (c.as_slice-2.result.now ++ l)) c.deref.ensures.value c.in_ok-names.ensures.names))

use Rattle.std.specs.Prelude.{List, ◌≡◌, ◌++◌, map}
use Rattle.std.proofs.Common.{subst}
use Rattle.ae_monoid.specs.declared.pending.PendingPair.{PendingPair}
use Rattle.ae_equations.specs.Queued.{waiting, equation_of}
use Rattle.ae_equations.proofs.removing.stale_moved.Goals as goal

pub returns-clause-waiting : goal.returns-clause-waiting
returns-clause-waiting c =
    subst (λ (ps : List PendingPair). waiting c.push_each.new.queue ≡ waiting c.args.queue.now ++ map equation_of ps) c.as_slice.ensures c.in_ok-push_each.ensures.ok

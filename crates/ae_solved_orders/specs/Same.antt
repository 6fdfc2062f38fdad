-- Searches that differ in their journals alone.
use Rattle.std.specs.Prelude.{◌≡◌}
use Rattle.ae_kept_orders.specs.Searches.{Search}

pub record IsSameButJournal (old new : Search) : Type 0 where
  pub store : new.store ≡ old.store
  pub solver : new.solver ≡ old.solver
  pub lines : new.lines ≡ old.lines
  pub blocks : new.blocks ≡ old.blocks
  pub ages : new.ages ≡ old.ages
  pub known : new.known ≡ old.known
  pub looked : new.looked ≡ old.looked
  pub owners : new.owners ≡ old.owners
  pub instances : new.instances ≡ old.instances

-- What is held with more steps and more conflicts.
use Rattle.std.specs.Prelude.{◌≡◌}
use Rattle.ae_just.specs.Steps.{Fits}
use Rattle.ae_store.specs.Growing.{IsFront}
use Rattle.ae_store.specs.Stores.{Stored}
use Rattle.ae_theory.specs.Names.{terms_in}
use Rattle.ae_state.specs.declared.holding.Holding.{Holding}

-- steps and conflicts came behind those that were there, and nothing else changed; all steps fit the store
pub record HasGrown (s : Stored) (o new : Holding) : Type 0 where
  pub others : new ≡ record o { justs = new.justs; conflicts = new.conflicts }
  pub justs : IsFront o.justs new.justs
  pub conflicts : IsFront o.conflicts new.conflicts
  pub steps : Fits s.signature (terms_in s) new.justs

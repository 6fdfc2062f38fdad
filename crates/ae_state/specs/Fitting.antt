-- When a holding fits a store.
use Rattle.ae_store.specs.Stores.{Stored}
use Rattle.ae_state.specs.declared.holding.Holding.{Holding}
use Rattle.ae_state.specs.Right.{IsRight, HasTerms}

-- it is right, the store has its signature, and its names have in the store the terms that they have in it
pub record FitsStore (o : Holding) (s : Stored) : Type 0 where
  pub right : IsRight o
  pub terms : HasTerms o s

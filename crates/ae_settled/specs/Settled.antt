-- A state in which nothing is left to do.
use Rattle.std.specs.Prelude.{ℕ}
use Rattle.ae_core.specs.declared.terms.Sort.{Sort}
use Rattle.ae_journal.specs.Values.{Val}
use Rattle.ae_journal.specs.Systems.{Has, Represents}
use Rattle.ae_store.specs.Stores.{IsStore}
use Rattle.ae_settled.specs.Held.{Held, system_of}
use Rattle.ae_settled.specs.Valued.{AreValues}
use Rattle.ae_settled.specs.Ruled.{AreRulesOver}
use Rattle.ae_settled.specs.Swept.{IsSwept}

pub record IsSettled (x : Held) : Type 0 where
  pub store : IsStore x.signature x.nodes
  pub values : AreValues x.signature (system_of x)
  pub representatives : (s : Sort) (v : Val) (n : ℕ) → Has x.signature (system_of x) s v n → Represents x.signature (system_of x) s v (x.rep n)
  pub rules : AreRulesOver x.signature (system_of x) x.rules x.next
  pub swept : IsSwept x.signature x.nodes x.rep x.rules

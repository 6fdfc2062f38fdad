-- What functions promise that type the values of fields.
use Rattle.std.specs.Prelude.{Result, Ok, Err}
use Rattle.ae_elab.specs.declared.faults.TypeFault.{TypeFault}
use Rattle.ae_elab.specs.declared.typings.Context.{Context}
use Rattle.ae_elab.specs.declared.typings.Typing.{Typing}
use Rattle.ae_elab.specs.Nodes.{AreTrees}
use Rattle.ae_elab.specs.Rules.{Rule}
use Rattle.ae_elab.specs.Scope.{Scope}
use Rattle.ae_elab.specs.Terms.{Values}
use Rattle.ae_elab.specs.Trees.{Trees}
use Rattle.ae_elab.specs.Typings.{Walks, Stops, nodes_of}
use Rattle.ae_typing.specs.declared.record_steps.Values as code

pub record TypesValues (c : Context) (r : Scope → Rule Values) (old new : Typing) (v : code.Values) : Type 0 where
  pub terms : Trees
  pub stand : AreTrees (nodes_of new) v.trees terms
  pub walks : Walks c r old new (record { places = v.places; terms = terms })

abbrev pub ValuesAnswer : Context → (Scope → Rule Values) → Typing → Typing → Result code.Values TypeFault → Type 0
ValuesAnswer c r old new (Ok v) = TypesValues c r old new v
ValuesAnswer c r old new (Err e) = Stops c r old e

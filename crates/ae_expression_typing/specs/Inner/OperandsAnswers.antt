-- What functions promise that type two operands, or the arguments of a symbol.
use Rattle.std.specs.Prelude.{Result, Ok, Err}
use Rattle.ae_elab.specs.declared.faults.TypeFault.{TypeFault}
use Rattle.ae_expressions.specs.declared.symbol_steps.Applied as code
use Rattle.ae_elab.specs.declared.term_steps.Operands.{Operands}
use Rattle.ae_elab.specs.declared.typings.Context.{Context}
use Rattle.ae_elab.specs.declared.typings.Typing.{Typing}
use Rattle.ae_elab.specs.Nodes.{IsTree, AreTrees}
use Rattle.ae_elab.specs.Rules.{Rule, Typed, typed}
use Rattle.ae_elab.specs.Scope.{Scope}
use Rattle.ae_elab.specs.Terms.{Applied}
use Rattle.ae_elab.specs.Trees.{Tree, Trees}
use Rattle.ae_elab.specs.Typings.{Walks, Stops, nodes_of}

pub record TypesOperands (c : Context) (r : Scope → Rule (Typed × Tree)) (old new : Typing) (o : Operands) : Type 0 where
  pub left : Tree
  pub right : Tree
  pub left_stands : IsTree (nodes_of new) o.first left
  pub right_stands : IsTree (nodes_of new) o.second right
  pub walks : Walks c r old new (typed left o.sort, right)

abbrev pub OperandsAnswer : Context → (Scope → Rule (Typed × Tree)) → Typing → Typing → Result Operands TypeFault → Type 0
OperandsAnswer c r old new (Ok o) = TypesOperands c r old new o
OperandsAnswer c r old new (Err e) = Stops c r old e

pub record TypesApplied (c : Context) (r : Scope → Rule Applied) (old new : Typing) (a : code.Applied) : Type 0 where
  pub terms : Trees
  pub stand : AreTrees (nodes_of new) a.args terms
  pub walks : Walks c r old new (record { sorts = a.sorts; args = terms })

abbrev pub AppliedAnswer : Context → (Scope → Rule Applied) → Typing → Typing → Result code.Applied TypeFault → Type 0
AppliedAnswer c r old new (Ok a) = TypesApplied c r old new a
AppliedAnswer c r old new (Err e) = Stops c r old e

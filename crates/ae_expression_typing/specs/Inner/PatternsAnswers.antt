-- What functions promise that type triggers.
use Rattle.std.specs.Prelude.{List, [], ◌∷◌, ◌≡◌, Result, Ok, Err}
use Rattle.ae_elab.specs.declared.faults.TypeFault.{TypeFault}
use Rattle.ae_elab.specs.declared.nodes.Pattern.{Pattern}
use Rattle.ae_elab.specs.declared.typings.Context.{Context}
use Rattle.ae_elab.specs.declared.typings.Typing.{Typing}
use Rattle.ae_elab.specs.Nodes.{Entry, AreTrees}
use Rattle.ae_elab.specs.Rules.{Rule}
use Rattle.ae_elab.specs.Scope.{Scope}
use Rattle.ae_elab.specs.Trees.{Patterns, no_pattern, and_pattern}
use Rattle.ae_elab.specs.Typings.{Walks, Stops, nodes_of}

-- these triggers' terms stand among the entries
abbrev pub ArePatterns : List Entry → List Pattern → Patterns → Type 0
ArePatterns es [] no_pattern = Unit {0}
ArePatterns es (p ∷ ps) (and_pattern place us rest) = (p.place ≡ place) × AreTrees es p.terms us × ArePatterns es ps rest
ArePatterns es [] (and_pattern place us rest) = ⊥
ArePatterns es (p ∷ ps) no_pattern = ⊥

pub record TypesPatterns (c : Context) (r : Scope → Rule Patterns) (old new : Typing) (ps : List Pattern) : Type 0 where
  pub patterns : Patterns
  pub stand : ArePatterns (nodes_of new) ps patterns
  pub walks : Walks c r old new patterns

abbrev pub PatternsAnswer : Context → (Scope → Rule Patterns) → Typing → Typing → Result (List Pattern) TypeFault → Type 0
PatternsAnswer c r old new (Ok ps) = TypesPatterns c r old new ps
PatternsAnswer c r old new (Err e) = Stops c r old e

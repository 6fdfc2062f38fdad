-- What the typing of a declaration with terms promises.
use Rattle.std.specs.Prelude.{ℕ, List, [], ◌∷◌, ◌≡◌, Result, Ok, Err}
use Rattle.ae_core.specs.declared.problems.Signature.{Signature}
use Rattle.ae_types.specs.Bound.{bound}
use Rattle.ae_declaration_typing.specs.declared.drafts.Draft as code
use Rattle.ae_elab.specs.declared.faults.TypeFault.{TypeFault}
use Rattle.ae_elab.specs.declared.typings.Typing.{Typing}
use Rattle.ae_elab.specs.Declarations.{Draft, Declared}
use Rattle.ae_elab.specs.Nodes.{IsClaim}
use Rattle.ae_elab.specs.Rules.{Rule}
use Rattle.ae_elab.specs.Scope.{name_in}
use Rattle.ae_elab.specs.Steps.{IsWalked, IsStopped}
use Rattle.ae_elab.specs.Trees.{Claim}
use Rattle.ae_elab.specs.Typings.{Begins, nodes_of, locals_of}

-- an axiom or a goal, with its formula
abbrev pub draft_of : List ℕ → code.Draft → Claim → Draft
draft_of text d f = record { place = d.place; is_goal = d.is_goal; name = name_in text d.name; claim = f }

-- The declaration was typed by its rule. What is declared then is `sig`, and the axiom or goal that it gives has its formula
-- among the nodes. The nodes that were there stay, and no name is bound.
pub record TypesDraft (text : List ℕ) (r : Rule Declared) (sig : Signature) (old new : Typing) (d : code.Draft) : Type 0 where
  pub claim : Claim
  pub stands : IsClaim (nodes_of new) d.claim claim
  pub walked : IsWalked r (bound old.bindings) (bound new.bindings) old.passing new.passing (record { signature = sig; drafts = draft_of text d claim ∷ [] })
  pub locals : locals_of new ≡ []
  pub kept : Begins (nodes_of old) (nodes_of new)

abbrev pub DraftAnswer : List ℕ → Rule Declared → Signature → Typing → Typing → Result code.Draft TypeFault → Type 0
DraftAnswer text r sig old new (Ok d) = TypesDraft text r sig old new d
DraftAnswer text r sig old new (Err e) = IsStopped r (bound old.bindings) old.passing e

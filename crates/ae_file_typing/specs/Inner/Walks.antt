-- What the typing of declarations promises, part by part.
use Rattle.std.specs.Prelude.{ℕ, List, [], ◌≡◌, Option, option_to_list, Result, Ok, Err}
use Rattle.std.specs.List.{AllByRecursion}
use Rattle.ae_core.specs.declared.problems.Signature.{Signature}
use Rattle.ae_types.specs.Bound.{bound}
use Rattle.ae_declaration_typing.specs.declared.drafts.Draft as code
use Rattle.ae_elab.specs.declared.faults.TypeFault.{TypeFault}
use Rattle.ae_elab.specs.declared.typings.Typing.{Typing}
use Rattle.ae_elab.specs.Declarations.{Declared}
use Rattle.ae_elab.specs.Nodes.{Entry, IsClaim, claim_at}
use Rattle.ae_elab.specs.Rules.{Passed, Rule}
use Rattle.ae_elab.specs.Steps.{IsStopped, IsWalked}
use Rattle.ae_elab.specs.Typings.{Begins, locals_of, nodes_of}
use Rattle.ae_file_typing.specs.Files.{drafts_at}

-- a typing that goes on from other numbers
abbrev pub with_passing : Passed → Typing → Typing
with_passing q t = record { passing = q; bindings = t.bindings; environment = t.environment }

-- the formulas of axioms and goals stand among the nodes
abbrev pub Stand : List Entry → List code.Draft → Type 0
Stand es ds = AllByRecursion (λ d. IsClaim es d.claim (claim_at es d.claim)) ds

-- declarations were typed by their rule: what is declared then is `sig`, and they give these axioms and goals
pub record Declares (text : List ℕ) (r : Rule Declared) (sig : Signature) (old new : Typing) (ds : List code.Draft) : Type 0 where
  pub stand : Stand (nodes_of new) ds
  pub walked : IsWalked r (bound old.bindings) (bound new.bindings) old.passing new.passing (record { signature = sig; drafts = drafts_at text (nodes_of new) ds })
  pub locals : locals_of new ≡ []
  pub kept : Begins (nodes_of old) (nodes_of new)

abbrev pub DeclaresAnswer : List ℕ → Rule Declared → Signature → Typing → Typing → Result (Option code.Draft) TypeFault → Type 0
DeclaresAnswer text r sig old new (Ok o) = Declares text r sig old new (option_to_list o)
DeclaresAnswer text r sig old new (Err e) = IsStopped r (bound old.bindings) old.passing e

abbrev pub FileAnswer : List ℕ → Rule Declared → Signature → Typing → Typing → Result (List code.Draft) TypeFault → Type 0
FileAnswer text r sig old new (Ok ds) = Declares text r sig old new ds
FileAnswer text r sig old new (Err e) = IsStopped r (bound old.bindings) old.passing e

-- What the typing of a file answers.
use Rattle.std.specs.Prelude.{ℕ, List, map}
use Rattle.std.specs.List.{AllByRecursion}
use Rattle.ae_declaration_typing.specs.declared.drafts.Draft as code
use Rattle.ae_declaration_typing.specs.Drafts.{draft_of}
use Rattle.ae_elab.specs.declared.faults.TypeFault.{TypeFault}
use Rattle.ae_elab.specs.declared.faults.TypeFault.TheVariants as fault
use Rattle.ae_elab.specs.Conditions.{IsRefused}
use Rattle.ae_elab.specs.Declarations.{Draft, conditions_of}
use Rattle.ae_elab.specs.Names.{IsName, names_in_kind}
use Rattle.ae_elab.specs.Nodes.{Entry, claim_at}
use Rattle.ae_syntax.specs.declared.decls.Decl.{Decl}
use Rattle.ae_syntax.specs.declared.decls.File.{File}

-- axioms and goals, with their formulas among the nodes
abbrev pub drafts_at : List ℕ → List Entry → List code.Draft → List Draft
drafts_at text es ds = map (λ d. draft_of text d (claim_at es d.claim)) ds

-- the file has no typing, and this is what its first fault shows; want of memory says nothing
abbrev pub IsUntyped : List ℕ → File → TypeFault → Type 0
IsUntyped text file (fault.Memory e) = Unit {0}
IsUntyped text file e = IsRefused (conditions_of text file) e

-- the names of declarations are names of the text
abbrev pub AreNamedDecls : List ℕ → List Decl → Type 0
AreNamedDecls text ds = AllByRecursion (λ d. AllByRecursion (IsName text) (names_in_kind d.kind)) ds

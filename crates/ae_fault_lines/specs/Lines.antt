-- The line that says why a text whose tokens are a file has no problem.
use Rattle.std.specs.Prelude.{ℕ, List, [], ◌∷◌, ◌++◌, map, codes, Option, Some, None}
use Rattle.std.specs.List.{flat_map}
use Rattle.ae_core.specs.declared.terms.Sort.{Sort, Sort-F, fold-Sort}
use Rattle.ae_core.specs.declared.terms.Sort.TheOpen as sort_layer
use Rattle.ae_elab.specs.Scope.{name_in}
use Rattle.ae_elab.specs.declared.faults.TypeFault.{TypeFault}
use Rattle.ae_elab.specs.declared.faults.TypeFault.TheVariants as fault
use Rattle.ae_prooftext.specs.Texts.{sort_text_step}
use Rattle.ae_report.specs.Lines.{IsLineAt}
use Rattle.ae_syntax.specs.declared.decls.Decl.{Decl}
use Rattle.ae_syntax.specs.declared.decls.DeclKind.{DeclKind}
use Rattle.ae_syntax.specs.declared.decls.DeclKind.TheVariants as kind
use Rattle.ae_syntax.specs.declared.decls.File.{File}
use Rattle.ae_syntax.specs.declared.spans.Span.{Span}

-- ---- the names of a file's types, in their order: a type's number is its place here
abbrev pub type_place : DeclKind → List Span
type_place (kind.Type params n fields) = n ∷ []
type_place (kind.Enumeration n cs) = n ∷ []
type_place _ = []

abbrev pub type_places : List Decl → List Span
type_places ds = flat_map (λ d. type_place d.kind) ds

abbrev pub type_names : List ℕ → File → List (List ℕ)
type_names text file = map (name_in text) (type_places file.decls)

-- ---- a sort as it is shown: as proofs spell it, and `_` for what is undetermined
abbrev pub shown_step : List (List ℕ) → Sort-F (List ℕ) → List ℕ
shown_step types (sort_layer.Var n) = codes "_"
shown_step types s = sort_text_step types s

unfoldable pub shown_text : List (List ℕ) → Sort → List ℕ
shown_text types = fold-Sort (List ℕ) (shown_step types)

-- ---- the first byte of a fault's place; want of memory has none
abbrev pub fault_place : TypeFault → Option ℕ
fault_place (fault.UnknownName name from to) = Some from
fault_place (fault.Arity from to) = Some from
fault_place (fault.Mismatch left right from to) = Some from
fault_place (fault.Twice name from to) = Some from
fault_place (fault.NotProp from to) = Some from
fault_place (fault.PropInTerm from to) = Some from
fault_place (fault.BadAc from to) = Some from
fault_place (fault.MissingField from to) = Some from
fault_place (fault.SelfRecord from to) = Some from
fault_place (fault.BadTrigger from to) = Some from
fault_place (fault.TooLarge from to) = Some from
fault_place (fault.Memory error) = None

-- what the line says
abbrev pub fault_words : List (List ℕ) → TypeFault → List ℕ
fault_words types (fault.UnknownName name from to) = codes "unknown name " ++ name
fault_words types (fault.Arity from to) = codes "arity"
fault_words types (fault.Mismatch left right from to) = codes "mismatch " ++ shown_text types left ++ codes " " ++ shown_text types right
fault_words types (fault.Twice name from to) = codes "twice " ++ name
fault_words types (fault.NotProp from to) = codes "not a formula"
fault_words types (fault.PropInTerm from to) = codes "formula in a term"
fault_words types (fault.BadAc from to) = codes "bad ac"
fault_words types (fault.MissingField from to) = codes "missing field"
fault_words types (fault.SelfRecord from to) = codes "self record"
fault_words types (fault.BadTrigger from to) = codes "bad trigger"
fault_words types (fault.TooLarge from to) = codes "too large"
fault_words types (fault.Memory error) = codes "out of memory"

-- the line by which a text is refused that is this file's and has this fault
abbrev pub IsFaultLine : List ℕ → File → TypeFault → List ℕ → Type 0
IsFaultLine text file e bytes = IsLineAt text (fault_place e) (fault_words (type_names text file) e) bytes

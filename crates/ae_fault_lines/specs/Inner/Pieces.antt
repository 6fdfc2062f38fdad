-- What the writers of a fault's line put one after another.
use Rattle.std.specs.Prelude.{ℕ, List, ◌∷◌, ◌++◌, ◌≡◌, codes, Option, option_to_list}
use Rattle.std.specs.List.{flat_map}
use Rattle.ae_core.specs.declared.terms.Sort.{Sort}
use Rattle.ae_prooftext.specs.Texts.{get}
use Rattle.ae_syntax.specs.declared.decls.DeclKind.{DeclKind}
use Rattle.ae_syntax.specs.declared.spans.Span.{Span}
use Rattle.ae_fault_lines.specs.Lines.{type_place, shown_text}

-- the place of the name that a declaration gives to a type
abbrev pub place_in : DeclKind → Option Span → Type 0
place_in k o = type_place k ≡ option_to_list o

-- a blank before each sort
abbrev pub spaced_sorts : List (List ℕ) → List Sort → List ℕ
spaced_sorts types ss = flat_map (λ s. 32 ∷ shown_text types s) ss

-- a declared type with its arguments
abbrev pub compound_bytes : List (List ℕ) → ℕ → List Sort → List ℕ
compound_bytes types n ss = codes "(" ++ get types n ++ spaced_sorts types ss ++ codes ")"

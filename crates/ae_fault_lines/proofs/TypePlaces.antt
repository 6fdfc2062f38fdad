-- The places of the names of a file's types.
use Rattle.std.proofs.Common.{ℕ, List, [], ◌∷◌, map}
use Rattle.std.specs.List.{AllByRecursion}
use Rattle.ae_base.proofs.AllOf.{all_append, all_front, all_back}
use Rattle.ae_elab.specs.Names.{IsName, joined, names_in_kind}
use Rattle.ae_syntax.specs.declared.decls.Decl.{Decl}
use Rattle.ae_syntax.specs.declared.decls.DeclKind.{DeclKind}
use Rattle.ae_syntax.specs.declared.decls.DeclKind.TheVariants as kind
use Rattle.ae_syntax.specs.declared.spans.Span.{Span}
use Rattle.ae_fault_lines.specs.Lines.{type_place, type_places}

-- ---- they are names of the text
module _ (text : List ℕ) where
  abbrev Names : List Span → Type 0
  Names xs = AllByRecursion (IsName text) xs

  of_kind : (k : DeclKind) → Names (names_in_kind k) → Names (type_place k)
  of_kind (kind.Type ps n fs) a = ((all_back (IsName text) ps _ a).0, tt)
  of_kind (kind.Enumeration n cs) a = (a.0, tt)
  of_kind (kind.Logic ac ns ws r) a = tt
  of_kind (kind.Function n fs r b) a = tt
  of_kind (kind.Predicate n fs b) a = tt
  of_kind (kind.Axiom n b) a = tt
  of_kind (kind.Goal n b) a = tt

  pub types_named : (ds : List Decl) → Names (joined (map (λ d. names_in_kind d.kind) ds)) → Names (type_places ds)
  types_named [] a = tt
  types_named (d ∷ ds) a =
      all_append (IsName text) (type_place d.kind) (type_places ds) (of_kind d.kind (all_front (IsName text) (names_in_kind d.kind) _ a))
      (types_named ds (all_back (IsName text) (names_in_kind d.kind) _ a))

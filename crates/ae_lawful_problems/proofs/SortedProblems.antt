-- The formulas of a typed file are closed and well sorted.
use Rattle.std.proofs.Common.{◌≡◌, ℕ, Bool, true, false, List, [], length, sym, subst}
use Rattle.std.specs.List.{AllByRecursion}
use Rattle.ae_base.proofs.AllOf.{all_weaker, all_of_map}
use Rattle.ae_core.specs.Constants.{formula_constants}
use Rattle.ae_core.specs.declared.formulas.Formula.{Formula}
use Rattle.ae_core.specs.declared.problems.Item.{Item}
use Rattle.ae_core.specs.Signatures.{IsLawful}
use Rattle.ae_core.specs.Sorts.{formula_in}
use Rattle.ae_core.specs.declared.terms.Sort.{Sort}
use Rattle.ae_core.specs.declared.problems.Problem.{Problem}
use Rattle.ae_core.specs.declared.problems.Signature.{Signature}
use Rattle.ae_lex.specs.declared.kinds.Token.{Token}
use Rattle.ae_lex.specs.Lexis.{IsTokenized}
use Rattle.ae_syntax.specs.declared.decls.File.{File}
use Rattle.ae_syntax.specs.Files.{IsParsed}
use Rattle.ae_elab.specs.Declarations.{Draft, decls_rule, no_declarations, conditions_of, declared_by}
use Rattle.ae_elab.specs.Numbering.{sorts_in, variables_among_sorts, numbered, numbered_sort}
use Rattle.ae_elab.specs.Problems.{IsTyped, formula_of_draft, item_as, item_of}
use Rattle.ae_typed_laws.proofs.FileTrees.{file_made}
use Rattle.ae_typed_laws.proofs.MetConditions.{IsMetOne, met_each}
use Rattle.ae_typed_laws.proofs.ParsedTrees.{IsDeclaration}
use Rattle.ae_typed_laws.proofs.SignatureLaws.{sane_lawful}
use Rattle.ae_typed_laws.proofs.DeclaredSignatures.{file_sane}
use Rattle.ae_lawful_problems.proofs.SortedTrees.{fits, Fitting}
use Rattle.ae_lawful_problems.proofs.FittingTrees.{claim_right}
use Rattle.ae_lawful_problems.proofs.CleanSorts.{principal_fits}
use Rattle.ae_lawful_problems.proofs.NumberedProblems.{formula_numbered}
use Rattle.ae_lawful_problems.proofs.NoConstants.{changed_free, free_claim}
use Rattle.ae_lawful_problems.specs.SortedItems.{IsSortedItem}
use Rattle.ae_lawful_problems.proofs.TypedFiles.{Made, decls_make}

module _ (text : List ℕ) (tokens : List Token) (file : File) (p : Problem) (t : IsTokenized text tokens) (i : IsParsed tokens file) (h : IsTyped text file p) where
  abbrev F : Signature
  F = (declared_by text file).signature

  abbrev m : ℕ → Sort
  m = h.typing

  pub met : AllByRecursion (IsMetOne m) (conditions_of text file)
  met = met_each m (conditions_of text file) h.principal.typing

  pub trees : AllByRecursion (IsDeclaration text) file.decls
  trees = file_made text tokens file t i

  pub law : IsLawful F
  law = sane_lawful F (file_sane m text file trees met)

  made : Made F law m text (decls_rule text no_declarations file.decls) (record { next = 0; written = [] })
  made = (decls_make F law m text no_declarations file.decls (record { next = 0; written = [] }) trees).by met (record { types = λ k e g. g; symbols = λ k e g. g })

  known : (n : ℕ) → fits F (m n) ≡ true
  known = principal_fits F (conditions_of text file) m h.principal made.fit

  sorted_here : AllByRecursion (λ (d : Draft). formula_in F (fits F) [] (formula_of_draft m d) ≡ true) (declared_by text file).drafts
  sorted_here =
      all_weaker (λ (d : Draft). Fitting F m [] d.claim) (λ (d : Draft). formula_in F (fits F) [] (formula_of_draft m d) ≡ true) (λ d f. claim_right F m known f) (declared_by text file).drafts made.drafts

-- a formula that is well sorted with any type variables is an item that is
item_sorted : (F : Signature) (law : IsLawful F) (g : Bool) (name : List ℕ) (f : Formula) → formula_in F (fits F) [] f ≡ true → formula_constants f ≡ []
    → IsSortedItem F (item_as g name (length (variables_among_sorts (sorts_in f))) (numbered g (variables_among_sorts (sorts_in f)) f))
item_sorted F law true name f h c = (formula_numbered F law true f h, changed_free (numbered_sort true (variables_among_sorts (sorts_in f))) f c)
item_sorted F law false name f h c = (formula_numbered F law false f h, changed_free (numbered_sort false (variables_among_sorts (sorts_in f))) f c)

pub items_sorted : (text : List ℕ) (tokens : List Token) (file : File) (p : Problem) → IsTokenized text tokens → IsParsed tokens file → IsTyped text file p → AllByRecursion (IsSortedItem p.signature) p.items
items_sorted text tokens file p t i h =
    let sig = (declared_by text file).signature in
    let m = h.typing in
    let ds = (declared_by text file).drafts in
    let each = all_weaker (λ (d : Draft). formula_in sig (fits sig) [] (formula_of_draft m d) ≡ true) (λ (d : Draft). IsSortedItem sig (item_of m d))
    (λ d e. item_sorted sig (law text tokens file p t i h) d.is_goal d.name (formula_of_draft m d) e (free_claim m [] d.claim)) ds (sorted_here text tokens file p t i h) in
    subst (λ (s : Signature). AllByRecursion (IsSortedItem s) p.items) (sym h.signature)
    (subst (λ (xs : List Item). AllByRecursion (IsSortedItem sig) xs) (sym h.items) (all_of_map (IsSortedItem sig) (item_of m) ds each))

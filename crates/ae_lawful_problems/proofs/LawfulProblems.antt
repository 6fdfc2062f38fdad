-- The problem of a typed file is lawful.
use Rattle.std.proofs.Common.{ℕ, Bool, true, false, List, [], sym, subst}
use Rattle.std.specs.List.{AllByRecursion}
use Rattle.ae_base.proofs.AllOf.{all_weaker, all_both, all_of_map}
use Rattle.ae_core.specs.Signatures.{IsLawful, IsLawfulItem, IsLawfulProblem}
use Rattle.ae_core.specs.declared.terms.Sort.{Sort}
use Rattle.ae_core.specs.declared.formulas.Formula.{Formula}
use Rattle.ae_core.specs.declared.problems.Item.{Item}
use Rattle.ae_core.specs.declared.problems.Item.TheVariants.{Axiom, Goal}
use Rattle.ae_core.specs.declared.problems.Problem.{Problem}
use Rattle.ae_core.specs.declared.problems.Signature.{Signature}
use Rattle.ae_lex.specs.declared.kinds.Token.{Token}
use Rattle.ae_lex.specs.Lexis.{IsTokenized}
use Rattle.ae_syntax.specs.declared.decls.File.{File}
use Rattle.ae_syntax.specs.Files.{IsParsed}
use Rattle.ae_elab.specs.Declarations.{Draft, no_declarations, declared_by}
use Rattle.ae_elab.specs.Numbering.{sorts_in, variables_among_sorts, numbered, numbered_sort}
use Rattle.ae_elab.specs.Problems.{IsTyped, formula_of_draft, item_as, item_of}
use Rattle.ae_lawful_problems.specs.SortedItems.{IsSortedItem}
use Rattle.ae_lawful_problems.proofs.SortedProblems.{met, trees, law, items_sorted}
use Rattle.ae_lawful_problems.proofs.CoveredFiles.{DraftAlone, drafts_alone}
use Rattle.ae_lawful_problems.proofs.FormulaTriggers.{MayStand, stands_changed}
use Rattle.ae_lawful_problems.proofs.TriggerFormulas.{formula_stands}

-- its triggers may stand
abbrev ItemStands : Item → Type 0
ItemStands (Axiom name vars f) = MayStand f
ItemStands (Goal name rigid f) = MayStand f

as_item : (g : Bool) (name : List ℕ) (n : ℕ) (f : Formula) → MayStand f → ItemStands (item_as g name n f)
as_item true name n f h = h
as_item false name n f h = h

draft_stands : (m : ℕ → Sort) (text : List ℕ) (d : Draft) → DraftAlone m text d → ItemStands (item_of m d)
draft_stands m text d h =
    let f = formula_of_draft m d in
    let vs = variables_among_sorts (sorts_in f) in
    as_item d.is_goal d.name _ (numbered d.is_goal vs f) (stands_changed (numbered_sort d.is_goal vs) f (formula_stands m d.claim h))

lawful_item : (sig : Signature) (i : Item) → IsSortedItem sig i → ItemStands i → IsLawfulItem sig i
lawful_item sig (Axiom name vars f) h k = (h.0, k, h.1)
lawful_item sig (Goal name rigid f) h k = (h.0, k, h.1)

module _ (text : List ℕ) (tokens : List Token) (file : File) (p : Problem) (t : IsTokenized text tokens) (i : IsParsed tokens file) (h : IsTyped text file p) where
  items_stand : AllByRecursion ItemStands p.items
  items_stand =
      let m = h.typing in
      let ds = (declared_by text file).drafts in
      let alone = (drafts_alone m text no_declarations file.decls (record { next = 0; written = [] }) (trees text tokens file p t i h)).by (met text tokens file p t i h) in
      subst (AllByRecursion ItemStands) (sym h.items)
      (all_of_map ItemStands (item_of m) ds (all_weaker (DraftAlone m text) (λ (d : Draft). ItemStands (item_of m d)) (draft_stands m text) ds alone))

  pub problem_lawful : IsLawfulProblem p
  problem_lawful = record {
    signature = subst IsLawful (sym h.signature) (law text tokens file p t i h);
    items = all_both (IsSortedItem p.signature) ItemStands (IsLawfulItem p.signature) (lawful_item p.signature) p.items (items_sorted text tokens file p t i h) items_stand;
  }

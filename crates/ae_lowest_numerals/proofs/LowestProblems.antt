-- The problem of a typed file has numerals in lowest terms.
use Rattle.std.specs.Prelude.{ℕ, Bool, true, false, List, []}
use Rattle.std.specs.List.{AllByRecursion}
use Rattle.std.proofs.Common.{sym, subst}
use Rattle.ae_base.proofs.AllOf.{all_at, all_weaker, all_of_map}
use Rattle.ae_core.specs.declared.formulas.Formula.{Formula}
use Rattle.ae_core.specs.declared.problems.Item.{Item}
use Rattle.ae_core.specs.declared.problems.Problem.{Problem}
use Rattle.ae_core.specs.declared.terms.Sort.{Sort}
use Rattle.ae_lex.specs.declared.kinds.Token.{Token}
use Rattle.ae_lex.specs.Lexis.{IsTokenized}
use Rattle.ae_syntax.specs.declared.decls.File.{File}
use Rattle.ae_syntax.specs.Files.{IsParsed}
use Rattle.ae_elab.specs.Declarations.{Draft, declared_by, no_declarations}
use Rattle.ae_elab.specs.Numbering.{sorts_in, variables_among_sorts, numbered, numbered_sort}
use Rattle.ae_elab.specs.Problems.{IsTyped, formula_of_draft, item_as, item_of}
use Rattle.ae_legal_texts.specs.Numbers.{formula_numbers}
use Rattle.ae_writable.specs.Numbers.{AreValuesWithin, formula_of, HasLowestNumerals}
use Rattle.ae_lowest_numerals.proofs.LowestFiles.{file_lowest}
use Rattle.ae_lowest_numerals.proofs.LowestDeclarations.{LowestDraft, drafts_lowest}
use Rattle.ae_lowest_numerals.proofs.LowestElaborations.{claim_values}

abbrev LowestItem : Item → Type 0
LowestItem i = AreValuesWithin (formula_numbers (formula_of i))

as_item : (g : Bool) (name : List ℕ) (n : ℕ) (f : Formula) → AreValuesWithin (formula_numbers f) → LowestItem (item_as g name n f)
as_item true name n f h = h
as_item false name n f h = h

draft_lowest : (m : ℕ → Sort) (d : Draft) → LowestDraft d → LowestItem (item_of m d)
draft_lowest m d h =
    let f = formula_of_draft m d in
    let vs = variables_among_sorts (sorts_in f) in
    as_item d.is_goal d.name _ (numbered d.is_goal vs f) (claim_values m [] d.claim h (numbered_sort d.is_goal vs))

pub problem_lowest : (text : List ℕ) (tokens : List Token) (file : File) (p : Problem) → IsTokenized text tokens → IsParsed tokens file → IsTyped text file p → HasLowestNumerals p
problem_lowest text tokens file p t i h k item e =
    let ds = (declared_by text file).drafts in
    let all = drafts_lowest text no_declarations file.decls (file_lowest text tokens file t i) (record { next = 0; written = [] }) in
    all_at LowestItem p.items k item
    (subst (AllByRecursion LowestItem) (sym h.items)
    (all_of_map LowestItem (item_of h.typing) ds (all_weaker LowestDraft (λ d. LowestItem (item_of h.typing d)) (draft_lowest h.typing) ds all))) e

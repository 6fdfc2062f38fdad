-- The grammar of the texts over a signature, as codes: which values have a text, their texts, and what reading gives. The byte that
-- closes a sort, a term or a formula belongs to its text here, so that no text is the beginning of another; `k` says which two bytes may close it.
use Rattle.std.specs.Prelude.{Bool, List, Some}
use Rattle.ae_codes.specs.Closers.{Close}
use Rattle.ae_core.specs.Sorts.{sort_in, same_known, is_closed_sort}
use Rattle.ae_core.specs.declared.problems.Signature.{Signature}
use Rattle.ae_core.specs.declared.terms.Sort.{Sort, Real}
use Rattle.ae_core.specs.declared.terms.Term.{Term}
use Rattle.ae_core.specs.declared.formulas.Lit.{Lit}
use Rattle.ae_core.specs.declared.proofs.Block.{Block}
use Rattle.ae_codes.specs.Codes.{Code}
use Rattle.ae_prooftext.specs.SortTexts.{SortEnd, sort, some_type}
use Rattle.ae_prooftext.specs.TermTexts.{TermEnd, term}
use Rattle.ae_prooftext.specs.FormulaTexts.{FormulaEnd}
use Rattle.ae_prooftext.specs.Formulas.{formula}
use Rattle.ae_prooftext.specs.Clauses.{literals}
use Rattle.ae_prooftext.specs.Proofs.{block}
use Rattle.ae_prooftext.specs.ProofTexts as proofs
use Rattle.ae_prooftext.specs.declared.proofs.ProofText.{ProofText}
use Rattle.ae_prooftext.specs.Words.{type_names}

-- under variables of the sorts env, the term is of sort `real`: a sign before it is then the operation on `real`
abbrev pub is_real : Signature → List Sort → Term → Bool
is_real sig env t = same_known (sort_in sig (is_closed_sort sig) env t) (Some Real)

module _ (sig : Signature) where
  abbrev pub sort_code : Close → Code SortEnd
  sort_code = sort (type_names sig) (some_type (type_names sig))

  abbrev pub term_code : List Sort → Close → Code TermEnd
  term_code env = term sig (is_real sig env)

  abbrev pub formula_code : List Sort → Close → Code FormulaEnd
  formula_code = formula sig (is_real sig)

  -- the literals of a clause behind its `[`, with the closing `]`
  abbrev pub clause_code : Code (List Lit)
  clause_code = literals sig (is_real sig)

  -- the lines of a block behind its line `block`
  abbrev pub block_code : Code Block
  block_code = block sig (is_real sig)

  -- a whole proof text, of either version
  abbrev pub proof_code : Code ProofText
  proof_code = proofs.proof_code sig (is_real sig)

-- The laws that the clauses of laws.rt name.
use Rattle.std.specs.Prelude.{ℕ, ◌≡◌, true, not, List, [], ◌∷◌}
use Rattle.std.specs.List.{flat_map}
use Rattle.std.proofs.Common.{refl, sym, ap, ◌∙◌, inl}
use Rattle.std.proofs.lemmas.Bool.{and_parts}
use Rattle.ae_base.specs.Options.{known}
use Rattle.ae_codes.specs.Codes.{got, reads_text}
use Rattle.ae_core.specs.Signatures.{IsLawful}
use Rattle.ae_core.specs.Sorts.{is_closed_sort, sort_in, trigger_ok, formula_in, formula_ok}
use Rattle.ae_rules.specs.Derivations.{clause_ok, Derives}
use Rattle.ae_core.specs.declared.problems.Signature.{Signature}
use Rattle.ae_core.specs.declared.terms.Sort.{Sort}
use Rattle.ae_core.specs.declared.terms.Term.{Term}
use Rattle.ae_core.specs.declared.formulas.Formula.{Formula, out-Formula}
use Rattle.ae_core.specs.declared.problems.Problem.{Problem}
use Rattle.ae_core.specs.declared.proofs.EqLine.{EqLine}
use Rattle.ae_core.specs.declared.proofs.ClauseLine.{ClauseLine}
use Rattle.ae_prooftext.specs.Clauses.{literal}
use Rattle.ae_prooftext.specs.Proofs.{derived_line, line_code}
use Rattle.ae_core.specs.declared.formulas.Lit.{Lit}
use Rattle.ae_core.specs.declared.proofs.Block.{Block as BlockOf}
use Rattle.ae_core.specs.declared.proofs.ClauseLine.TheVariants.{Block}
use Rattle.ae_prooftext.specs.declared.proofs.ProofText.{ProofText}
use Rattle.ae_prooftext.specs.Grammar.{is_real, sort_code, term_code, formula_code, clause_code, block_code, proof_code}
use Rattle.ae_prooftext.specs.ProofTexts.{proof_spelled}
use Rattle.ae_prooftext.specs.Texts.{proof_text}
use Rattle.ae_legal_texts.specs.Numbers.{AreWithin, sort_numbers, term_numbers, formula_numbers, literal_numbers, derived_numbers, block_numbers, line_numbers}
use Rattle.ae_legal_texts.specs.Writable.{is_negation, no_negations, derived_sorted, line_sorted, no_negations_in, IsWithinLimits, IsWritable, HasText}
use Rattle.ae_legal_texts.proofs.Closing.{names_apart}
use Rattle.ae_legal_texts.proofs.Sorts.{sorts_have}
use Rattle.ae_legal_texts.proofs.Terms.{terms_have, trigger_terms_have}
use Rattle.ae_legal_texts.proofs.Formulas.{formula_fits, formulas_have}
use Rattle.ae_legal_texts.proofs.Lines.{literal_has, clause_has, derived_has, block_has, line_has, proof_has}
use Rattle.ae_legal_texts.proofs.Allowed.{derivation_sorted}

module _ (sig : Signature) (lawful : IsLawful sig) where
  pub sorts_legal : (s : Sort) → is_closed_sort sig s ≡ true → AreWithin (sort_numbers s) → HasText (sort_code sig) s
  sorts_legal s o w k p e c = sorts_have sig lawful s o w k (names_apart k p) e c

  pub terms_legal : (env : List Sort) (t : Term) → known (sort_in sig (is_closed_sort sig) env t) ≡ true → AreWithin (term_numbers t) → HasText (term_code sig env) t
  terms_legal env t o w k p e c = terms_have sig lawful env t o w k p e c

  pub trigger_terms_legal : (env : List Sort) (t : Term) → trigger_ok sig (is_closed_sort sig) env t ≡ true → AreWithin (term_numbers t) → HasText (term_code sig env) t
  trigger_terms_legal env t o w k p e c = trigger_terms_have sig lawful env t o w k p e c

  pub formulas_legal : (env : List Sort) (f : Formula) → formula_in sig (is_closed_sort sig) env f ≡ true → AreWithin (formula_numbers f) → HasText (formula_code sig env) f
  formulas_legal env f o w k p e c = formula_fits sig env k (f, e) (formulas_have sig lawful f env o w true refl k p e c)

  pub literals_legal : (x : Lit) → formula_ok sig x.formula ≡ true → no_negations (x ∷ []) ≡ true → AreWithin (literal_numbers x) → HasText (literal sig (is_real sig)) x
  literals_legal x o n w k p e c = literal_has sig lawful x o (and_parts (not (is_negation (out-Formula x.formula))) true n).0 w k p e c

  pub clauses_legal : (c : List Lit) → clause_ok sig c ≡ true → no_negations c ≡ true → AreWithin (flat_map literal_numbers c) → (clause_code sig).Fits c
  clauses_legal c o n w = clause_has sig lawful c o n w

  pub derived_lines_legal : (l : EqLine) → derived_sorted sig l ≡ true → AreWithin (derived_numbers l) → (derived_line sig (is_real sig)).Fits l
  derived_lines_legal l o w = derived_has sig lawful l o w

  pub blocks_legal : (b : BlockOf) → line_sorted sig (Block b) ≡ true → no_negations_in (Block b) ≡ true → AreWithin (block_numbers b) → (block_code sig).Fits b
  blocks_legal b o n w = block_has sig lawful b o n w

  pub clause_lines_legal : (l : ClauseLine) → line_sorted sig l ≡ true → no_negations_in l ≡ true → AreWithin (line_numbers l) → (line_code sig (is_real sig)).Fits (inl l)
  clause_lines_legal l o n w = line_has sig lawful l o n w

  pub proofs_legal : (p : ProofText) → IsWritable sig p → (proof_code sig).Fits p
  proofs_legal p h = proof_has sig lawful p h

  pub proofs_read_back : (p : ProofText) → IsWritable sig p → (proof_code sig).read (proof_text sig p) ≡ got p []
  proofs_read_back p h = let f = proof_has sig lawful p h in ap (proof_code sig).read (sym (proof_spelled sig (is_real sig) p f)) ∙ reads_text (proof_code sig) p f

-- a derivation within the limits
pub derivations_legal : (p : Problem) (g : ℕ) (t : ProofText) → IsLawful p.signature → Derives p g t.proof → IsWithinLimits t → (proof_code p.signature).Fits t
derivations_legal p g t lawful d l = proof_has p.signature lawful t (record { sorted = derivation_sorted p g t.proof d; limits = l })

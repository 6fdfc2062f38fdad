-- A line of a journal has a text where its literals are closed, well sorted and no negations, its terms and sorts are closed and well sorted, its forms are in the
-- normal form, its symbol is AC and has the sorts that it takes, and its numbers are within their limits.
use Rattle.std.specs.Prelude.{ℕ, ◌≡◌, true, false, not, List, [], ◌∷◌, ◌++◌}
use Rattle.std.specs.List.{flat_map, list_all}
use Rattle.std.proofs.Common.{refl, inl, inr}
use Rattle.std.proofs.lemmas.Bool.{and_from}
use Rattle.ae_codes.specs.Closers.{by_blank, by_line}
use Rattle.ae_codes.specs.Codes.{both, mapped, words}
use Rattle.ae_codes.specs.Rows.{alone, empty}
use Rattle.ae_codes.specs.Tables.{table, tagged}
use Rattle.ae_core.specs.Signatures.{IsLawful}
use Rattle.ae_core.specs.Sorts.{is_closed_sort, formula_ok, term_ok}
use Rattle.ae_core.specs.declared.formulas.Formula.{Formula, out-Formula}
use Rattle.ae_core.specs.declared.formulas.Lit.{Lit}
use Rattle.ae_core.specs.declared.problems.AcSymbol.{AcSymbol}
use Rattle.ae_core.specs.declared.problems.Signature.{Signature}
use Rattle.ae_core.specs.declared.proofs.ClauseLine.TheVariants.{Inst}
use Rattle.ae_core.specs.declared.terms.Term.{Term}
use Rattle.ae_journal.specs.Systems.{IsNormalValue}
use Rattle.ae_journal.specs.declared.lines.Line.{Line}
use Rattle.ae_journal.specs.declared.lines.Line.TheVariants as line
use Rattle.ae_journal.specs.declared.lines.Oriented.TheVariants as oriented
use Rattle.ae_legal_states.proofs.Symbols.{symbols_fit}
use Rattle.ae_legal_states.specs.Writable.{HasSorts}
use Rattle.ae_legal_texts.proofs.Closing.{line_parts}
use Rattle.ae_legal_texts.proofs.Legal.{literals_legal, clauses_legal, clause_lines_legal}
use Rattle.ae_legal_texts.proofs.Lines.{sorts_has}
use Rattle.ae_legal_texts.proofs.Rules.{blank_count, line_count}
use Rattle.ae_legal_texts.specs.Numbers.{AreWithin, formula_numbers, literal_numbers, term_numbers}
use Rattle.ae_legal_texts.specs.Writable.{is_negation, no_negations}
use Rattle.ae_num.specs.Forms.{IsNormal}
use Rattle.ae_num.specs.declared.forms.Value.{Value}
use Rattle.ae_prooftext.specs.Grammar.{is_real, formula_code}
use Rattle.ae_prooftext.specs.Parts.{terms}
use Rattle.ae_prooftext.specs.Proofs as proofs
use Rattle.ae_rules.specs.Derivations.{clause_ok}
use Rattle.ae_rules.specs.Lines.{IsAc}
use Rattle.ae_stategrammar.proofs.MultisetLaws.{sides_fit}
use Rattle.ae_stategrammar.proofs.ValueFits.{normal_values_fit}
use Rattle.ae_stategrammar.specs.Fitting.{Rises, names_in}
use Rattle.ae_stategrammar.specs.Journals.{line_code, solved}
use Rattle.ae_stategrammar.specs.Sections.{fits_ended}
use Rattle.ae_stategrammar.specs.Sides.{sides}
use Rattle.ae_stategrammar.specs.States.{lit_closed, lit_in_line, value_closed, value_in_line}
use Rattle.ae_valuetext.proofs.TextLaws.{normal_forms_fit}
use Rattle.ae_valuetext.specs.Texts.{AreNames}
use Rattle.ae_legal_stories.specs.Writable.{AreFormNames, IsLineWithin}

module _ (sig : Signature) where
  abbrev pub IsSymbolFit : AcSymbol → Type 0
  IsSymbolFit u = IsAc sig u.head × HasSorts sig u

  -- what a legal line gives
  abbrev pub IsSound : Line → Type 0
  IsSound (line.Decide l) = (formula_ok sig l.formula ≡ true) × (not (is_negation (out-Formula l.formula)) ≡ true)
  IsSound (line.Orient (oriented.Named n v)) = IsNormalValue v
  IsSound (line.Orient (oriented.Rule u l r)) = IsSymbolFit u
  IsSound (line.Drop (oriented.Named n v)) = ⊥
  IsSound (line.Drop (oriented.Rule u l r)) = IsSymbolFit u
  IsSound (line.Pair u l m) = IsSymbolFit u
  IsSound (line.Learn c) = (clause_ok sig c ≡ true) × (no_negations c ≡ true)
  IsSound (line.TypeInstance k ss) = list_all (is_closed_sort sig) ss ≡ true
  IsSound (line.TermInstance f ts) = (formula_ok sig f ≡ true) × (list_all (term_ok sig) ts ≡ true)
  IsSound (line.Combine strict f) = IsNormal f × AreFormNames f
  IsSound (line.Back n) = Unit {0}

module _ (sig : Signature) (lawful : IsLawful sig) where
  -- ---- what stands behind the words
  literal_fits : (l : Lit) → formula_ok sig l.formula ≡ true → not (is_negation (out-Formula l.formula)) ≡ true → AreWithin (literal_numbers l) → (lit_in_line sig).Fits l
  unfolding lit_in_line by_line
  literal_fits l o d w = fits_ended _ 10 (lit_closed sig) l (literals_legal sig lawful l o (and_from _ true d refl) w by_line line_parts 10 refl)

  value_fits : (v : Value) → IsNormalValue v → AreNames (names_in v) → value_in_line.Fits v
  unfolding value_in_line by_line
  value_fits v n a = fits_ended _ 10 value_closed v (normal_values_fit v n a by_line 10 refl)

  solved_fits : (n : ℕ) (v : Value) → IsNormalValue v → AreNames (n ∷ names_in v) → solved.Fits ((n, 32), v)
  unfolding both
  solved_fits n v h a = (blank_count n a.0, value_fits v h a.1)

  rule_fits : (u : AcSymbol) (l r : List ℕ) → IsSymbolFit sig u → Rises 0 l × Rises 0 r → (sides sig).Fits (u, (l, r))
  rule_fits u l r s w = sides_fit sig u l r (symbols_fit sig lawful u s.0 s.1) w.0 w.1

  -- the formula and the terms of an instance stand as in a proof
  instance_fits : (f : Formula) (ts : List Term) → formula_ok sig f ≡ true → list_all (term_ok sig) ts ≡ true → AreWithin (formula_numbers f ++ flat_map term_numbers ts)
      → (formula_code sig [] by_blank).Fits (f, 32) × (terms sig (is_real sig)).Fits ts
  unfolding proofs.line_code tagged mapped both table words alone empty
  instance_fits f ts o q w =
      let h = clause_lines_legal sig lawful (Inst f ts) (and_from (formula_ok sig f) (list_all (term_ok sig) ts) o q) refl w in
      (h.0.1.0.0, h.0.1.0.1.1.0)

  -- ---- lines
  pub line_fits : (j : Line) → IsSound sig j → IsLineWithin j → (line_code sig).Fits (inl j)
  unfolding line_code tagged mapped both table words alone empty
  line_fits (line.Decide l) s w = ((inl refl, (literal_fits l s.0 s.1 w, refl)), refl)
  line_fits (line.Orient (oriented.Named n v)) s w = ((inr (inl refl), (solved_fits n v s w, refl)), refl)
  line_fits (line.Orient (oriented.Rule u l r)) s w = ((inr (inr (inl refl)), (rule_fits u l r s w, refl)), refl)
  line_fits (line.Drop (oriented.Named n v)) s w = absurd s
  line_fits (line.Drop (oriented.Rule u l r)) s w = ((inr (inr (inr (inr (inl refl)))), (rule_fits u l r s w, refl)), refl)
  line_fits (line.Pair u l m) s w = ((inr (inr (inr (inr (inr (inl refl))))), (rule_fits u l m s w, refl)), refl)
  line_fits (line.Learn c) s w = ((inr (inr (inr (inr (inr (inr (inl refl)))))), ((clauses_legal sig lawful c s.0 s.1 w, refl), refl)), refl)
  line_fits (line.TypeInstance k ss) s w =
      ((inr (inr (inr (inr (inr (inr (inr (inl refl))))))), ((blank_count k w.0, (refl, (sorts_has sig lawful ss s w.1, refl))), refl)), refl)
  line_fits (line.TermInstance f ts) s w =
      let h = instance_fits f ts s.0 s.1 w in
      ((inr (inr (inr (inr (inr (inr (inr (inr (inl refl)))))))), ((h.0, (refl, (h.1, refl))), refl)), refl)
  line_fits (line.Combine false f) s w = ((inr (inr (inr (inr (inr (inr (inr (inr (inr (inl refl))))))))), ((normal_forms_fit f s.0 s.1, refl), refl)), refl)
  line_fits (line.Combine true f) s w = ((inr (inr (inr (inr (inr (inr (inr (inr (inr (inr (inl refl)))))))))), ((normal_forms_fit f s.0 s.1, refl), refl)), refl)
  line_fits (line.Back n) s w = ((inr (inr (inr (inr (inr (inr (inr (inr (inr (inr (inr (inl refl))))))))))), (line_count n w.0, refl)), refl)

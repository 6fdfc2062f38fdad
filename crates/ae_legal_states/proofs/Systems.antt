-- A state of a completed system has a text.
use Rattle.std.specs.Prelude.{◌≡◌, ◌≤◌, ◌⊎◌, ◌^◌, true, not, List, [], ◌∷◌, Some}
use Rattle.std.specs.List.{AllByRecursion}
use Rattle.std.proofs.Common.{refl, sym, ap, ◌∙◌, subst, inl, inr}
use Rattle.std.proofs.lemmas.Bool.{and_parts, and_from, or_right}
use Rattle.ae_base.specs.Options.{known}
use Rattle.ae_base.proofs.AllOf.{all_at, all_from_places}
use Rattle.ae_codes.specs.Closers.{by_line}
use Rattle.ae_codes.specs.Codes.{got, reads_text}
use Rattle.ae_core.specs.Signatures.{IsLawful}
use Rattle.ae_core.specs.Sorts.{is_closed_sort, sort_in, sort_of, trigger_ok, applied_ok, formula_ok}
use Rattle.ae_core.proofs.SortLaws.{formula_in_pred}
use Rattle.ae_core.specs.declared.formulas.Formula.{out-Formula}
use Rattle.ae_core.specs.declared.formulas.Lit.{Lit}
use Rattle.ae_core.specs.declared.problems.Signature.{Signature}
use Rattle.ae_core.specs.declared.terms.Head.TheVariants as head
use Rattle.ae_core.specs.declared.terms.Sort.{Sort}
use Rattle.ae_core.specs.declared.terms.Term.{Term, Apply}
use Rattle.ae_core.specs.declared.terms.Term.TheVariants.{outs-Apply}
use Rattle.ae_journal.specs.Systems.{IsCompleted, IsPredicateName}
use Rattle.ae_journal.specs.declared.systems.Saturated.{Saturated}
use Rattle.ae_legal_texts.specs.Numbers.{AreWithin, IsWithin, term_numbers, literal_numbers}
use Rattle.ae_legal_texts.specs.Writable.{is_negation, no_negations}
use Rattle.ae_legal_texts.proofs.Closing.{line_parts}
use Rattle.ae_legal_texts.proofs.Legal.{terms_legal, trigger_terms_legal, literals_legal}
use Rattle.ae_legal_texts.proofs.Places.{all_parts}
use Rattle.ae_prooftext.specs.Clauses.{literal}
use Rattle.ae_prooftext.specs.Grammar.{is_real, term_code}
use Rattle.ae_rules.specs.Derivations.{clause_ok}
use Rattle.ae_stategrammar.specs.Fitting.{names_in}
use Rattle.ae_stategrammar.specs.States.{RuleStands, state, state_spelled}
use Rattle.ae_stategrammar.specs.StateTexts.{state_text}
use Rattle.ae_stategrammar.proofs.StateFits.{state_fits}
use Rattle.ae_stategrammar.proofs.ValueFits.{normal_values_fit}
use Rattle.ae_valuetext.specs.Texts.{AreNames}
use Rattle.ae_valuetext.specs.Values.{value}
use Rattle.ae_legal_states.specs.Writable.{IsRuleWithin, IsWithinLimits}
use Rattle.ae_legal_states.proofs.Symbols.{symbols_fit}

module _ (sig : Signature) (lawful : IsLawful sig) where
  -- ---- names
  applied : (t : Term) → IsPredicateName sig t → trigger_ok sig (is_closed_sort sig) [] t ≡ true
  applied t p =
      ap (trigger_ok sig (is_closed_sort sig) []) p.3
      ∙ or_right (known (sort_in sig (is_closed_sort sig) [] (Apply (head.Symbol p.0) p.1 p.2))) _
      (ap (applied_ok sig (is_closed_sort sig) []) (outs-Apply (head.Symbol p.0) p.1 p.2) ∙ sym (formula_in_pred sig (is_closed_sort sig) [] p.0 p.1 p.2) ∙ p.4)

  pub name_has : (t : Term) → ((s : Sort) × (sort_of sig t ≡ Some s)) ⊎ IsPredicateName sig t → AreWithin (term_numbers t) → (term_code sig [] by_line).Fits (t, 10)
  unfolding by_line
  name_has t h w = elim h [
    | inl k ↦ terms_legal sig lawful [] t (ap known k.1) w by_line line_parts 10 refl
    | inr p ↦ trigger_terms_legal sig lawful [] t (applied t p) w by_line line_parts 10 refl
  ]

  -- ---- literals
  literals_have : (ls : List Lit) → clause_ok sig ls ≡ true → no_negations ls ≡ true → AllByRecursion (λ l. AreWithin (literal_numbers l)) ls → AllByRecursion (λ x. (literal sig (is_real sig) by_line).Fits (x, 10)) ls
  unfolding by_line
  literals_have [] o n w = tt
  literals_have (x ∷ ls) o n w =
      let p = and_parts (formula_ok sig x.formula) (clause_ok sig ls) o in
      let q = and_parts (not (is_negation (out-Formula x.formula))) (no_negations ls) n in
      (literals_legal sig lawful x p.0 (and_from (not (is_negation (out-Formula x.formula))) true q.0 refl) w.0 by_line line_parts 10 refl, literals_have ls p.1 q.1 w.1)

  module _ (s : Saturated) (done : IsCompleted sig s.system) (sorted : clause_ok sig s.literals ≡ true) (limits : IsWithinLimits sig s) where
    pub states_fit_at : (state sig).Fits s
    unfolding by_line
    states_fit_at =
        state_fits sig s (record {
          literals = literals_have s.literals sorted limits.literals (all_parts IsWithin literal_numbers s.literals limits.literal_limits);
          names = all_from_places (λ t. (term_code sig [] by_line).Fits (t, 10)) s.system.names
              (λ n t g. name_has t (done.sorted n t g) (all_at (λ t. AreWithin (term_numbers t)) s.system.names n t (all_parts IsWithin term_numbers s.system.names limits.name_limits) g));
          values = all_from_places (λ v. (value by_line).Fits (v, 10)) s.system.values
              (λ n v g. normal_values_fit v (done.normal n v g) (all_at (λ v. AreNames (names_in v)) s.system.values n v limits.value_names g) by_line 10 refl);
          rules = all_from_places (RuleStands sig) s.system.rules
              (λ n r g. let w = all_at (IsRuleWithin sig) s.system.rules n r limits.rules g in (symbols_fit sig lawful r.symbol (done.rules_fit n r g).ac w.symbol, w.left, w.right));
          points = limits.points;
          few_names = limits.names;
          few_values = subst (λ n. n ≤ 2 ^ 64) (sym done.values) limits.names;
        })

pub states_fit : (sig : Signature) → IsLawful sig → (s : Saturated) → IsCompleted sig s.system → clause_ok sig s.literals ≡ true → IsWithinLimits sig s → (state sig).Fits s
states_fit sig lawful s done sorted limits = states_fit_at sig lawful s done sorted limits

pub states_read_back : (sig : Signature) → IsLawful sig → (s : Saturated) → IsCompleted sig s.system → clause_ok sig s.literals ≡ true → IsWithinLimits sig s → (state sig).read (state_text sig s) ≡ got s []
states_read_back sig lawful s done sorted limits =
    let f = states_fit_at sig lawful s done sorted limits in
    ap (state sig).read (sym (state_spelled sig s f)) ∙ reads_text (state sig) s f

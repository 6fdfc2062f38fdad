-- The lines of a refutation can be written: its first ones, and those that it derives.
use Rattle.std.specs.Prelude.{ℕ, true, List, [], ◌∷◌, ◌≡◌}
use Rattle.std.specs.List.{AllByRecursion, flat_map, list_all}
use Rattle.std.proofs.Common.{refl, sym, subst}
use Rattle.std.proofs.lemmas.Bool.{and_from}
use Rattle.ae_base.specs.Relations.{Pairwise}
use Rattle.ae_base.proofs.AllOf.{all_append, all_weaker}
use Rattle.ae_core.specs.declared.formulas.Formula.{All}
use Rattle.ae_core.specs.declared.problems.Problem.{Problem}
use Rattle.ae_core.specs.declared.proofs.ClauseLine.{ClauseLine}
use Rattle.ae_core.specs.declared.proofs.Proof.{Proof}
use Rattle.ae_rules.specs.Clauses.{Clause}
use Rattle.ae_legal_texts.specs.Numbers.{count, formula_numbers, line_numbers}
use Rattle.ae_legal_texts.specs.Writable.{no_negations_in}
use Rattle.ae_store.specs.Stores.{Stored}
use Rattle.ae_sat.proofs.Enlarging.{over_lines}
use Rattle.ae_sat.specs.Lines.{IsLineOver}
use Rattle.ae_first_clauses.specs.First.{IsFirstLine, a_hypothesis, the_goal, the_block, States}
use Rattle.ae_goal_search.specs.Ended.{IsRefutation}
use Rattle.ae_goal_search.specs.Started.{IsStarted}
use Rattle.ae_numerals_kept.proofs.Lowest.{goal_lowest}
use Rattle.ae_writable.specs.Numbers.{IsValueWithin, AreValuesWithin, HasLowestNumerals}
use Rattle.ae_writable.specs.Writable.{IsWritableProof}
use Rattle.ae_written_lines.proofs.Derived.{IsFineLine, over_fine}
use Rattle.ae_writable_answers.proofs.Firsts.{name_lowest, closed, choice_lines_fine}

values_in : (ls : List ClauseLine) → AllByRecursion IsFineLine ls → AreValuesWithin (flat_map line_numbers ls)
values_in [] a = tt
values_in (l ∷ ls) a = all_append IsValueWithin (line_numbers l) (flat_map line_numbers ls) (a.0).0 (values_in ls a.1)

signs_in : (ls : List ClauseLine) → AllByRecursion IsFineLine ls → list_all no_negations_in ls ≡ true
signs_in [] a = refl
signs_in (l ∷ ls) a = and_from (no_negations_in l) (list_all no_negations_in ls) (a.0).1 (signs_in ls a.1)

module _ (p : Problem) (g : ℕ) (low : HasLowestNumerals p) where
  first_fine : (l : ClauseLine) (c : Clause) → IsFirstLine p g l c → IsFineLine l
  first_fine _ _ (a_hypothesis k f e) = ((tt, tt), refl)
  first_fine _ _ (the_goal f e) = (tt, refl)
  first_fine _ _ (the_block q e) = (all_append IsValueWithin (formula_numbers (All q)) (count 0 ∷ []) (goal_lowest p g (All q) low e) (tt, tt), refl)

  firsts_fine : (ls : List ClauseLine) (cs : List Clause) → Pairwise (States p g) ls cs → AllByRecursion IsFineLine ls
  firsts_fine [] [] h = tt
  firsts_fine (l ∷ ls) (c ∷ cs) h = (first_fine l c h.0.0, firsts_fine ls cs h.1)
  firsts_fine [] (c ∷ cs) h = absurd h
  firsts_fine (l ∷ ls) [] h = absurd h

  module _ (begin : List ClauseLine) (clauses : List Clause) (s : Stored) (start : IsStarted p g begin clauses s) where
    begin_fine : AllByRecursion IsFineLine begin
    begin_fine =
        let c = start.choices in
        subst (AllByRecursion IsFineLine) (sym c.lines_are)
        (all_append IsFineLine start.firsts c.more_lines (firsts_fine start.firsts start.first start.begun.states) (choice_lines_fine p g low begin clauses s start c.more_lines c.more c.states))

    lines_fine : (lines : List ClauseLine) → IsRefutation s begin clauses lines → AllByRecursion IsFineLine lines
    lines_fine lines r =
        let w = closed p g low begin clauses s start in
        let a = over_lines s w.formulas begin lines (r.over w.formulas w.parts w.among) in
        subst (AllByRecursion IsFineLine) (sym a.1)
        (all_append IsFineLine begin a.0 begin_fine
        (all_weaker (IsLineOver s w.formulas) IsFineLine (over_fine s (name_lowest p g low begin clauses s start) w.formulas w.fine) a.0 a.2))

    pub refutation_writable : (proof : Proof) → IsRefutation s begin clauses proof.lines → IsWritableProof proof
    refutation_writable proof r = let a = lines_fine proof.lines r in record { values = values_in proof.lines a; direct = signs_in proof.lines a }

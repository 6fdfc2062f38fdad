-- A legal journal of a lawful problem has a text, and what is written of it is read back.
use Rattle.std.specs.Prelude.{ℕ, ◌≡◌, true, not, List, [], ◌∷◌, ◌++◌, Some, ◌≤◌, ◌^◌, length}
use Rattle.std.specs.List.{AllByRecursion, Contains, list_all}
use Rattle.std.proofs.Common.{refl, sym, ap, ◌∙◌, subst, append_assoc, inl}
use Rattle.std.proofs.lemmas.Bool.{and_parts}
use Rattle.ae_base.proofs.AllOf.{all_both, all_from_places, test_of_all}
use Rattle.ae_codes.specs.Closers.{by_line}
use Rattle.ae_codes.specs.Codes.{got, reads_text, both, mapped, words}
use Rattle.ae_codes.specs.Rows.{alone}
use Rattle.ae_core.specs.Signatures.{IsLawful, IsLawfulProblem}
use Rattle.ae_core.specs.Sorts.{is_closed_sort, formula_ok, term_ok}
use Rattle.ae_core.specs.declared.formulas.Formula.{out-Formula}
use Rattle.ae_core.specs.declared.formulas.Lit.{Lit}
use Rattle.ae_core.specs.declared.problems.Problem.{Problem}
use Rattle.ae_core.specs.declared.problems.Signature.{Signature}
use Rattle.ae_core.specs.declared.proofs.ClauseLine.TheVariants as clause_line
use Rattle.ae_core.specs.declared.terms.Sort.{Sort}
use Rattle.ae_core.specs.declared.terms.Term.{Term}
use Rattle.ae_journal.proofs.Splits.{contains_at}
use Rattle.ae_journal.proofs.LegalFronts.{front, line_at}
use Rattle.ae_journal.specs.InstanceLines.{IsInstance}
use Rattle.ae_journal.specs.InstanceLines.IsInstance.{of_type, of_terms, of_axiom_terms}
use Rattle.ae_journal.specs.Legal.{IsLegalLine, AreLegal, IsLegalJournal, setting}
use Rattle.ae_journal.specs.Standing.{Setting}
use Rattle.ae_journal.specs.States.{Owner}
use Rattle.ae_journal.specs.declared.lines.Line.{Line}
use Rattle.ae_journal.specs.declared.lines.Line.TheVariants as line
use Rattle.ae_journal.specs.declared.lines.Oriented.TheVariants as oriented
use Rattle.ae_journal.specs.declared.lines.Story.{Story}
use Rattle.ae_legal_states.proofs.Systems.{name_has}
use Rattle.ae_legal_texts.proofs.Places.{all_parts}
use Rattle.ae_legal_texts.specs.Numbers.{IsWithin, AreWithin, term_numbers}
use Rattle.ae_legal_texts.specs.Writable.{is_negation, no_negations}
use Rattle.ae_prooftext.specs.Grammar.{term_code}
use Rattle.ae_rules.proofs.SortedLines.{states_clause, stated_sorted}
use Rattle.ae_rules.specs.Derivations.{formula_stands, conclusion}
use Rattle.ae_rules.specs.Instances.{hypothesis}
use Rattle.ae_stategrammar.specs.Journals.{line_code, line_first, end_fits, lines, lines_behind, names, story, story_spelled}
use Rattle.ae_stategrammar.specs.Named as named
use Rattle.ae_stategrammar.specs.Sections.{NoneOf, fits_ended, repeated_fits}
use Rattle.ae_stategrammar.specs.StateTexts.{story_text}
use Rattle.ae_stategrammar.specs.States.{term_closed, term_in_line}
use Rattle.ae_legal_stories.proofs.Direct.{decision_direct, lesson_direct}
use Rattle.ae_legal_stories.proofs.Lines.{IsSound, line_fits}
use Rattle.ae_legal_stories.proofs.RowNames.{combined_names}
use Rattle.ae_legal_stories.proofs.Sorted.{possible_ok}
use Rattle.ae_legal_stories.proofs.Symbols.{OfName, heads_name, lines_of_names}
use Rattle.ae_legal_stories.specs.Writable.{IsSortedName, IsLineWithin, IsStoryWithin}

module _ (x : Setting) (bound : ℕ) (lawful : IsLawfulProblem x.problem) (sorted : AllByRecursion (IsSortedName x.problem.signature) x.names) (limits : AllByRecursion (λ t. AreWithin (term_numbers t)) x.names) (few : length x.names ≤ 2 ^ 64) where
  -- ---- what a legal line gives
  abbrev IsDirect : Lit → Type 0
  IsDirect l = not (is_negation (out-Formula l.formula)) ≡ true

  all_direct : (c : List Lit) → ((l : Lit) → Contains c l → IsDirect l) → no_negations c ≡ true
  all_direct c h = test_of_all IsDirect (λ l. not (is_negation (out-Formula l.formula))) (λ l e. e) c (all_from_places IsDirect c (λ k l e. h l (contains_at c k l e)))

  module _ (js : List Line) (g : AreLegal x bound [] js) where
    types_sound : (k : ℕ) (ss : List Sort) (c : List Lit) → conclusion x.problem x.goal (clause_line.Hyp k ss) ≡ Some c → list_all (is_closed_sort x.problem.signature) ss ≡ true
    types_sound k ss c e = (and_parts (list_all (is_closed_sort x.problem.signature) ss) (formula_stands x.problem.signature (hypothesis x.problem x.goal k ss)) (states_clause x.problem x.goal (clause_line.Hyp k ss) c e).0).0

    instance_sound : (j : Line) (c : List Lit) (o : Owner) (ss : List Sort) (ts : List Term) → IsInstance x j c o ss ts → IsSound x.problem.signature j
    instance_sound _ _ _ _ _ (of_type k ss ts c e) = types_sound k ss c e
    instance_sound _ _ _ _ _ (of_terms f ts c sign e) = and_parts (formula_ok x.problem.signature f) (list_all (term_ok x.problem.signature) ts) (states_clause x.problem x.goal (clause_line.Inst f ts) c e).0
    instance_sound _ _ _ _ _ (of_axiom_terms k ss f ts c h e) = and_parts (formula_ok x.problem.signature f) (list_all (term_ok x.problem.signature) ts) (states_clause x.problem x.goal (clause_line.Inst f ts) c e).0

    line_sound : (j : Line) → OfName x j → IsLegalLine x bound js j → IsSound x.problem.signature j
    line_sound (line.Decide l) n m = (possible_ok x lawful bound js g m.clause m.possible l m.of_it, decision_direct x bound js g l m)
    line_sound (line.Orient (oriented.Named k v)) n m = m.normal
    line_sound (line.Orient (oriented.Rule u l r)) n m = heads_name x sorted limits u n
    line_sound (line.Drop (oriented.Named k v)) n m = m
    line_sound (line.Drop (oriented.Rule u l r)) n m = heads_name x sorted limits u n
    line_sound (line.Pair u l r) n m = heads_name x sorted limits u n
    line_sound (line.Learn c) n m = (stated_sorted x.problem x.goal m.last c m.states, all_direct c (lesson_direct x bound js g c m))
    line_sound (line.TypeInstance k ss) n m = instance_sound (line.TypeInstance k ss) m.clause m.owner m.sorts m.terms m.is
    line_sound (line.TermInstance f ts) n m = instance_sound (line.TermInstance f ts) m.clause m.owner m.sorts m.terms m.is
    line_sound (line.Combine strict f) n m = (m.normal, combined_names x js strict f few m)
    line_sound (line.Back k) n m = tt

  lines_sound : (before js : List Line) → AllByRecursion (OfName x) js → AreLegal x bound [] (before ++ js) → AllByRecursion (IsSound x.problem.signature) js
  lines_sound before [] n g = tt
  lines_sound before (j ∷ js) n g = (
    line_sound before (front x bound [] before (j ∷ js) g) j n.0 (line_at x bound [] before js j g),
    lines_sound (before ++ j ∷ []) js n.1 (subst (AreLegal x bound []) (sym (append_assoc before (j ∷ []) js)) g),
  )

  pub legal_sound : (js : List Line) → AreLegal x bound [] js → AllByRecursion (IsSound x.problem.signature) js
  legal_sound js g = lines_sound [] js (lines_of_names x bound [] js tt g) g

-- ---- whole journals
module _ (sig : Signature) (lawful : IsLawful sig) where
  term_fits : (t : Term) → IsSortedName sig t → AreWithin (term_numbers t) → (term_in_line sig).Fits t
  unfolding term_in_line
  term_fits t s w = fits_ended (term_code sig [] by_line) 10 (term_closed sig) t (name_has sig lawful t s w)

  pub sound_fits : (s : Story) → IsStoryWithin sig s → AllByRecursion (IsSound sig) s.lines → (story sig).Fits s
  unfolding story mapped both alone words
  sound_fits s w h = ((refl, of_names), refl)
    where
      of_lines : (lines sig).Fits (s.lines, tt)
      of_lines =
          repeated_fits (line_code sig) tt (end_fits sig) (NoneOf (110 ∷ [])) (line_first sig) s.lines tt
          (all_both (IsSound sig) IsLineWithin (λ j. (line_code sig).Fits (inl j)) (line_fits sig lawful) s.lines h w.lines) (end_fits sig)

      of_names : (names sig).Fits (s.names, (s.lines, tt))
      of_names =
          named.lines_fit 110 (97 ∷ 109 ∷ 101 ∷ 32 ∷ []) (term_in_line sig) (lines sig) (NoneOf []) tt (lines_behind sig) s.names (s.lines, tt)
          (all_both (IsSortedName sig) (λ t. AreWithin (term_numbers t)) (λ t. (term_in_line sig).Fits t) term_fits s.names w.sorted (all_parts IsWithin term_numbers s.names w.name_limits)) w.names of_lines

pub stories_fit : (p : Problem) (g bound : ℕ) (s : Story) → IsLawfulProblem p → IsLegalJournal p g bound s → IsStoryWithin p.signature s → (story p.signature).Fits s
stories_fit p g bound s lawful legal w =
    sound_fits p.signature lawful.signature s w
    (legal_sound (setting p g s legal.fresh) bound lawful w.sorted (all_parts IsWithin term_numbers s.names w.name_limits) w.names s.lines legal.lines)

pub stories_read_back : (p : Problem) (g bound : ℕ) (s : Story) → IsLawfulProblem p → IsLegalJournal p g bound s → IsStoryWithin p.signature s
    → (story p.signature).read (story_text p.signature s) ≡ got s []
stories_read_back p g bound s lawful legal w =
    let f = stories_fit p g bound s lawful legal w in
    ap (story p.signature).read (sym (story_spelled p.signature s f)) ∙ reads_text (story p.signature) s f

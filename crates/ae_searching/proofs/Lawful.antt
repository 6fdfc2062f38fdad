-- What is lawful for a setting is kept by a clause more, by lines that are noted, and by going back.
use Rattle.std.proofs.Common.{◌≡◌, ◌≢◌, ℕ, ◌≤◌, List, [], ◌∷◌, ◌++◌, sym, ◌∙◌, ap, subst, arith, ◌⊎◌, inl, inr, Some, append_assoc, append-nil}
use Rattle.std.specs.List.{Contains}
use Rattle.std.proofs.lemmas.List.Elements.{Contains-append_right, Contains-append_cases}
use Rattle.std.proofs.lemmas.Option.{same_Some}
use Rattle.ae_base.proofs.AllOf.{all_push}
use Rattle.ae_core.specs.declared.formulas.Formula.{Formula}
use Rattle.ae_core.specs.declared.formulas.Lit.{Lit}
use Rattle.ae_core.specs.declared.proofs.ClauseLine.{ClauseLine}
use Rattle.ae_core.specs.declared.proofs.ClauseLine.TheVariants as clause_line
use Rattle.ae_core.specs.declared.terms.Sort.{Sort}
use Rattle.ae_core.specs.declared.terms.Term.{Term}
use Rattle.ae_rules.specs.Clauses.{Clause}
use Rattle.ae_rules.specs.Derivations.{conclusion}
use Rattle.ae_explain.specs.declared.trail.Assigned.{Assigned}
use Rattle.ae_explain.specs.Fronts.{IsFront}
use Rattle.ae_explain.specs.Trail.{IsLawful}
use Rattle.ae_propagation.specs.Settled.{last_level}
use Rattle.ae_journal.specs.declared.lines.Line.{Line}
use Rattle.ae_journal.specs.declared.lines.Line.TheVariants as line
use Rattle.ae_journal.specs.Journals.{BringsClause, HasLine, IsBack, MayGoBack, MayLearnAgain, OnlyCombines}
use Rattle.ae_journal.specs.Legal.{IsLegalLine, AreLegal}
use Rattle.ae_journal.specs.SolverLines.{IsSourceLine}
use Rattle.ae_journal.specs.Standing.{Setting, IsBrought, IsEntered, IsFormula, IsGiven, IsPossible}
use Rattle.ae_journal.specs.Standing.IsBrought.{by_hypothesis, by_goal, by_type_instance, by_term_instance}
use Rattle.ae_journal.specs.Standing.IsFormula.{of_clause}
use Rattle.ae_journal.specs.Standing.IsPossible.{given}
use Rattle.ae_journal.proofs.Growing.{entered_more, formula_more, possible_more}
use Rattle.ae_journal.proofs.Splits.{contains_here}
use Rattle.ae_store.specs.Stores.{Stored}
use Rattle.ae_theory.specs.Names.{terms_in}
use Rattle.ae_sat.specs.Layers.{Fires, IsCut}
use Rattle.ae_sat.specs.Search.{IsLawfulState}
use Rattle.ae_sat.specs.Standing.{IsOneOf}
use Rattle.ae_sat.proofs.Layering.{fires_after}
use Rattle.ae_sat.proofs.Learnt.{one_more, still_one, new_one, seldom_back}
use Rattle.ae_sat.proofs.LearnSteps.{front_cut}
use Rattle.ae_sat.proofs.Legality.{again_more, given_back, has_more, single, sources_more, unsnoc}
use Rattle.ae_sat.proofs.Propagating.{rows_clause, rows_front}
use Rattle.ae_sat.proofs.Searching.{legal_join}
use Rattle.ae_searching.specs.Searching.{IsLawfulBelow, RestsBelow}
use Rattle.ae_searching.specs.Steps.{IsStatedBy}
use Rattle.ae_searching.specs.Told.{IsLawfulFor}

-- ---- lines
-- a line that learns nothing
again_beside : (js : List Line) (x : Line) → ((c : List Lit) → x ≢ line.Learn c) → MayLearnAgain js → MayLearnAgain (js ++ x ∷ [])
again_beside js x other again a b e c d h =
    elim (unsnoc js x (a ++ line.Learn c ∷ b) (line.Learn d) e h) as (λ _. HasLine IsBack (b ++ e)) [
      | inl r ↦ absurd (other d r.0)
      | inr r ↦
          let before : HasLine IsBack (b ++ r.0) = again a b r.0 c d r.2 in
          subst (HasLine IsBack) (append_assoc b r.0 (x ∷ []) ∙ ap (λ (w : List Line). b ++ w) (sym r.1)) (has_more IsBack (b ++ r.0) (x ∷ []) before)
    ]

learns_nothing : (j : Line) (l : ClauseLine) → IsStatedBy j l → (c : List Lit) → j ≢ line.Learn c
learns_nothing (line.TypeInstance k ss) l h c e = cc
learns_nothing (line.TermInstance f ts) l h c e = cc
learns_nothing (line.Learn d) l h c e = h
learns_nothing (line.Decide m) l h c e = h
learns_nothing (line.Orient o) l h c e = h
learns_nothing (line.Drop o) l h c e = h
learns_nothing (line.Pair u a b) l h c e = h
learns_nothing (line.Combine b f) l h c e = h
learns_nothing (line.Back n) l h c e = h

there : (js : List Line) (j : Line) → Contains (js ++ j ∷ []) j
there js j = Contains-append_right js (j ∷ []) j (contains_here j [])

module _ (x : Setting) where
  -- a line that states a possible clause
  pub source_of : (js : List Line) (k : ClauseLine) (c : Clause) → conclusion x.problem x.goal k ≡ Some c → IsPossible x js c → IsSourceLine x js k
  source_of js (clause_line.Block b) c e h = tt
  source_of js (clause_line.Rup d ks) c e h = tt
  source_of js (clause_line.Hyp a b) c e h = (c, e, h)
  source_of js clause_line.Goal c e h = (c, e, h)
  source_of js (clause_line.Def r f) c e h = (c, e, h)
  source_of js (clause_line.Inst f ts) c e h = (c, e, h)
  source_of js (clause_line.Fresh f m) c e h = (c, e, h)
  source_of js (clause_line.Exh t) c e h = (c, e, h)
  source_of js (clause_line.Tri s t) c e h = (c, e, h)

  -- ---- instances
  -- the clause of an instance line is brought
  pub brought_by : (js : List Line) (j : Line) (l : ClauseLine) (c : Clause) → IsStatedBy j l → conclusion x.problem x.goal l ≡ Some c → IsBrought x (js ++ j ∷ []) c
  brought_by js (line.TypeInstance k ss) l c h e = by_type_instance k ss c (there js (line.TypeInstance k ss)) (ap (conclusion x.problem x.goal) (sym h) ∙ e)
  brought_by js (line.TermInstance f ts) l c h e = by_term_instance f ts c (there js (line.TermInstance f ts)) (ap (conclusion x.problem x.goal) (sym h) ∙ e)
  brought_by js (line.Learn d) l c h e = absurd h
  brought_by js (line.Decide m) l c h e = absurd h
  brought_by js (line.Orient o) l c h e = absurd h
  brought_by js (line.Drop o) l c h e = absurd h
  brought_by js (line.Pair u a b) l c h e = absurd h
  brought_by js (line.Combine b f) l c h e = absurd h
  brought_by js (line.Back n) l c h e = absurd h

  by_type : (k : ℕ) (ss : List Sort) (j : Line) (l : ClauseLine) (c d : Clause) → IsStatedBy j l → conclusion x.problem x.goal l ≡ Some c → j ≡ line.TypeInstance k ss
      → conclusion x.problem x.goal (clause_line.Hyp k ss) ≡ Some d → d ≡ c
  by_type k ss j l c d h e q r =
      let w : l ≡ clause_line.Hyp k ss = subst (λ (y : Line). IsStatedBy y l) q h in
      same_Some d c (sym r ∙ ap (conclusion x.problem x.goal) (sym w) ∙ e)

  by_terms : (f : Formula) (ts : List Term) (j : Line) (l : ClauseLine) (c d : Clause) → IsStatedBy j l → conclusion x.problem x.goal l ≡ Some c → j ≡ line.TermInstance f ts
      → conclusion x.problem x.goal (clause_line.Inst f ts) ≡ Some d → d ≡ c
  by_terms f ts j l c d h e q r =
      let w : l ≡ clause_line.Inst f ts = subst (λ (y : Line). IsStatedBy y l) q h in
      same_Some d c (sym r ∙ ap (conclusion x.problem x.goal) (sym w) ∙ e)

  -- and no other one
  given_brought : (js : List Line) (j : Line) (l : ClauseLine) (c d : Clause) → IsStatedBy j l → conclusion x.problem x.goal l ≡ Some c → IsGiven x (js ++ j ∷ []) d → IsGiven x js d ⊎ (d ≡ c)
  given_brought js j l c _ h e (inl (by_hypothesis k f q)) = inl (inl (by_hypothesis k f q))
  given_brought js j l c _ h e (inl (by_goal f q)) = inl (inl (by_goal f q))
  given_brought js j l c _ h e (inl (by_type_instance k ss d i q)) = elim (Contains-append_cases js (j ∷ []) (line.TypeInstance k ss) i) as (λ _. IsGiven x js d ⊎ (d ≡ c)) [
    | inl y ↦ inl (inl (by_type_instance k ss d y q))
    | inr y ↦ inr (by_type k ss j l c d h e (single j (line.TypeInstance k ss) y) q)
  ]
  given_brought js j l c _ h e (inl (by_term_instance f ts d i q)) = elim (Contains-append_cases js (j ∷ []) (line.TermInstance f ts) i) as (λ _. IsGiven x js d ⊎ (d ≡ c)) [
    | inl y ↦ inl (inl (by_term_instance f ts d y q))
    | inr y ↦ inr (by_terms f ts j l c d h e (single j (line.TermInstance f ts) y) q)
  ]
  given_brought js j l c d h e (inr i) = elim (Contains-append_cases js (j ∷ []) (line.Learn d) i) as (λ _. IsGiven x js d ⊎ (d ≡ c)) [
    | inl y ↦ inl (inr y)
    | inr y ↦ absurd (learns_nothing j l h d (single j (line.Learn d) y))
  ]

  -- ---- levels
  pub settled : (bound : ℕ) (s : Stored) (level : ℕ) (t : List Assigned) (u : List Clause) (n : ℕ) (ks : List ClauseLine) (js : List Line) → last_level t ≤ level
      → IsLawfulBelow x bound s level t u n ks js → IsLawfulFor x bound s t u n ks js
  settled bound s level t u n ks js low h = record {
    legal = h.legal;
    state = record {
      possible = h.possible;
      formulas = h.formulas;
      given = h.given;
      rows = h.rows;
      layered = λ c y k l f. h.rests c y k (omega (arith, l, low)) f;
      sources = h.sources;
      again = h.again;
    };
    entered = h.entered;
  }

  pub unsettled : (bound : ℕ) (s : Stored) (t : List Assigned) (u : List Clause) (n : ℕ) (ks : List ClauseLine) (js : List Line) → AreLegal x bound [] js → IsLawfulState x t u n ks js
      → ((m : Term) → Contains (terms_in s) m → IsEntered x js m) → IsLawfulBelow x bound s (last_level t) t u n ks js
  unsettled bound s t u n ks js legal h entered = record {
    legal = legal;
    possible = h.possible;
    formulas = h.formulas;
    given = h.given;
    rows = h.rows;
    rests = λ c y k l f. h.layered c y k l f;
    sources = h.sources;
    again = h.again;
    entered = entered;
  }

  pub lowered : (bound : ℕ) (s : Stored) (level least : ℕ) (t : List Assigned) (u : List Clause) (n : ℕ) (ks : List ClauseLine) (js : List Line) → least ≤ level
      → IsLawfulBelow x bound s level t u n ks js → IsLawfulBelow x bound s least t u n ks js
  lowered bound s level least t u n ks js low h = record {
    legal = h.legal;
    possible = h.possible;
    formulas = h.formulas;
    given = h.given;
    rows = h.rows;
    rests = λ c y k l f. h.rests c y k (omega (arith, l, low)) f;
    sources = h.sources;
    again = h.again;
    entered = h.entered;
  }

  -- ---- a store with more terms
  pub named_more : (bound : ℕ) (s more : Stored) (level : ℕ) (t : List Assigned) (u : List Clause) (n : ℕ) (ks : List ClauseLine) (js : List Line)
      → ((m : Term) → Contains (terms_in more) m → Contains (terms_in s) m ⊎ IsEntered x js m) → IsLawfulBelow x bound s level t u n ks js → IsLawfulBelow x bound more level t u n ks js
  named_more bound s more level t u n ks js new h = record {
    legal = h.legal;
    possible = h.possible;
    formulas = h.formulas;
    given = h.given;
    rows = h.rows;
    rests = h.rests;
    sources = h.sources;
    again = h.again;
    entered = λ m y. elim (new m y) as (λ _. IsEntered x js m) [ inl o ↦ h.entered m o | inr o ↦ o ];
  }

  -- ---- a clause more
  pub line_added : (bound : ℕ) (s : Stored) (level : ℕ) (t : List Assigned) (u : List Clause) (n : ℕ) (ks : List ClauseLine) (js : List Line) (k : ClauseLine) (c : Clause)
      → conclusion x.problem x.goal k ≡ Some c → IsPossible x js c → ((m : Lit) → Contains c m → IsFormula x js m.formula)
      → IsLawfulBelow x bound s level t u n ks js → IsLawfulBelow x bound s level t (u ++ c ∷ []) n (ks ++ k ∷ []) js
  line_added bound s level t u n ks js k c e new formulas h = record {
    legal = h.legal;
    possible = λ d o. elim (one_more u c d o) as (λ _. IsPossible x js d) [ inl y ↦ h.possible d y | inr q ↦ subst (IsPossible x js) (sym q) new ];
    formulas = λ d m o i. elim (one_more u c d o) as (λ _. IsFormula x js m.formula) [
      | inl y ↦ h.formulas d m y i
      | inr q ↦ formulas m (subst (λ (w : Clause). Contains w m) q i)
    ];
    given = λ d y. still_one u c d (h.given d y);
    rows = rows_clause t n u c h.rows;
    rests = h.rests;
    sources = all_push (IsSourceLine x js) ks k h.sources (source_of js k c e new);
    again = h.again;
    entered = h.entered;
  }

  -- an instance line, and the clause that it brings
  pub line_brought : (bound : ℕ) (s more : Stored) (level least : ℕ) (t : List Assigned) (u : List Clause) (n : ℕ) (ks : List ClauseLine) (js : List Line) (j : Line) (k : ClauseLine) (c : Clause)
      → IsLegalLine x bound js j → IsStatedBy j k → conclusion x.problem x.goal k ≡ Some c → least ≤ level → RestsBelow t least c
      → ((m : Term) → Contains (terms_in more) m → Contains (terms_in s) m ⊎ IsEntered x (js ++ j ∷ []) m)
      → IsLawfulBelow x bound s level t u n ks js → IsLawfulBelow x bound more least t (u ++ c ∷ []) n (ks ++ k ∷ []) (js ++ j ∷ [])
  line_brought bound s more level least t u n ks js j k c legal by e low rests new h =
      let js2 = js ++ j ∷ [] in
      let b : IsBrought x js2 c = brought_by js j k c by e in
      let p : IsPossible x js2 c = given js2 c (inl b) in
      record {
        legal = legal_join x bound [] js (j ∷ []) h.legal (legal, tt);
        possible = λ d o. elim (one_more u c d o) as (λ _. IsPossible x js2 d) [ inl y ↦ possible_more x js (j ∷ []) d (h.possible d y) | inr q ↦ subst (IsPossible x js2) (sym q) p ];
        formulas = λ d m o i. elim (one_more u c d o) as (λ _. IsFormula x js2 m.formula) [
          | inl y ↦ formula_more x js (j ∷ []) m.formula (h.formulas d m y i)
          | inr q ↦ of_clause js2 c m b (subst (λ (w : Clause). Contains w m) q i)
        ];
        given = λ d y. elim (given_brought js j k c d by e y) as (λ _. IsOneOf (u ++ c ∷ []) d) [
          | inl o ↦ still_one u c d (h.given d o)
          | inr q ↦ subst (IsOneOf (u ++ c ∷ [])) (sym q) (new_one u c)
        ];
        rows = rows_clause t n u c h.rows;
        rests = λ d y i l f. elim (given_brought js j k c d by e y) as (λ _. ⊥) [
          | inl o ↦ h.rests d o i (omega (arith, l, low)) f
          | inr q ↦ rests i l (subst (λ (w : Clause). Fires t w i) q f)
        ];
        sources = all_push (IsSourceLine x js2) ks k (sources_more x js (j ∷ []) ks h.sources) (source_of js2 k c e p);
        again = again_beside js j (learns_nothing j k by) h.again;
        entered = λ m y. elim (new m y) as (λ _. IsEntered x js2 m) [ inl o ↦ entered_more x js (j ∷ []) m (h.entered m o) | inr o ↦ o ];
      }

  -- ---- lines that bring no clause
  line_noted : (bound : ℕ) (s : Stored) (level : ℕ) (t : List Assigned) (u : List Clause) (n : ℕ) (ks : List ClauseLine) (js : List Line) (j : Line) → ¬ BringsClause j → IsLegalLine x bound js j
      → IsLawfulBelow x bound s level t u n ks js → IsLawfulBelow x bound s level t u n ks (js ++ j ∷ [])
  line_noted bound s level t u n ks js j other legal h = record {
    legal = legal_join x bound [] js (j ∷ []) h.legal (legal, tt);
    possible = λ d o. possible_more x js (j ∷ []) d (h.possible d o);
    formulas = λ d m o i. formula_more x js (j ∷ []) m.formula (h.formulas d m o i);
    given = λ d y. h.given d (given_back x js j d other y);
    rows = h.rows;
    rests = λ d y. h.rests d (given_back x js j d other y);
    sources = sources_more x js (j ∷ []) ks h.sources;
    again = again_more js j other h.again;
    entered = λ m y. entered_more x js (j ∷ []) m (h.entered m y);
  }

  pub combined : (bound : ℕ) (s : Stored) (level : ℕ) (t : List Assigned) (u : List Clause) (n : ℕ) (ks : List ClauseLine) (js ls : List Line) → OnlyCombines ls → AreLegal x bound js ls
      → IsLawfulBelow x bound s level t u n ks js → IsLawfulBelow x bound s level t u n ks (js ++ ls)
  combined bound s level t u n ks js [] o a h = subst (IsLawfulBelow x bound s level t u n ks) (sym (append-nil js)) h
  combined bound s level t u n ks js (line.Combine b f ∷ ls) o a h =
      subst (IsLawfulBelow x bound s level t u n ks) (append_assoc js (line.Combine b f ∷ []) ls)
      (combined bound s level t u n ks (js ++ line.Combine b f ∷ []) ls o a.1 (line_noted bound s level t u n ks js (line.Combine b f) (λ z. z) a.0 h))
  combined bound s level t u n ks js (line.Learn c ∷ ls) o a h = absurd o
  combined bound s level t u n ks js (line.TypeInstance k ss ∷ ls) o a h = absurd o
  combined bound s level t u n ks js (line.TermInstance f ts ∷ ls) o a h = absurd o
  combined bound s level t u n ks js (line.Orient q ∷ ls) o a h = absurd o
  combined bound s level t u n ks js (line.Drop q ∷ ls) o a h = absurd o
  combined bound s level t u n ks js (line.Pair v l m ∷ ls) o a h = absurd o
  combined bound s level t u n ks js (line.Decide l ∷ ls) o a h = absurd o
  combined bound s level t u n ks js (line.Back k ∷ ls) o a h = absurd o

  -- ---- going back
  pub returned : (bound : ℕ) (s : Stored) (level : ℕ) (t cut : List Assigned) (u : List Clause) (n m : ℕ) (ks : List ClauseLine) (js : List Line) → IsLawful t u → IsFront t level cut → m ≤ n → MayGoBack js level
      → IsLawfulBelow x bound s level t u n ks js → IsLawfulBelow x bound s level cut u m ks (js ++ line.Back level ∷ [])
  returned bound s level t cut u n m ks js lawful front small may h =
      let cutting : IsCut t level cut = front_cut t u level cut lawful front in
      let back = line.Back level in
      record {
        legal = legal_join x bound [] js (back ∷ []) h.legal (may, tt);
        possible = λ d o. possible_more x js (back ∷ []) d (h.possible d o);
        formulas = λ d l o i. formula_more x js (back ∷ []) l.formula (h.formulas d l o i);
        given = λ d y. h.given d (given_back x js back d (λ z. z) y);
        rows = rows_front t u level cut n m lawful front small h.rows;
        rests = λ d y k l f. h.rests d (given_back x js back d (λ z. z) y) k l
            (subst (λ (w : List Assigned). Fires w d k) (sym cutting.is) (fires_after cut cutting.undone k (λ i r. omega (arith, cutting.above i r, l)) d f));
        sources = sources_more x js (back ∷ []) ks h.sources;
        again = seldom_back js level;
        entered = λ q y. entered_more x js (back ∷ []) q (h.entered q y);
      }

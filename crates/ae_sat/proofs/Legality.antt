-- What one more line, and one more decision, leave of what makes the next lines legal.
use Rattle.std.proofs.Common.{◌≡◌, ◌≢◌, ℕ, zero, suc, ◌+◌, ◌≤◌, List, [], ◌∷◌, ◌++◌, length, sym, ◌∙◌, ap, subst, arith, ◌⊎◌, inl, inr, Option, Some, None, append_assoc}
use Rattle.std.specs.List.{Contains, AllByRecursion}
use Rattle.std.proofs.lemmas.List.Elements.{Contains-append_cases}
use Rattle.ae_rules.specs.Clauses.{Clause, row}
use Rattle.ae_core.specs.declared.formulas.Lit.{Lit}
use Rattle.ae_core.specs.declared.proofs.ClauseLine.{ClauseLine}
use Rattle.ae_core.specs.declared.proofs.ClauseLine.TheVariants as clause_line
use Rattle.ae_rules.specs.Defining.{called_rows}
use Rattle.ae_explain.specs.declared.trail.Assigned.{Assigned}
use Rattle.ae_explain.specs.Trail.{at, place_in, IsLawful}
use Rattle.ae_journal.specs.declared.lines.Line.{Line}
use Rattle.ae_journal.specs.declared.lines.Line.TheVariants as line
use Rattle.ae_journal.specs.Journals.{live, decisions}
use Rattle.ae_journal.specs.Journals.HasLine.{here, later}
use Rattle.ae_journal.specs.Standing.IsBrought.{by_hypothesis, by_goal, by_type_instance, by_term_instance}
use Rattle.ae_journal.proofs.Growing.{possible_more, formula_more}
use Rattle.ae_propagation.specs.Settled.{Holds, HasTrue, IsQuiet}
use Rattle.ae_propagation.specs.Settled.{last_level}
use Rattle.ae_sat.specs.Standing.{IsOneOf, HasRows, with_decision, decided_lits}
use Rattle.ae_sat.specs.Laws.{IsSettled}
use Rattle.ae_sat.specs.Search.{IsLawfulState}
use Rattle.ae_propagation.proofs.Trails.{at_old}
use Rattle.ae_sat.proofs.Layering.{layered_decision}
use Rattle.ae_sat.proofs.Surely.{open_may_be_decided}
use Rattle.ae_journal.specs.Journals.{BringsClause, HasLine, IsBack, IsDecided, MayLearnAgain}
use Rattle.ae_journal.specs.SolverLines.{IsSourceLine, MayDecide}
use Rattle.ae_journal.specs.Standing.{IsGiven, IsPossible, Setting}

-- ---- lists
pub single : (x y : Line) → Contains (x ∷ []) y → x ≡ y
single x y (zero, l, e) = e
single x y (suc k, l, e) = absurd (omega (arith, l))

no_end : (a b : List Line) (y : Line) → a ++ y ∷ b ≢ []
no_end [] b y e = cc
no_end (z ∷ a) b y e = cc

abbrev pub Unsnoc : List Line → Line → List Line → Line → List Line → Type 0
Unsnoc js x w y e = ((x ≡ y) × (e ≡ [])) ⊎ ((f : List Line) × (e ≡ f ++ x ∷ []) × (js ≡ w ++ y ∷ f))

pub unsnoc : (js : List Line) (x : Line) (w : List Line) (y : Line) (e : List Line) → js ++ x ∷ [] ≡ w ++ y ∷ e → Unsnoc js x w y e
unsnoc [] x [] y e h = inl (let q : x ≡ y = cc in q, let q : e ≡ [] = cc in q)
unsnoc [] x (z ∷ w) y e h = absurd (no_end w e y (let q : w ++ y ∷ e ≡ [] = cc in q))
unsnoc (j ∷ js) x [] y e h = inr (js, let q : e ≡ js ++ x ∷ [] = cc in q, let q : j ∷ js ≡ y ∷ js = cc in q)
unsnoc (j ∷ js) x (z ∷ w) y e h =
    let t : js ++ x ∷ [] ≡ w ++ y ∷ e = cc in
    let s : j ≡ z = cc in
    elim (unsnoc js x w y e t) as (λ _. Unsnoc (j ∷ js) x (z ∷ w) y e) [
      | inl r ↦ inl r
      | inr r ↦ inr (r.0, r.1, (λ i. s i ∷ r.2 i))
    ]

pub has_more : (is : Line → Type 0) (xs ys : List Line) → HasLine is xs → HasLine is (xs ++ ys)
has_more is _ ys (here j js h) = here j (js ++ ys) h
has_more is _ ys (later j js h) = later j (js ++ ys) (has_more is js ys h)

-- ---- `Learn` lines
abbrev IsLearn : Line → Type 0
IsLearn (line.Learn c) = Unit {0}
IsLearn _ = ⊥

pub again_more : (js : List Line) (x : Line) → ¬ BringsClause x → MayLearnAgain js → MayLearnAgain (js ++ x ∷ [])
again_more js x other again a b e c d h =
    elim (unsnoc js x (a ++ line.Learn c ∷ b) (line.Learn d) e h) as (λ _. HasLine IsBack (b ++ e)) [
      | inl r ↦ absurd (other (subst BringsClause (sym r.0) tt))
      | inr r ↦
          let before : HasLine IsBack (b ++ r.0) = again a b r.0 c d r.2 in
          subst (HasLine IsBack) (append_assoc b r.0 (x ∷ []) ∙ ap (λ (w : List Line). b ++ w) (sym r.1)) (has_more IsBack (b ++ r.0) (x ∷ []) before)
    ]

-- ---- decisions
lits_hold : (t : List Assigned) (l : Lit) → Contains (decided_lits t) l → Holds t l
lits_hold [] l h = absurd (omega (arith, h.1))
lits_hold (a ∷ t) l h = by_reason a.by (lits_hold t l) h
  where
    further : (t : List Assigned) (a : Assigned) (l : Lit) → Holds t l → Holds (a ∷ t) l
    further t a l y = (suc y.0, omega (arith, y.1), y.2)

    first : (t : List Assigned) (a : Assigned) (l : Lit) → (Contains (decided_lits t) l → Holds t l) → Contains (a.lit ∷ decided_lits t) l → Holds (a ∷ t) l
    first t a l ih (zero, k, e) = (zero, omega arith, e)
    first t a l ih (suc i, k, e) = further t a l (ih (i, omega (arith, k), e))

    by_reason : (o : Option ℕ) → (Contains (decided_lits t) l → Holds t l) → Contains (with_decision o a.lit (decided_lits t)) l → Holds (a ∷ t) l
    by_reason None ih k = first t a l ih k
    by_reason (Some n) ih k = further t a l (ih k)

pub decided_hold : (t : List Assigned) (js : List Line) → decisions (live js) ≡ decided_lits t → (l : Lit) → IsDecided js l → Holds t l
decided_hold t js e l h = lits_hold t l (subst (λ (w : List Lit). Contains w l) e h)

pub rows_more : (t : List Assigned) (a : Assigned) (n : ℕ) (u : List Clause) → n ≤ length t → HasRows t n u → HasRows (t ++ a ∷ []) n u
rows_more t a n u h rows j r c l k i e =
    let q : at (t ++ a ∷ []) j ≡ at t j = at_old t (a ∷ []) j (omega (arith, l, h)) in
    rows j r c l (omega (arith, l, h)) (subst (λ (x : Assigned). Contains (called_rows x.lit.positive x.lit.formula) r) q i) (subst (λ (x : Assigned). row r x.lit.formula ≡ Some c) q e)

module _ (setting : Setting) where
  -- a line that brings no clause brings no given one
  pub given_back : (js : List Line) (x : Line) (c : Clause) → ¬ BringsClause x → IsGiven setting (js ++ x ∷ []) c → IsGiven setting js c
  given_back js x _ other (inl (by_hypothesis k f e)) = inl (by_hypothesis k f e)
  given_back js x _ other (inl (by_goal f e)) = inl (by_goal f e)
  given_back js x _ other (inl (by_type_instance k ss c h e)) = elim (Contains-append_cases js (x ∷ []) (line.TypeInstance k ss) h) as (λ _. IsGiven setting js c) [
    | inl y ↦ inl (by_type_instance k ss c y e)
    | inr y ↦ absurd (other (subst BringsClause (sym (single x (line.TypeInstance k ss) y)) tt))
  ]
  given_back js x _ other (inl (by_term_instance f ts c h e)) = elim (Contains-append_cases js (x ∷ []) (line.TermInstance f ts) h) as (λ _. IsGiven setting js c) [
    | inl y ↦ inl (by_term_instance f ts c y e)
    | inr y ↦ absurd (other (subst BringsClause (sym (single x (line.TermInstance f ts) y)) tt))
  ]
  given_back js x c other (inr h) = elim (Contains-append_cases js (x ∷ []) (line.Learn c) h) as (λ _. IsGiven setting js c) [
    | inl y ↦ inr y
    | inr y ↦ absurd (other (subst BringsClause (sym (single x (line.Learn c) y)) tt))
  ]

  abbrev pub Source : List Line → ClauseLine → Type 0
  Source = IsSourceLine setting

  possible_on : (js ls : List Line) (c : Clause) → IsPossible setting js c → IsPossible setting (js ++ ls) c
  possible_on = possible_more setting

  source_more : (js ls : List Line) (k : ClauseLine) → Source js k → Source (js ++ ls) k
  source_more js ls (clause_line.Block b) h = tt
  source_more js ls (clause_line.Rup c ks) h = tt
  source_more js ls (clause_line.Hyp a b) h = (h.0, h.1, possible_on js ls h.0 h.2)
  source_more js ls clause_line.Goal h = (h.0, h.1, possible_on js ls h.0 h.2)
  source_more js ls (clause_line.Def r f) h = (h.0, h.1, possible_on js ls h.0 h.2)
  source_more js ls (clause_line.Inst f ts) h = (h.0, h.1, possible_on js ls h.0 h.2)
  source_more js ls (clause_line.Fresh f m) h = (h.0, h.1, possible_on js ls h.0 h.2)
  source_more js ls (clause_line.Exh t) h = (h.0, h.1, possible_on js ls h.0 h.2)
  source_more js ls (clause_line.Tri s t) h = (h.0, h.1, possible_on js ls h.0 h.2)

  pub sources_more : (js ls : List Line) (ks : List ClauseLine) → AllByRecursion (Source js) ks → AllByRecursion (Source (js ++ ls)) ks
  sources_more js ls [] h = tt
  sources_more js ls (k ∷ ks) h = (source_more js ls k h.0, sources_more js ls ks h.1)

  -- a line that brings no clause changes nothing of it
  pub line_keeps : (t : List Assigned) (u : List Clause) (n : ℕ) (ks : List ClauseLine) (js : List Line) (x : Line) → ¬ BringsClause x → IsLawfulState setting t u n ks js → IsLawfulState setting t u n ks (js ++ x ∷ [])
  line_keeps t u n ks js x other s = record {
    possible = λ c h. possible_on js (x ∷ []) c (s.possible c h);
    formulas = λ c l h k. formula_more setting js (x ∷ []) l.formula (s.formulas c l h k);
    given = λ c h. s.given c (given_back js x c other h);
    rows = s.rows;
    layered = λ c h. s.layered c (given_back js x c other h);
    sources = sources_more js (x ∷ []) ks s.sources;
    again = again_more js x other s.again;
  }

  -- so does a decision
  pub decision_keeps : (t : List Assigned) (u : List Clause) (n : ℕ) (ks : List ClauseLine) (js : List Line) (a : Assigned) (l : Lit) → IsLawful t u → IsQuiet t u → n ≤ length t → a.level ≡ last_level t + 1
      → IsLawfulState setting t u n ks js → IsLawfulState setting (t ++ a ∷ []) u n ks (js ++ line.Decide l ∷ [])
  decision_keeps t u n ks js a l lawful quiet h level s =
      let r : IsLawfulState setting t u n ks (js ++ line.Decide l ∷ []) = line_keeps t u n ks js (line.Decide l) (λ b. b) s in
      record {
        possible = r.possible;
        formulas = r.formulas;
        given = r.given;
        sources = r.sources;
        again = r.again;
        rows = rows_more t a n u h r.rows;
        layered = layered_decision t u a (IsGiven setting (js ++ line.Decide l ∷ [])) lawful quiet level r.given r.layered;
      }

  -- a literal without a value of a clause without a true literal may be decided
  pub may_decide : (t : List Assigned) (u : List Clause) (n : ℕ) (ks : List ClauseLine) (js : List Line) (c : Clause) (l : Lit) → IsLawful t u → IsQuiet t u → n ≡ length t → decisions (live js) ≡ decided_lits t
      → IsLawfulState setting t u n ks js → IsOneOf u c → Contains c l → place_in t l.formula ≡ None → ¬ HasTrue t c → MayDecide setting js l
  may_decide t u n ks js c l lawful quiet all stood s is h e untrue =
      let settled : IsSettled setting js t u = record {
        lawful = lawful;
        quiet = quiet;
        decided = decided_hold t js stood;
        given = s.given;
        rows = subst (λ (k : ℕ). HasRows t k u) all s.rows;
      } in
      open_may_be_decided setting js t u settled c l (s.possible c is) h e untrue

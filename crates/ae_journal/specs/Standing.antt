-- What a journal brings and what stands in it: clauses, formulas, names, and literals that may or surely stand.
use Rattle.std.specs.Prelude.{ℕ, Bool, false, List, [], ◌∷◌, ◌++◌, ◌≡◌, ◌≢◌, ◌⊎◌, length, slice_get, Some}
use Rattle.std.specs.List.{Contains}
use Rattle.ae_core.specs.Sorts.{sort_of}
use Rattle.ae_rules.specs.Lines.{Conseq}
use Rattle.ae_rules.specs.Clauses.{Clause, opposite, yes_of, no_of, is_true, row}
use Rattle.ae_rules.specs.Instances.{hypothesis, fresh_clause, exhaustion, trichotomy}
use Rattle.ae_rules.specs.Derivations.{goal_body, conclusion}
use Rattle.ae_core.specs.declared.terms.Sort.{Sort, Int}
use Rattle.ae_core.specs.declared.terms.Term.{Term, Apply}
use Rattle.ae_core.specs.declared.terms.Head.{Head}
use Rattle.ae_core.specs.declared.formulas.Formula.{Formula, Formula-F, Eq, out-Formula}
use Rattle.ae_core.specs.declared.formulas.Formula.TheOpen as formula_layer
use Rattle.ae_core.specs.declared.formulas.Quant.{Quant}
use Rattle.ae_core.specs.declared.formulas.Lit.{Lit}
use Rattle.ae_core.specs.declared.problems.Problem.{Problem}
use Rattle.ae_core.specs.declared.proofs.ClauseLine.TheVariants as clause_line
use Rattle.ae_num.specs.Forms.{IsNormal}
use Rattle.ae_num.specs.declared.forms.Lin.{Lin}
use Rattle.ae_journal.specs.Values.{Val, sum_in, sum_of_lin, minus_val}
use Rattle.ae_journal.specs.Systems.{record_fields, field_terms}
use Rattle.ae_journal.specs.States.{outside, inequality}
use Rattle.ae_journal.specs.Journals.{live, IsDecided, OnlyCombines}
use Rattle.ae_journal.specs.TermValues.{value_by, IsLeast}
use Rattle.ae_journal.specs.Sides.{side, other_side, AreWhole, IsRounded}
use Rattle.ae_journal.specs.declared.lines.Line.{Line}
use Rattle.ae_journal.specs.declared.lines.Line.TheVariants as line

-- a problem, the place of a goal, the terms of the names by their numbers, and for each quantified formula the first constant of its `fresh` clause
pub record Setting : Type 0 where
  pub problem : Problem
  pub goal : ℕ
  pub names : List Term
  pub fresh : Formula → ℕ

-- the parts of a formula, those inside a quantified part left out
abbrev pub parts_by : Formula-F Formula Quant → List Formula
parts_by (formula_layer.Not a) = a ∷ []
parts_by (formula_layer.And a b) = a ∷ b ∷ []
parts_by (formula_layer.Or a b) = a ∷ b ∷ []
parts_by (formula_layer.Xor a b) = a ∷ b ∷ []
parts_by (formula_layer.Iff a b) = a ∷ b ∷ []
parts_by _ = []

abbrev pub parts_of : Formula → List Formula
parts_of f = parts_by (out-Formula f)

module _ (x : Setting) where
  -- the clauses of the hypotheses without type variables, of the goal, and of the instance lines so far
  pub data IsBrought (js : List Line) : Clause → Type 0 where
    by_hypothesis : (k : ℕ) (f : Formula) → hypothesis x.problem x.goal k [] ≡ Some f → IsBrought js (yes_of f ∷ [])
    by_goal : (f : Formula) → goal_body x.problem x.goal ≡ Some f → IsBrought js (no_of f ∷ [])
    by_type_instance : (k : ℕ) (ss : List Sort) (c : Clause) → Contains js (line.TypeInstance k ss) → conclusion x.problem x.goal (clause_line.Hyp k ss) ≡ Some c → IsBrought js c
    by_term_instance : (f : Formula) (ts : List Term) (c : Clause) → Contains js (line.TermInstance f ts) → conclusion x.problem x.goal (clause_line.Inst f ts) ≡ Some c → IsBrought js c

  -- the given clauses: these, and what was learnt
  abbrev pub IsGiven : List Line → Clause → Type 0
  IsGiven js c = IsBrought js c ⊎ Contains js (line.Learn c)

  -- the value of a term by the `solve` lines that stand
  abbrev pub value_now : List Line → Term → Val
  value_now js = value_by x.problem.signature x.names (live js)

  -- formulas, names, possible clauses and literals that may stand, together, as the smallest that meet all these points
  mutual
    -- a formula of the journal
    pub data IsFormula : List Line → Formula → Type 0 where
      of_clause : (js : List Line) (c : Clause) (l : Lit) → IsBrought js c → Contains c l → IsFormula js l.formula
      of_order : (js : List Line) (s t : Term) (c : Clause) (l : Lit) → IsEntered js s → IsEntered js t → trichotomy x.problem.signature s t ≡ Some c → Contains c l → IsFormula js l.formula
      of_choice : (js : List Line) (t : Term) (c : Clause) (l : Lit) → IsEntered js t → exhaustion x.problem.signature t ≡ Some c → Contains c l → IsFormula js l.formula
      of_fresh : (js : List Line) (f : Formula) (c : Clause) (l : Lit) → IsFormula js f → fresh_clause f (x.fresh f) (out-Formula f) ≡ Some c → Contains c l → IsFormula js l.formula
      of_part : (js : List Line) (f h : Formula) → IsFormula js f → Contains (parts_of f) h → IsFormula js h

    -- a name of the journal: a term or a predicate's application
    pub data IsEntered : List Line → Term → Type 0 where
      of_formula : (js : List Line) (f : Formula) (t : Term) → IsFormula js f → Contains (outside f) t → IsEntered js t
      of_term : (js : List Line) (h : Head) (ss : List Sort) (us : List Term) (t : Term) → IsEntered js (Apply h ss us) → Contains us t → IsEntered js t
      of_field : (js : List Line) (s : Sort) (ss : List Sort) (u t : Term) → IsEntered js u → sort_of x.problem.signature u ≡ Some s → record_fields x.problem.signature s ≡ Some ss
          → Contains (field_terms s u (length ss)) t → IsEntered js t
      -- the sides of a row of sort `int` that stands or stood, rounded or not
      of_row : (js before after : List Line) (strict : Bool) (f : Lin) → js ≡ before ++ after → IsWholeRow before strict f → IsEntered js (side Int x.names f)
      of_other_side : (js before after : List Line) (strict : Bool) (f : Lin) → js ≡ before ++ after → IsWholeRow before strict f → IsEntered js (other_side Int x.names f)

    pub data IsPossible : List Line → Clause → Type 0 where
      given : (js : List Line) (c : Clause) → IsGiven js c → IsPossible js c
      row_of : (js : List Line) (f : Formula) (r : ℕ) (c : Clause) → IsFormula js f → row r f ≡ Some c → IsPossible js c
      choice_of : (js : List Line) (t : Term) (c : Clause) → IsEntered js t → exhaustion x.problem.signature t ≡ Some c → IsPossible js c
      order_of : (js : List Line) (s t : Term) (c : Clause) → IsEntered js s → IsEntered js t → trichotomy x.problem.signature s t ≡ Some c → IsPossible js c
      fresh_of : (js : List Line) (f : Formula) (c : Clause) → IsFormula js f → fresh_clause f (x.fresh f) (out-Formula f) ≡ Some c → IsPossible js c

    -- unit propagation from the decisions that stand, through the possible clauses: a clause gives a literal where the opposites of its others may stand
    pub data MayStand : List Line → Lit → Type 0 where
      decided : (js : List Line) (l : Lit) → IsDecided js l → MayStand js l
      reached : (js : List Line) (c : Clause) (l : Lit) → IsPossible js c → Contains c l → ((m : Lit) → Contains c m → m ≢ l → MayStand js (opposite m)) → MayStand js l

    -- a row of sort `int` that stands, as it is or rounded: an inequality literal's, or that of a `Combine` line after which only such lines have come
    pub data IsWholeRow : List Line → Bool → Lin → Type 0 where
      of_inequality : (js : List Line) (l : Lit) (s t : Term) (strict : Bool) (f : Lin) → MayStand js l → inequality l ≡ Some (s, t, strict) → sort_of x.problem.signature s ≡ Some Int → IsNormal f
          → sum_of_lin f ≡ sum_in (minus_val (value_now js s) (value_now js t)) → IsWholeRow js strict f
      of_combine : (js before after : List Line) (strict : Bool) (f : Lin) → js ≡ before ++ line.Combine strict f ∷ after → OnlyCombines after → f.parts ≢ []
          → AreWhole x.problem.signature x.names f → IsWholeRow js strict f
      of_rounding : (js : List Line) (strict : Bool) (f r : Lin) → IsWholeRow js strict f → IsRounded strict f r → IsNormal r → IsWholeRow js false r

  -- unit propagation from the decisions that stand, through the given clauses and the defining clauses of literals that surely stand, those that have the literal's opposite
  pub data SurelyStands (js : List Line) : Lit → Type 0 where
    by_decision : (l : Lit) → IsDecided js l → SurelyStands js l
    by_given : (c : Clause) (l : Lit) → IsGiven js c → Contains c l → ((m : Lit) → Contains c m → m ≢ l → SurelyStands js (opposite m)) → SurelyStands js l
    by_row : (w l : Lit) (r : ℕ) (c : Clause) → SurelyStands js w → row r w.formula ≡ Some c → Contains c (opposite w)
        → Contains c l → ((m : Lit) → Contains c m → m ≢ l → SurelyStands js (opposite m)) → SurelyStands js l

  -- ---- equations that may stand, and what follows from them
  abbrev pub MayEquate : List Line → Term → Term → Type 0
  MayEquate js s t = MayStand js (is_true (Eq s t))

  abbrev pub MayFollow : List Line → Term → Term → Type 0
  MayFollow js = Conseq x.problem.signature (MayEquate js)

  -- a name with its number
  abbrev pub IsNameAt : List Line → ℕ → Term → Type 0
  IsNameAt js n t = (slice_get x.names n ≡ Some t) × IsEntered js t

  -- r is the representative of name n
  abbrev pub Represents : List Line → ℕ → ℕ → Type 0
  Represents js n r = IsLeast x.problem.signature x.names (live js) n r

  -- r is the representative of name n, or was it at an earlier line that stands
  abbrev pub DidRepresent : List Line → ℕ → ℕ → Type 0
  DidRepresent js n r = (before : List Line) × (after : List Line) × (live js ≡ before ++ after) × IsLeast x.problem.signature x.names before n r

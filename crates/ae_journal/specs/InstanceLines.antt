-- When an instance line may come: matches by the equations that may stand, and their generations.
use Rattle.std.specs.Prelude.{ℕ, zero, suc, ◌<◌, Bool, true, List, [], ◌∷◌, ◌++◌, ◌≡◌, ◌⊎◌, length, Some}
use Rattle.std.specs.List.{Contains}
use Rattle.ae_core.specs.Sorts.{sort_of}
use Rattle.ae_rules.specs.Clauses.{Clause, yes_of}
use Rattle.ae_rules.specs.Instances.{fresh_clause}
use Rattle.ae_rules.specs.Derivations.{conclusion}
use Rattle.ae_rules.specs.Matches.{IsMatch}
use Rattle.ae_core.specs.declared.terms.Sort.{Sort}
use Rattle.ae_core.specs.declared.terms.Term.{Term, Apply}
use Rattle.ae_core.specs.declared.terms.Head.{Head}
use Rattle.ae_core.specs.declared.formulas.Formula.{Formula, out-Formula}
use Rattle.ae_core.specs.declared.formulas.Lit.{Lit}
use Rattle.ae_core.specs.declared.proofs.ClauseLine.TheVariants as clause_line
use Rattle.ae_journal.specs.Systems.{record_fields, field_terms}
use Rattle.ae_journal.specs.States.{outside, Owner, of_literal, of_axiom, Pattern, pattern_of, is_universal}
use Rattle.ae_journal.specs.Standing.{Setting, IsBrought, MayStand, MayFollow, parts_of}
use Rattle.ae_journal.specs.declared.lines.Line.{Line}
use Rattle.ae_journal.specs.declared.lines.Line.TheVariants as line

module _ (x : Setting) where
  -- ---- what some clauses bring: formulas, and terms with their subterms and fields
  pub data FormulaFrom (from : Clause → Type 0) : Formula → Type 0 where
    of_clause : (c : Clause) (l : Lit) → from c → Contains c l → FormulaFrom from l.formula
    of_fresh : (f : Formula) (c : Clause) (l : Lit) → FormulaFrom from f → fresh_clause f (x.fresh f) (out-Formula f) ≡ Some c → Contains c l → FormulaFrom from l.formula
    of_part : (f h : Formula) → FormulaFrom from f → Contains (parts_of f) h → FormulaFrom from h

  pub data TermFrom (from : Formula → Type 0) : Term → Type 0 where
    stands : (f : Formula) (t : Term) → from f → Contains (outside f) t → TermFrom from t
    part : (h : Head) (ss : List Sort) (us : List Term) (t : Term) → TermFrom from (Apply h ss us) → Contains us t → TermFrom from t
    field : (s : Sort) (ss : List Sort) (u t : Term) → TermFrom from u → sort_of x.problem.signature u ≡ Some s → record_fields x.problem.signature s ≡ Some ss
        → Contains (field_terms s u (length ss)) t → TermFrom from t

  -- ---- matches
  -- one term, or two whose equation follows from those that may stand
  abbrev pub AreEqualNow : List Line → Term → Term → Type 0
  AreEqualNow js s t = (s ≡ t) ⊎ MayFollow x js s t

  -- a literal or an axiom is matched, where all terms put and known applications come from some formulas
  pub record IsMatchAt (js : List Line) (from : Formula → Type 0) (owner : Owner) (ss : List Sort) (ts : List Term) : Type 0 where
    pub pattern : Pattern
    pub of_owner : pattern_of x.problem x.goal owner ≡ Some pattern
    pub trigger : List Term
    pub chosen : Contains pattern.choices trigger
    pub matches : IsMatch x.problem.signature (TermFrom from) (AreEqualNow js) pattern.type_vars pattern.vars trigger ss ts

  -- an instance line with its clause, and what it may be a match of: the axiom, the formula, or the axiom that gives the formula with some sorts
  pub data IsInstance : Line → Clause → Owner → List Sort → List Term → Type 0 where
    of_type : (k : ℕ) (ss : List Sort) (ts : List Term) (c : Clause) → conclusion x.problem x.goal (clause_line.Hyp k ss) ≡ Some c → IsInstance (line.TypeInstance k ss) c (of_axiom k) ss ts
    of_terms : (f : Formula) (ts : List Term) (c : Clause) (sign : Bool) → conclusion x.problem x.goal (clause_line.Inst f ts) ≡ Some c
        → IsInstance (line.TermInstance f ts) c (of_literal (record { positive = sign; formula = f })) [] ts
    of_axiom_terms : (k : ℕ) (ss : List Sort) (f : Formula) (ts : List Term) (c : Clause) → conclusion x.problem x.goal (clause_line.Hyp k ss) ≡ Some (yes_of f ∷ [])
        → conclusion x.problem x.goal (clause_line.Inst f ts) ≡ Some c → IsInstance (line.TermInstance f ts) c (of_axiom k) ss ts

  -- ---- generations
  -- the clause of an instance line of a match below n, at its own line or by the equations of a later one
  pub record IsInstanceBelow (at_most_n : Formula → Type 0) (js : List Line) (c : Clause) : Type 0 where
    pub before : List Line
    pub since : List Line
    pub later : List Line
    pub is : js ≡ before ++ since ++ later
    pub instance_line : Line
    pub rest : List Line
    pub begins : since ++ later ≡ instance_line ∷ rest
    pub owner : Owner
    pub sorts : List Sort
    pub terms : List Term
    pub brings : IsInstance instance_line c owner sorts terms
    pub matched : IsMatchAt (before ++ since) at_most_n owner sorts terms

  -- a formula of generation at most n: what the problem brings has 0, and what an instance of a match at n brings has n + 1
  abbrev pub HasGeneration : List Line → ℕ → Formula → Type 0
  HasGeneration js zero = FormulaFrom (IsBrought x [])
  HasGeneration js (suc n) = FormulaFrom (λ c. IsBrought x [] c ⊎ IsInstanceBelow (HasGeneration js n) js c)

  -- ---- the lines
  -- the formula acts as a universal one in a literal that may stand
  abbrev pub ActsAsUniversal : List Line → Formula → Type 0
  ActsAsUniversal js f = (sign : Bool) × MayStand x js (record { positive = sign; formula = f }) × (is_universal (record { positive = sign; formula = f }) ≡ true)

  -- an instance line is new and is of a match at a number below the bound; a formula that is instantiated acts as a universal one
  pub record MayInstantiate (bound : ℕ) (js : List Line) (j : Line) : Type 0 where
    pub new : ¬ Contains js j
    pub clause : Clause
    pub owner : Owner
    pub sorts : List Sort
    pub terms : List Term
    pub is : IsInstance j clause owner sorts terms
    pub acts : (f : Formula) (us : List Term) → j ≡ line.TermInstance f us → ActsAsUniversal js f
    pub number : ℕ
    pub below : number < bound
    pub matched : IsMatchAt js (HasGeneration js number) owner sorts terms

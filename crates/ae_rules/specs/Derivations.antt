-- Contradictory literals, and a derivation of a goal.
use Rattle.std.specs.Prelude.{ℕ, ℤ, pos, ◌*ℤ◌, Bool, true, false, ◌&&◌, List, [], ◌∷◌, ◌++◌, ◌≡◌, ◌≢◌, map, reverse, slice_get, Option, Some, None}
use Rattle.std.specs.List.{AllByRecursion, Contains, list_all, flat_map}
use Rattle.ae_math.specs.Fractions.{ℚ, zero_ℚ, neg_ℚ, is_positive, whole}
use Rattle.ae_core.specs.Sorts.{term_ok, formula_ok, is_closed_sort}
use Rattle.ae_base.specs.Options.{◌>>=◌, or_else, only, all_known}
use Rattle.ae_rules.specs.Linear.{Linear, factor_of}
use Rattle.ae_rules.specs.Lines.{Fact, equal, states, Stated, Given, Equated, AllAllowed, fact_ok, gap, HaveSort, AreNumbers, AreMultiples}
use Rattle.ae_rules.specs.Clauses.{Clause, yes_of, no_of, opposite, row, refutes}
use Rattle.ae_rules.specs.Instances.{hypothesis, instance_clause, fresh_clause, fresh_terms, exhaustion, trichotomy}
use Rattle.ae_core.specs.Constants.{constants, formula_constants, clause_constants}
use Rattle.ae_core.specs.declared.terms.Sort.{Sort, Int}
use Rattle.ae_core.specs.declared.terms.Term.{Term, Apply}
use Rattle.ae_core.specs.declared.terms.Head.{Head}
use Rattle.ae_core.specs.declared.terms.Head.TheVariants as head
use Rattle.ae_core.specs.declared.formulas.Formula.{Formula, Eq, Pred, out-Formula}
use Rattle.ae_core.specs.declared.formulas.Lit.{Lit}
use Rattle.ae_core.specs.declared.problems.Signature.{Signature}
use Rattle.ae_core.specs.declared.problems.SymbolEntry.{SymbolEntry}
use Rattle.ae_core.specs.declared.problems.Nature.TheVariants.{Choice}
use Rattle.ae_core.specs.declared.problems.Problem.{Problem}
use Rattle.ae_core.specs.declared.problems.Item.TheVariants.{Axiom, Goal as GoalItem}
use Rattle.ae_core.specs.declared.proofs.EqLine.{EqLine}
use Rattle.ae_core.specs.declared.proofs.Relation.{Relation}
use Rattle.ae_core.specs.declared.proofs.Relation.TheVariants.{Equal, AtMost, Below}
use Rattle.ae_core.specs.declared.proofs.Ending.{Ending}
use Rattle.ae_core.specs.declared.proofs.Ending.TheVariants as ending
use Rattle.ae_core.specs.declared.proofs.Block.{Block as BlockOf}
use Rattle.ae_core.specs.declared.proofs.ClauseLine.{ClauseLine}
use Rattle.ae_core.specs.declared.proofs.ClauseLine.TheVariants.{Hyp, Goal, Def, Inst, Fresh as FreshLine, Exh, Tri, Block, Rup}
use Rattle.ae_core.specs.declared.proofs.Proof.{Proof}

-- ---- contradictory literals
-- line k equates two terms that hypothesis i says are different
abbrev pub EndsNeq : List Lit → List EqLine → ℕ → ℕ → Type 0
EndsNeq hyps lines k i = (s : Term) × (t : Term) × Stated lines k (equal s t) × Given hyps i false (Eq s t)

-- the form has no opaque term
abbrev pub IsNumber : Linear → Type 0
IsNumber f = (u : Term) → factor_of f u ≡ zero_ℚ

-- line k equates two terms of one numeric sort that differ by a number other than 0
abbrev pub EndsConst : Signature → List EqLine → ℕ → Type 0
EndsConst sig lines k =
    (s : Term) × (t : Term) × Stated lines k (equal s t) × AreNumbers sig (equal s t) × IsNumber (gap (equal s t)) × ((gap (equal s t)).constant ≢ zero_ℚ)

-- a constructor of an enumeration
abbrev pub IsConstructor : Signature → Head → Type 0
IsConstructor sig (head.Symbol n) = (e : SymbolEntry) × (of : ℕ) × (place : ℕ) × (slice_get sig.symbols n ≡ Some e) × (e.nature ≡ Choice of place)
IsConstructor sig head.True = Unit {0}
IsConstructor sig head.False = Unit {0}
IsConstructor sig head.Void = Unit {0}
IsConstructor sig _ = ⊥

-- line k equates two different constructors
abbrev pub EndsClash : Signature → List EqLine → ℕ → Type 0
EndsClash sig lines k =
    (h : Head) × (i : Head) × Stated lines k (equal (Apply h [] []) (Apply i [] [])) × IsConstructor sig h × IsConstructor sig i × (h ≢ i)

-- hypothesis i says that a predicate holds of some arguments, and hypothesis j that it doesn't hold of arguments that the lines equate with them
abbrev pub EndsPred : List Lit → List EqLine → ℕ → ℕ → List ℕ → Type 0
EndsPred hyps lines i j ks =
    (p : ℕ) × (ss : List Sort) × (us : List Term) × (vs : List Term) × Given hyps i true (Pred p ss us) × Given hyps j false (Pred p ss vs) × Equated lines ks us vs

-- a gap that isn't positive is above nothing, and one that is negative isn't at least 0
abbrev pub CannotHold : Relation → ℚ → Type 0
CannotHold Equal x = ⊥
CannotHold AtMost x = is_positive (neg_ℚ x) ≡ true
CannotHold Below x = is_positive x ≡ false

-- line k is an inequality of terms of one numeric sort that differ by a number, and is false
abbrev pub EndsZero : Signature → List EqLine → ℕ → Type 0
EndsZero sig lines k = (f : Fact) × Stated lines k f × AreNumbers sig f × IsNumber (gap f) × CannotHold f.relation (gap f).constant

-- no integers for the opaque terms make the form 0: some opaque term occurs in it, and a common divisor of the factors doesn't divide the constant
pub record HasNoSolution (f : Linear) : Type 0 where
  pub occurs : (u : Term) × (factor_of f u ≢ zero_ℚ)
  pub divisor : ℕ
  pub divides : AreMultiples f divisor
  pub constant : ℤ
  pub is : f.constant ≡ whole constant
  pub not_divided : (z : ℤ) → constant ≢ z *ℤ pos divisor

-- line k is an equation of integers without a solution
abbrev pub EndsGcd : Signature → List EqLine → ℕ → Type 0
EndsGcd sig lines k = (s : Term) × (t : Term) × Stated lines k (equal s t) × HaveSort sig Int (equal s t) × HasNoSolution (gap (equal s t))

abbrev pub Ends : Signature → List Lit → List EqLine → Ending → Type 0
Ends sig hyps lines (ending.Neq k i) = EndsNeq hyps lines k i
Ends sig hyps lines (ending.Const k) = EndsConst sig lines k
Ends sig hyps lines (ending.Clash k) = EndsClash sig lines k
Ends sig hyps lines (ending.Pred i j ks) = EndsPred hyps lines i j ks
Ends sig hyps lines (ending.Zero k) = EndsZero sig lines k
Ends sig hyps lines (ending.Gcd k) = EndsGcd sig lines k

-- each formula of the clause is closed and well sorted
abbrev pub clause_ok : Signature → Clause → Bool
clause_ok sig c = list_all (λ l. formula_ok sig l.formula) c

-- a block: each line is allowed after those before it, and the ending after all of them
abbrev pub IsContradictory : Signature → BlockOf → Type 0
IsContradictory sig b =
    AllAllowed sig (fact_ok sig) b.deriv.hyps [] b.deriv.lines × Ends sig b.deriv.hyps b.deriv.lines b.ending

-- literals that can't hold together: there is an allowed block whose hypotheses are among them
pub record AreContradictory (sig : Signature) (ls : List Lit) : Type 0 where
  pub block : BlockOf
  pub sorted : clause_ok sig block.deriv.hyps ≡ true
  pub among : AllByRecursion (Contains ls) block.deriv.hyps
  pub contradictory : IsContradictory sig block

-- ---- clause lines
-- the formula of the goal at this place among the items
abbrev pub goal_body : Problem → ℕ → Option Formula
goal_body p g = slice_get p.items g >>= λ i. elim i [ Axiom n v f ↦ None | GoalItem n v f ↦ Some f ]

-- the clause that a line is written to state, for the goal at place g, whether the line fits the problem or not
abbrev pub clause_of : Problem → ℕ → ClauseLine → Option Clause
clause_of p g (Hyp k ss) = hypothesis p g k ss >>= λ f. Some (yes_of f ∷ [])
clause_of p g Goal = goal_body p g >>= λ f. Some (no_of f ∷ [])
clause_of p g (Def r f) = row r f
clause_of p g (Inst f ts) = instance_clause p.signature f ts (out-Formula f)
clause_of p g (FreshLine f m) = fresh_clause f m (out-Formula f)
clause_of p g (Exh t) = exhaustion p.signature t
clause_of p g (Tri s t) = trichotomy p.signature s t
clause_of p g (Block b) = Some (map opposite b.deriv.hyps)
clause_of p g (Rup c ks) = Some c

-- the formula, or the clause, is there and well sorted
abbrev pub formula_stands : Signature → Option Formula → Bool
formula_stands sig f = or_else (f >>= λ f. Some (formula_ok sig f)) false

abbrev pub clause_stands : Signature → Option Clause → Bool
clause_stands sig c = or_else (c >>= λ c. Some (clause_ok sig c)) false

-- each formula, term and sort that the line states or is given is closed and well sorted; the terms of a block's lines are in `fact_ok`
abbrev pub line_ok : Problem → ℕ → ClauseLine → Bool
line_ok p g (Hyp k ss) = list_all (is_closed_sort p.signature) ss && formula_stands p.signature (hypothesis p g k ss)
line_ok p g Goal = formula_stands p.signature (goal_body p g)
line_ok p g (Def r f) = formula_ok p.signature f
line_ok p g (Inst f ts) = formula_ok p.signature f && list_all (term_ok p.signature) ts
line_ok p g (FreshLine f m) = formula_ok p.signature f
line_ok p g (Exh t) = term_ok p.signature t && clause_stands p.signature (exhaustion p.signature t)
line_ok p g (Tri s t) = term_ok p.signature s && term_ok p.signature t
line_ok p g (Block b) = clause_ok p.signature b.deriv.hyps
line_ok p g (Rup c ks) = clause_ok p.signature c

-- the clause that a line states, for the goal at place g. There is none where a number, a sort or an arity doesn't fit the problem, in that clause
-- or in what the line is given: the hypotheses of a block, the terms and the sorts that are put. What a block's lines state doesn't count.
abbrev pub conclusion : Problem → ℕ → ClauseLine → Option Clause
conclusion p g l = only (line_ok p g l) (clause_of p g l)

-- it states a clause
abbrev pub HasConclusion : Problem → ℕ → ClauseLine → Type 0
HasConclusion p g l = (c : Clause) × (conclusion p g l ≡ Some c)

-- the clauses of the hinted earlier lines, in the order of the hints
abbrev pub stated_by : Problem → ℕ → List ClauseLine → ℕ → Option Clause
stated_by p g earlier k = slice_get earlier k >>= conclusion p g

abbrev pub hinted : Problem → ℕ → List ClauseLine → List ℕ → Option (List Clause)
hinted p g earlier ks = all_known (map (stated_by p g earlier) ks)

abbrev pub is_refuted : Option (List Clause) → Clause → Bool
is_refuted (Some cs) c = refutes c cs
is_refuted None c = false

-- the fresh constants of a line: those that stand in it, and those of its clause
abbrev pub own_constants : ClauseLine → List Term
own_constants (Hyp k ss) = []
own_constants Goal = []
own_constants (Def r f) = formula_constants f
own_constants (Inst f ts) = formula_constants f ++ flat_map constants ts
own_constants (FreshLine f m) = formula_constants f ++ fresh_terms m f
own_constants (Exh t) = constants t
own_constants (Tri s t) = constants s ++ constants t
own_constants (Block b) =
    clause_constants b.deriv.hyps ++ flat_map (λ l. constants (states l).left ++ constants (states l).right) b.deriv.lines
own_constants (Rup c ks) = clause_constants c

abbrev pub line_constants : Problem → ℕ → ClauseLine → List Term
line_constants p g l = own_constants l ++ clause_constants (or_else (conclusion p g l) [])

-- no earlier line, and not the formula, has one of the constants that the line puts
abbrev pub AreNew : Problem → ℕ → List ClauseLine → ℕ → Formula → Type 0
AreNew p g earlier m f =
    AllByRecursion (λ c. ¬ (Contains (formula_constants f ++ flat_map (line_constants p g) earlier) c)) (fresh_terms m f)

-- what the rule of a line asks beside
abbrev pub Meets : Problem → ℕ → List ClauseLine → ClauseLine → Type 0
Meets p g earlier (FreshLine f m) = AreNew p g earlier m f
Meets p g earlier (Block b) = IsContradictory p.signature b
Meets p g earlier (Rup c ks) = is_refuted (hinted p g earlier ks) c ≡ true
Meets p g earlier _ = Unit {0}

-- it states a clause, and what its rule asks beside is so
abbrev pub IsAllowed : Problem → ℕ → List ClauseLine → ClauseLine → Type 0
IsAllowed p g earlier l = HasConclusion p g l × Meets p g earlier l

-- each line is allowed after those before it
abbrev pub AreAllowed : Problem → ℕ → List ClauseLine → List ClauseLine → Type 0
AreAllowed p g earlier [] = Unit {0}
AreAllowed p g earlier (l ∷ ls) = IsAllowed p g earlier l × AreAllowed p g (earlier ++ l ∷ []) ls

abbrev pub last_of : List ClauseLine → Option ClauseLine
last_of ls = slice_get (reverse ls) 0

-- a derivation of the goal at place g among the items of the problem: each line is allowed after those before it, and the last one states the empty clause.
-- It knows no search: an axiom or a goal enters through a line alone, and no earlier goal is ever an axiom.
pub record Derives (p : Problem) (g : ℕ) (proof : Proof) : Type 0 where
  pub allowed : AreAllowed p g [] proof.lines
  pub empty : (last_of proof.lines >>= conclusion p g) ≡ Some []

-- Each formula of the clause of an allowed line is closed and well sorted: putting closed terms of the right sorts keeps sorts.
use Rattle.std.specs.Prelude.{ℕ, suc, Bool, true, false, cond, not, ◌&&◌, nat_eq, List, [], ◌∷◌, ◌≡◌, map, Option, Some, None}
use Rattle.std.specs.List.{AllByRecursion, list_all}
use Rattle.std.proofs.Common.{refl, sym, ap, ◌∙◌}
use Rattle.std.proofs.lemmas.Bool.{and_from, and_parts}
use Rattle.std.proofs.lemmas.Option.{same_Some, none-some}
use Rattle.ae_core.specs.Inner.Induction.{by_formulas}
use Rattle.ae_core.specs.Sorts.{sort_of, sorts_of, is_closed_sort, formula_in, formula_ok, quant_in, same_numeric, term_ok}
use Rattle.ae_base.specs.Options.{◌>>=◌, only, when, all_known}
use Rattle.ae_core.specs.Putting.{put_formula}
use Rattle.ae_rules.specs.Clauses.{Clause, literal, yes_of, no_of, is_true, is_false, opposite, row_at, row}
use Rattle.ae_rules.specs.Instances.{hypothesis, have_sorts, instance_clause, count_from, are_numbered, fresh_clause, exhaustion, trichotomy}
use Rattle.ae_rules.specs.Derivations.{clause_ok, formula_stands, clause_stands, goal_body, clause_of, conclusion, line_ok}
use Rattle.ae_core.specs.declared.terms.Sort.{Sort}
use Rattle.ae_core.specs.declared.terms.Term.{Term, Fresh}
use Rattle.ae_core.specs.declared.formulas.Formula.{Formula, Formula-F, True, False, Eq, Lt, And, Or, Xor, Iff, roll-Formula, out-Formula, roll-out-Formula}
use Rattle.ae_core.specs.declared.formulas.Formula.TheOpen as layer_of
use Rattle.ae_core.specs.declared.formulas.Formula.TheVariants.{rolls-All, rolls-Ex}
use Rattle.ae_core.specs.declared.formulas.Lit.{Lit}
use Rattle.ae_core.specs.declared.formulas.Quant.{Quant}
use Rattle.ae_core.specs.declared.problems.Signature.{Signature}
use Rattle.ae_core.specs.declared.problems.Problem.{Problem}
use Rattle.ae_core.specs.declared.proofs.ClauseLine.{ClauseLine}
use Rattle.ae_core.specs.declared.proofs.ClauseLine.TheVariants.{Hyp, Goal, Def, Inst, Fresh as FreshLine, Exh, Tri, Block, Rup}
use Rattle.ae_core.proofs.SortLaws.{sort_in_fresh, formula_in_eq, formula_in_lt, formula_in_not, formula_in_all, formula_in_ex, formula_in_and, formula_in_or, formula_in_xor, formula_in_iff}
use Rattle.ae_rules.proofs.ClauseLaws.{literal_true, literal_false, literal_eq, literal_lt, literal_le, literal_pred, literal_not, literal_and, literal_or, literal_xor, literal_iff, literal_all, literal_ex, row_true, row_false, row_eq, row_lt, row_le, row_pred, row_not, row_and, row_or, row_xor, row_iff, row_all, row_ex}
use Rattle.ae_core.proofs.SortFacts.{numeric_turned, numeric_known, sorts_known, block_parts}
use Rattle.ae_core.proofs.PutSorts.{body_put}
use Rattle.ae_base.proofs.Tests.{by_bool}
use Rattle.ae_base.proofs.Options.{only_some, when_some}

-- ---- literals and rows
-- a literal's formula is as well sorted as the formula
pub literal_sorted : (sig : Signature) (may : Sort → Bool) (env : List Sort) (f : Formula) (sign : Bool) → formula_in sig may env (literal sign f).formula ≡ formula_in sig may env f
literal_sorted sig may env =
    let same : (l m : Lit) → l ≡ m → formula_in sig may env l.formula ≡ formula_in sig may env m.formula = λ l m e. ap (λ x. formula_in sig may env x.formula) e in
    by_formulas (λ f. (sign : Bool) → formula_in sig may env (literal sign f).formula ≡ formula_in sig may env f) (λ q. Unit {0})
    (λ s. same _ _ (literal_true s))
    (λ s. same _ _ (literal_false s))
    (λ a b s. same _ _ (literal_eq s a b))
    (λ a b s. same _ _ (literal_lt s a b))
    (λ a b s. same _ _ (literal_le s a b))
    (λ p os us s. same _ _ (literal_pred s p os us))
    (λ a h s. same _ _ (literal_not s a) ∙ h (not s) ∙ sym (formula_in_not sig may env a))
    (λ a b h k s. same _ _ (literal_and s a b))
    (λ a b h k s. same _ _ (literal_or s a b))
    (λ a b h k s. same _ _ (literal_xor s a b))
    (λ a b h k s. same _ _ (literal_iff s a b))
    (λ q h s. same _ _ (literal_all s q))
    (λ q h s. same _ _ (literal_ex s q))
    (λ q h. tt)

module _ (sig : Signature) where
  abbrev Sorted : Clause → Type 0
  Sorted c = clause_ok sig c ≡ true

  sorted_literal : (sign : Bool) (f : Formula) → formula_ok sig f ≡ true → formula_ok sig (literal sign f).formula ≡ true
  sorted_literal sign f e = literal_sorted sig (is_closed_sort sig) [] f sign ∙ e

  one_of : (x : Bool) → x ≡ true → x && true ≡ true
  one_of x p = λ i. p i && true

  two_of : (x y : Bool) → x ≡ true → y ≡ true → x && (y && true) ≡ true
  two_of x y p q = λ i. p i && (q i && true)

  three_of : (x y z : Bool) → x ≡ true → y ≡ true → z ≡ true → x && (y && (z && true)) ≡ true
  three_of x y z p q r = λ i. p i && (q i && (r i && true))

  same_sorted : (c d : Clause) → Some c ≡ Some d → Sorted c → Sorted d
  same_sorted c d e s = ap (clause_ok sig) (sym (same_Some c d e)) ∙ s

  row_sorted : (r : ℕ) (table : List (ℕ × Clause)) (c : Clause) → row_at r table ≡ Some c → AllByRecursion (λ e. Sorted e.1) table → Sorted c
  row_sorted r [] c e a = absurd (none-some c e)
  row_sorted r (t ∷ ts) c e a =
      by_bool (nat_eq r t.0) (λ y. same_sorted t.1 c (sym (ap (λ b. cond b (Some t.1) (row_at r ts)) y) ∙ e) a.0)
      (λ n. row_sorted r ts c (sym (ap (λ b. cond b (Some t.1) (row_at r ts)) n) ∙ e) a.1)

  -- a connective and its parts
  module _ (f a b : Formula) (whole : formula_ok sig f ≡ true) (left : formula_ok sig a ≡ true) (right : formula_ok sig b ≡ true) where
    first : (sign sign' : Bool) → Sorted (record { positive = sign; formula = f } ∷ literal sign' a ∷ [])
    first sign sign' = two_of _ _ whole (sorted_literal sign' a left)

    second : (sign sign' : Bool) → Sorted (record { positive = sign; formula = f } ∷ literal sign' b ∷ [])
    second sign sign' = two_of _ _ whole (sorted_literal sign' b right)

    both : (sign s t : Bool) → Sorted (record { positive = sign; formula = f } ∷ literal s a ∷ literal t b ∷ [])
    both sign s t = three_of _ _ _ whole (sorted_literal s a left) (sorted_literal t b right)

  parts_sorted : (rule : Formula → Formula → Formula) → ((env : List Sort) (a b : Formula) → formula_in sig (is_closed_sort sig) env (rule a b) ≡ (formula_in sig (is_closed_sort sig) env a && formula_in sig (is_closed_sort sig) env b))
      → (a b : Formula) → formula_ok sig (rule a b) ≡ true → (formula_ok sig a ≡ true) × (formula_ok sig b ≡ true)
  parts_sorted rule sorted a b e = and_parts (formula_ok sig a) (formula_ok sig b) (sym (sorted [] a b) ∙ e)

  no_row : (o : Option Clause) (c : Clause) → o ≡ None → o ≡ Some c → Sorted c
  no_row o c n e = absurd (none-some c (sym n ∙ e))

  rows_sorted : (f : Formula) (r : ℕ) (c : Clause) → formula_ok sig f ≡ true → row r f ≡ Some c → Sorted c
  rows_sorted =
      by_formulas (λ f. (r : ℕ) (c : Clause) → formula_ok sig f ≡ true → row r f ≡ Some c → Sorted c) (λ q. Unit {0})
      (λ r c o e. row_sorted r ((15, is_true True ∷ []) ∷ []) c (sym (row_true r) ∙ e) (one_of _ o, tt))
      (λ r c o e. row_sorted r ((16, is_false False ∷ []) ∷ []) c (sym (row_false r) ∙ e) (one_of _ o, tt))
      (λ a b r c o e. no_row _ c (row_eq r a b) e)
      (λ a b r c o e. no_row _ c (row_lt r a b) e)
      (λ a b r c o e. no_row _ c (row_le r a b) e)
      (λ p ss us r c o e. no_row _ c (row_pred r p ss us) e)
      (λ a h r c o e. no_row _ c (row_not r a) e)
      (λ a b h k r c o e.
      let p = parts_sorted And (formula_in_and sig (is_closed_sort sig)) a b o in
      row_sorted r ((1, is_false (And a b) ∷ yes_of a ∷ []) ∷ (2, is_false (And a b) ∷ yes_of b ∷ []) ∷ (3, is_true (And a b) ∷ no_of a ∷ no_of b ∷ []) ∷ []) c (sym (row_and r a b) ∙ e) (first (And a b) a b o p.0 p.1 false true, (second (And a b) a b o p.0 p.1 false true, (both (And a b) a b o p.0 p.1 true false false, tt))))
      (λ a b h k r c o e.
      let p = parts_sorted Or (formula_in_or sig (is_closed_sort sig)) a b o in
      row_sorted r ((4, is_true (Or a b) ∷ no_of a ∷ []) ∷ (5, is_true (Or a b) ∷ no_of b ∷ []) ∷ (6, is_false (Or a b) ∷ yes_of a ∷ yes_of b ∷ []) ∷ []) c (sym (row_or r a b) ∙ e) (first (Or a b) a b o p.0 p.1 true false, (second (Or a b) a b o p.0 p.1 true false, (both (Or a b) a b o p.0 p.1 false true true, tt))))
      (λ a b h k r c o e.
      let p = parts_sorted Xor (formula_in_xor sig (is_closed_sort sig)) a b o in
      row_sorted r ((11, is_false (Xor a b) ∷ yes_of a ∷ yes_of b ∷ []) ∷ (12, is_false (Xor a b) ∷ no_of a ∷ no_of b ∷ []) ∷ (13, is_true (Xor a b) ∷ no_of a ∷ yes_of b ∷ []) ∷ (14, is_true (Xor a b) ∷ yes_of a ∷ no_of b ∷ []) ∷ []) c (sym (row_xor r a b) ∙ e) (both (Xor a b) a b o p.0 p.1 false true true, (both (Xor a b) a b o p.0 p.1 false false false, (both (Xor a b) a b o p.0 p.1 true false true, (both (Xor a b) a b o p.0 p.1 true true false, tt)))))
      (λ a b h k r c o e.
      let p = parts_sorted Iff (formula_in_iff sig (is_closed_sort sig)) a b o in
      row_sorted r ((7, is_false (Iff a b) ∷ no_of a ∷ yes_of b ∷ []) ∷ (8, is_false (Iff a b) ∷ yes_of a ∷ no_of b ∷ []) ∷ (9, is_true (Iff a b) ∷ yes_of a ∷ yes_of b ∷ []) ∷ (10, is_true (Iff a b) ∷ no_of a ∷ no_of b ∷ []) ∷ []) c (sym (row_iff r a b) ∙ e) (both (Iff a b) a b o p.0 p.1 false false true, (both (Iff a b) a b o p.0 p.1 false true false, (both (Iff a b) a b o p.0 p.1 true true true, (both (Iff a b) a b o p.0 p.1 true false false, tt)))))
      (λ q h r c o e. no_row _ c (row_all r q) e)
      (λ q h r c o e. no_row _ c (row_ex r q) e)
      (λ q h. tt)

  -- ---- what a line states
  constants_known : (m : ℕ) (ss : List Sort) → list_all (is_closed_sort sig) ss ≡ true → all_known (map (sort_of sig) (count_from m ss)) ≡ Some ss
  constants_known m [] e = refl
  constants_known m (s ∷ ss) e =
      let both = and_parts (is_closed_sort sig s) (list_all (is_closed_sort sig) ss) e in
      let one : sort_of sig (Fresh m s) ≡ Some s = sort_in_fresh sig (is_closed_sort sig) [] m s ∙ ap (λ b. when b s) both.0 in
      λ i. (one i >>= λ x. constants_known (suc m) ss both.1 i >>= λ xs. Some (x ∷ xs))

  -- the body of a block f with terms put, and the block
  put_sorted : (f : Formula) (q : Quant) (ts : List Term) (sign sign' : Bool) → formula_ok sig f ≡ true → quant_in sig (is_closed_sort sig) [] q ≡ true → all_known (map (sort_of sig) ts) ≡ Some q.sorts
      → Sorted (record { positive = sign; formula = f } ∷ literal sign' (put_formula ts q.body) ∷ [])
  put_sorted f q ts sign sign' whole block terms =
      two_of _ _ whole (sorted_literal sign' (put_formula ts q.body) (body_put sig (is_closed_sort sig) q.sorts ts terms q.body (block_parts sig q block).1))

  all_block : (f : Formula) (q : Quant) → roll-Formula (layer_of.All q) ≡ f → formula_ok sig f ≡ true → quant_in sig (is_closed_sort sig) [] q ≡ true
  all_block f q r e = sym (formula_in_all sig (is_closed_sort sig) [] q) ∙ ap (formula_ok sig) (sym (rolls-All q) ∙ r) ∙ e

  ex_block : (f : Formula) (q : Quant) → roll-Formula (layer_of.Ex q) ≡ f → formula_ok sig f ≡ true → quant_in sig (is_closed_sort sig) [] q ≡ true
  ex_block f q r e = sym (formula_in_ex sig (is_closed_sort sig) [] q) ∙ ap (formula_ok sig) (sym (rolls-Ex q) ∙ r) ∙ e

  instance_sorted : (f : Formula) (ts : List Term) (l : Formula-F Formula Quant) → roll-Formula l ≡ f → formula_ok sig f ≡ true → (c : Clause) → instance_clause sig f ts l ≡ Some c → Sorted c
  instance_sorted f ts (layer_of.All q) r o c e =
      let w = when_some (have_sorts sig ts q.sorts) (is_false f ∷ yes_of (put_formula ts q.body) ∷ []) c e in
      same_sorted _ c (ap Some w.1) (put_sorted f q ts false true o (all_block f q r o) (sorts_known (sorts_of sig ts) q.sorts w.0))
  instance_sorted f ts (layer_of.Ex q) r o c e =
      let w = when_some (have_sorts sig ts q.sorts) (is_true f ∷ no_of (put_formula ts q.body) ∷ []) c e in
      same_sorted _ c (ap Some w.1) (put_sorted f q ts true false o (ex_block f q r o) (sorts_known (sorts_of sig ts) q.sorts w.0))
  instance_sorted f ts layer_of.True r o c e = absurd (none-some c e)
  instance_sorted f ts layer_of.False r o c e = absurd (none-some c e)
  instance_sorted f ts (layer_of.Eq a b) r o c e = absurd (none-some c e)
  instance_sorted f ts (layer_of.Lt a b) r o c e = absurd (none-some c e)
  instance_sorted f ts (layer_of.Le a b) r o c e = absurd (none-some c e)
  instance_sorted f ts (layer_of.Pred p ss us) r o c e = absurd (none-some c e)
  instance_sorted f ts (layer_of.Not a) r o c e = absurd (none-some c e)
  instance_sorted f ts (layer_of.And a b) r o c e = absurd (none-some c e)
  instance_sorted f ts (layer_of.Or a b) r o c e = absurd (none-some c e)
  instance_sorted f ts (layer_of.Xor a b) r o c e = absurd (none-some c e)
  instance_sorted f ts (layer_of.Iff a b) r o c e = absurd (none-some c e)

  fresh_sorted : (f : Formula) (m : ℕ) (l : Formula-F Formula Quant) → roll-Formula l ≡ f → formula_ok sig f ≡ true → (c : Clause) → fresh_clause f m l ≡ Some c → Sorted c
  fresh_sorted f m (layer_of.All q) r o c e =
      let w = when_some (are_numbered m q.sorts) (is_true f ∷ no_of (put_formula (count_from m q.sorts) q.body) ∷ []) c e in
      let block = all_block f q r o in
      same_sorted _ c (ap Some w.1) (put_sorted f q (count_from m q.sorts) true false o block (constants_known m q.sorts (block_parts sig q block).0))
  fresh_sorted f m (layer_of.Ex q) r o c e =
      let w = when_some (are_numbered m q.sorts) (is_false f ∷ yes_of (put_formula (count_from m q.sorts) q.body) ∷ []) c e in
      let block = ex_block f q r o in
      same_sorted _ c (ap Some w.1) (put_sorted f q (count_from m q.sorts) false true o block (constants_known m q.sorts (block_parts sig q block).0))
  fresh_sorted f m layer_of.True r o c e = absurd (none-some c e)
  fresh_sorted f m layer_of.False r o c e = absurd (none-some c e)
  fresh_sorted f m (layer_of.Eq a b) r o c e = absurd (none-some c e)
  fresh_sorted f m (layer_of.Lt a b) r o c e = absurd (none-some c e)
  fresh_sorted f m (layer_of.Le a b) r o c e = absurd (none-some c e)
  fresh_sorted f m (layer_of.Pred p ss us) r o c e = absurd (none-some c e)
  fresh_sorted f m (layer_of.Not a) r o c e = absurd (none-some c e)
  fresh_sorted f m (layer_of.And a b) r o c e = absurd (none-some c e)
  fresh_sorted f m (layer_of.Or a b) r o c e = absurd (none-some c e)
  fresh_sorted f m (layer_of.Xor a b) r o c e = absurd (none-some c e)
  fresh_sorted f m (layer_of.Iff a b) r o c e = absurd (none-some c e)

  formula_sorted : (o : Option Formula) (sign : Bool) (c : Clause) → formula_stands sig o ≡ true → (o >>= λ f. Some (literal sign f ∷ [])) ≡ Some c → Sorted c
  formula_sorted (Some f) sign c s e = same_sorted _ c e (one_of _ (sorted_literal sign f s))
  formula_sorted None sign c s e = absurd (none-some c e)

  clause_sorted : (o : Option Clause) (c : Clause) → clause_stands sig o ≡ true → o ≡ Some c → Sorted c
  clause_sorted (Some d) c s e = same_sorted d c e s
  clause_sorted None c s e = absurd (none-some c e)

  opposites_sorted : (hs : List Lit) → Sorted hs → Sorted (map opposite hs)
  opposites_sorted [] e = refl
  opposites_sorted (h ∷ hs) e = let both = and_parts (formula_ok sig h.formula) (clause_ok sig hs) e in and_from _ _ both.0 (opposites_sorted hs both.1)

  numbers_sorted : (s t : Term) (c : Clause) → trichotomy sig s t ≡ Some c → Sorted c
  numbers_sorted s t c e =
      let may = is_closed_sort sig in
      let w = when_some (same_numeric (sort_of sig s) (sort_of sig t)) (is_true (Eq s t) ∷ is_true (Lt s t) ∷ is_true (Lt t s) ∷ []) c e in
      same_sorted _ c (ap Some w.1)
      (three_of _ _ _ (formula_in_eq sig may [] s t ∙ numeric_known _ _ w.0) (formula_in_lt sig may [] s t ∙ w.0) (formula_in_lt sig may [] t s ∙ numeric_turned sig s t w.0))

-- each formula of the clause of a line is closed and well sorted, where those that stand in the line are
pub line_sorted : (p : Problem) (g : ℕ) (l : ClauseLine) (c : Clause) → line_ok p g l ≡ true → clause_of p g l ≡ Some c → clause_ok p.signature c ≡ true
line_sorted p g (Hyp k ss) c o e = formula_sorted p.signature (hypothesis p g k ss) true c (and_parts (list_all (is_closed_sort p.signature) ss) (formula_stands p.signature (hypothesis p g k ss)) o).1 e
line_sorted p g Goal c o e = formula_sorted p.signature (goal_body p g) false c o e
line_sorted p g (Def r f) c o e = rows_sorted p.signature f r c o e
line_sorted p g (Inst f ts) c o e = instance_sorted p.signature f ts (out-Formula f) (roll-out-Formula f) (and_parts (formula_ok p.signature f) (list_all (term_ok p.signature) ts) o).0 c e
line_sorted p g (FreshLine f m) c o e = fresh_sorted p.signature f m (out-Formula f) (roll-out-Formula f) o c e
line_sorted p g (Exh t) c o e = clause_sorted p.signature (exhaustion p.signature t) c (and_parts (term_ok p.signature t) (clause_stands p.signature (exhaustion p.signature t)) o).1 e
line_sorted p g (Tri s t) c o e = numbers_sorted p.signature s t c e
line_sorted p g (Block b) c o e = same_sorted p.signature _ c e (opposites_sorted p.signature b.deriv.hyps o)
line_sorted p g (Rup d ks) c o e = same_sorted p.signature d c e o

-- ---- a line that states a clause fits, and the clause is the one that it is written to state
pub states_clause : (p : Problem) (g : ℕ) (l : ClauseLine) (c : Clause) → conclusion p g l ≡ Some c → (line_ok p g l ≡ true) × (clause_of p g l ≡ Some c)
states_clause p g l c e = only_some (line_ok p g l) (clause_of p g l) c e

pub clause_stated : (p : Problem) (g : ℕ) (l : ClauseLine) (c : Clause) → line_ok p g l ≡ true → clause_of p g l ≡ Some c → conclusion p g l ≡ Some c
clause_stated p g l c o e = ap (λ b. only b (clause_of p g l)) o ∙ e

pub stated_sorted : (p : Problem) (g : ℕ) (l : ClauseLine) (c : Clause) → conclusion p g l ≡ Some c → clause_ok p.signature c ≡ true
stated_sorted p g l c e = let s = states_clause p g l c e in line_sorted p g l c s.0 s.1

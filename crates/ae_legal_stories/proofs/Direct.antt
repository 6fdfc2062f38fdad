-- In a legal journal no literal that may stand is a negation: the clauses that may give it have none, and what was learnt says the opposite of what may stand.
use Rattle.std.specs.Prelude.{ℕ, zero, suc, ◌<◌, Bool, true, false, not, cond, nat_eq, List, [], ◌∷◌, ◌++◌, ◌≡◌, map, length, Some}
use Rattle.std.specs.List.{AllByRecursion, Contains}
use Rattle.std.proofs.Common.{refl, sym, ap, ◌∙◌, subst, arith, inl, inr, length-append}
use Rattle.std.proofs.lemmas.Bool.{and_from, and_parts}
use Rattle.std.proofs.lemmas.Option.{same_Some}
use Rattle.ae_base.specs.Options.{◌>>=◌}
use Rattle.ae_base.proofs.AllOf.{all_of_test}
use Rattle.ae_base.proofs.Options.{bind_some, never_some, when_some}
use Rattle.ae_base.proofs.Tests.{by_bool}
use Rattle.ae_core.specs.Sorts.{same_numeric, sort_of}
use Rattle.ae_core.specs.Putting.{put_formula}
use Rattle.ae_core.specs.declared.formulas.Formula.{Formula, Formula-F, Eq, Lt, out-Formula}
use Rattle.ae_core.specs.declared.formulas.Formula.TheOpen as layer
use Rattle.ae_core.specs.declared.formulas.Formula.TheVariants.{outs-Eq, outs-Lt}
use Rattle.ae_core.specs.declared.formulas.Lit.{Lit}
use Rattle.ae_core.specs.declared.formulas.Quant.{Quant}
use Rattle.ae_core.specs.declared.problems.Signature.{Signature}
use Rattle.ae_core.specs.declared.proofs.ClauseLine.TheVariants as clause_line
use Rattle.ae_core.specs.declared.terms.Head.{Head}
use Rattle.ae_core.specs.declared.terms.Sort.{out-Sort}
use Rattle.ae_core.specs.declared.terms.Term.{Term, Apply}
use Rattle.ae_journal.proofs.LegalFronts.{front, line_at}
use Rattle.ae_journal.proofs.LegalRows.{decided_on_line}
use Rattle.ae_journal.proofs.Splits.{all_contained, cut}
use Rattle.ae_journal.specs.Legal.{AreLegal}
use Rattle.ae_journal.specs.SolverLines.{MayDecide, MayLearn}
use Rattle.ae_journal.specs.Standing.{Setting, IsBrought, IsPossible, MayStand}
use Rattle.ae_journal.specs.Standing.IsBrought.{by_hypothesis, by_goal, by_type_instance, by_term_instance}
use Rattle.ae_journal.specs.Standing.IsPossible.{given, row_of as row_clause, choice_of, order_of, fresh_of}
use Rattle.ae_journal.specs.Standing.MayStand.{decided, reached}
use Rattle.ae_journal.specs.declared.lines.Line.{Line}
use Rattle.ae_journal.specs.declared.lines.Line.TheVariants as line
use Rattle.ae_legal_texts.proofs.Signs.{said_direct}
use Rattle.ae_legal_texts.specs.Writable.{is_negation, no_negations}
use Rattle.ae_rules.proofs.SortedLines.{states_clause}
use Rattle.ae_rules.specs.Clauses.{Clause, literal, is_true, is_false, yes_of, no_of, opposite, row, row_at, row_of}
use Rattle.ae_rules.specs.declared.rows.TheConstants.{AND_TO_LEFT, AND_TO_RIGHT, AND_FROM_BOTH, OR_FROM_LEFT, OR_FROM_RIGHT, OR_TO_EITHER, IFF_TO_RIGHT, IFF_TO_LEFT, IFF_FROM_NEITHER, IFF_FROM_BOTH}
use Rattle.ae_rules.specs.declared.rows.TheConstants.{XOR_TO_EITHER, XOR_TO_NOT_BOTH, XOR_FROM_LEFT, XOR_FROM_RIGHT, TRUE_STANDS, FALSE_FAILS}
use Rattle.ae_rules.specs.Instances.{hypothesis, have_sorts, instance_clause, count_from, are_numbered, fresh_clause, exhaustion, choices_of, trichotomy}

-- ---- literals
abbrev IsDirect : Formula → Type 0
IsDirect f = not (is_negation (out-Formula f)) ≡ true

abbrev AreDirect : Clause → Type 0
AreDirect c = no_negations c ≡ true

direct_yes : (f : Formula) → IsDirect (yes_of f).formula
direct_yes f = (and_parts _ (no_negations (no_of f ∷ [])) (said_direct f)).0

direct_no : (f : Formula) → IsDirect (no_of f).formula
direct_no f = (and_parts _ true (and_parts (not (is_negation (out-Formula (yes_of f).formula))) (no_negations (no_of f ∷ [])) (said_direct f)).1).0

said : (sign : Bool) (f : Formula) → IsDirect (literal sign f).formula
said true f = direct_yes f
said false f = direct_no f

one_of : (l : Lit) → IsDirect l.formula → AreDirect (l ∷ [])
one_of l p = and_from _ true p refl

two_of : (l m : Lit) → IsDirect l.formula → IsDirect m.formula → AreDirect (l ∷ m ∷ [])
two_of l m p q = and_from _ _ p (one_of m q)

three_of : (k l m : Lit) → IsDirect k.formula → IsDirect l.formula → IsDirect m.formula → AreDirect (k ∷ l ∷ m ∷ [])
three_of k l m p q r = and_from _ _ p (two_of l m q r)

same_direct : (c d : Clause) → Some c ≡ Some d → AreDirect c → AreDirect d
same_direct c d e s = ap no_negations (sym (same_Some c d e)) ∙ s

-- ---- the clauses of lines
table_direct : (r : ℕ) (table : List (ℕ × Clause)) (c : Clause) → row_at r table ≡ Some c → AllByRecursion (λ e. AreDirect e.1) table → AreDirect c
table_direct r [] c e a = never_some c e
table_direct r (t ∷ ts) c e a =
    by_bool (nat_eq r t.0) (λ y. same_direct t.1 c (sym (ap (λ b. cond b (Some t.1) (row_at r ts)) y) ∙ e) a.0)
    (λ n. table_direct r ts c (sym (ap (λ b. cond b (Some t.1) (row_at r ts)) n) ∙ e) a.1)

module _ (f : Formula) (d : IsDirect f) where
  -- the formula, and one or two of its parts
  with_one : (sign s : Bool) (a : Formula) → AreDirect (record { positive = sign; formula = f } ∷ literal s a ∷ [])
  with_one sign s a = two_of (record { positive = sign; formula = f }) (literal s a) d (said s a)

  with_two : (sign s t : Bool) (a b : Formula) → AreDirect (record { positive = sign; formula = f } ∷ literal s a ∷ literal t b ∷ [])
  with_two sign s t a b = three_of (record { positive = sign; formula = f }) (literal s a) (literal t b) d (said s a) (said t b)

row_direct : (f : Formula) (l : Formula-F Formula Quant) → out-Formula f ≡ l → (r : ℕ) (c : Clause) → row_of r f l ≡ Some c → AreDirect c
unfolding row_of
row_direct f layer.True o r c e = table_direct r ((TRUE_STANDS, is_true f ∷ []) ∷ []) c e (one_of (is_true f) (ap (λ l. not (is_negation l)) o), tt)
row_direct f layer.False o r c e = table_direct r ((FALSE_FAILS, is_false f ∷ []) ∷ []) c e (one_of (is_false f) (ap (λ l. not (is_negation l)) o), tt)
row_direct f (layer.And a b) o r c e =
    let d : IsDirect f = ap (λ l. not (is_negation l)) o in
    table_direct r ((AND_TO_LEFT, is_false f ∷ yes_of a ∷ []) ∷ (AND_TO_RIGHT, is_false f ∷ yes_of b ∷ []) ∷ (AND_FROM_BOTH, is_true f ∷ no_of a ∷ no_of b ∷ []) ∷ []) c e
    (with_one f d false true a, (with_one f d false true b, (with_two f d true false false a b, tt)))
row_direct f (layer.Or a b) o r c e =
    let d : IsDirect f = ap (λ l. not (is_negation l)) o in
    table_direct r ((OR_FROM_LEFT, is_true f ∷ no_of a ∷ []) ∷ (OR_FROM_RIGHT, is_true f ∷ no_of b ∷ []) ∷ (OR_TO_EITHER, is_false f ∷ yes_of a ∷ yes_of b ∷ []) ∷ []) c e
    (with_one f d true false a, (with_one f d true false b, (with_two f d false true true a b, tt)))
row_direct f (layer.Iff a b) o r c e =
    let d : IsDirect f = ap (λ l. not (is_negation l)) o in
    table_direct r
    (
    (IFF_TO_RIGHT, is_false f ∷ no_of a ∷ yes_of b ∷ []) ∷ (IFF_TO_LEFT, is_false f ∷ yes_of a ∷ no_of b ∷ [])
    ∷ (IFF_FROM_NEITHER, is_true f ∷ yes_of a ∷ yes_of b ∷ []) ∷ (IFF_FROM_BOTH, is_true f ∷ no_of a ∷ no_of b ∷ []) ∷ []
    ) c e
    (with_two f d false false true a b, (with_two f d false true false a b, (with_two f d true true true a b, (with_two f d true false false a b, tt))))
row_direct f (layer.Xor a b) o r c e =
    let d : IsDirect f = ap (λ l. not (is_negation l)) o in
    table_direct r
    (
    (XOR_TO_EITHER, is_false f ∷ yes_of a ∷ yes_of b ∷ []) ∷ (XOR_TO_NOT_BOTH, is_false f ∷ no_of a ∷ no_of b ∷ [])
    ∷ (XOR_FROM_LEFT, is_true f ∷ no_of a ∷ yes_of b ∷ []) ∷ (XOR_FROM_RIGHT, is_true f ∷ yes_of a ∷ no_of b ∷ []) ∷ []
    ) c e
    (with_two f d false true true a b, (with_two f d false false false a b, (with_two f d true false true a b, (with_two f d true true false a b, tt))))
row_direct f (layer.Eq a b) o r c e = never_some c e
row_direct f (layer.Lt a b) o r c e = never_some c e
row_direct f (layer.Le a b) o r c e = never_some c e
row_direct f (layer.Pred p ss us) o r c e = never_some c e
row_direct f (layer.Not a) o r c e = never_some c e
row_direct f (layer.All q) o r c e = never_some c e
row_direct f (layer.Ex q) o r c e = never_some c e

rows_direct : (f : Formula) (r : ℕ) (c : Clause) → row r f ≡ Some c → AreDirect c
unfolding row
rows_direct f r c e = row_direct f (out-Formula f) refl r c e

instance_direct : (sig : Signature) (f : Formula) (ts : List Term) (l : Formula-F Formula Quant) → out-Formula f ≡ l → (c : Clause) → instance_clause sig f ts l ≡ Some c → AreDirect c
instance_direct sig f ts (layer.All q) o c e =
    let w = when_some (have_sorts sig ts q.sorts) (is_false f ∷ yes_of (put_formula ts q.body) ∷ []) c e in
    same_direct _ c (ap Some w.1) (with_one f (ap (λ l. not (is_negation l)) o) false true (put_formula ts q.body))
instance_direct sig f ts (layer.Ex q) o c e =
    let w = when_some (have_sorts sig ts q.sorts) (is_true f ∷ no_of (put_formula ts q.body) ∷ []) c e in
    same_direct _ c (ap Some w.1) (with_one f (ap (λ l. not (is_negation l)) o) true false (put_formula ts q.body))
instance_direct sig f ts layer.True o c e = never_some c e
instance_direct sig f ts layer.False o c e = never_some c e
instance_direct sig f ts (layer.Eq a b) o c e = never_some c e
instance_direct sig f ts (layer.Lt a b) o c e = never_some c e
instance_direct sig f ts (layer.Le a b) o c e = never_some c e
instance_direct sig f ts (layer.Pred p ss us) o c e = never_some c e
instance_direct sig f ts (layer.Not a) o c e = never_some c e
instance_direct sig f ts (layer.And a b) o c e = never_some c e
instance_direct sig f ts (layer.Or a b) o c e = never_some c e
instance_direct sig f ts (layer.Xor a b) o c e = never_some c e
instance_direct sig f ts (layer.Iff a b) o c e = never_some c e

fresh_direct : (f : Formula) (m : ℕ) (l : Formula-F Formula Quant) → out-Formula f ≡ l → (c : Clause) → fresh_clause f m l ≡ Some c → AreDirect c
fresh_direct f m (layer.Ex q) o c e =
    let w = when_some (are_numbered m q.sorts) (is_false f ∷ yes_of (put_formula (count_from m q.sorts) q.body) ∷ []) c e in
    same_direct _ c (ap Some w.1) (with_one f (ap (λ l. not (is_negation l)) o) false true (put_formula (count_from m q.sorts) q.body))
fresh_direct f m (layer.All q) o c e =
    let w = when_some (are_numbered m q.sorts) (is_true f ∷ no_of (put_formula (count_from m q.sorts) q.body) ∷ []) c e in
    same_direct _ c (ap Some w.1) (with_one f (ap (λ l. not (is_negation l)) o) true false (put_formula (count_from m q.sorts) q.body))
fresh_direct f m layer.True o c e = never_some c e
fresh_direct f m layer.False o c e = never_some c e
fresh_direct f m (layer.Eq a b) o c e = never_some c e
fresh_direct f m (layer.Lt a b) o c e = never_some c e
fresh_direct f m (layer.Le a b) o c e = never_some c e
fresh_direct f m (layer.Pred p ss us) o c e = never_some c e
fresh_direct f m (layer.Not a) o c e = never_some c e
fresh_direct f m (layer.And a b) o c e = never_some c e
fresh_direct f m (layer.Or a b) o c e = never_some c e
fresh_direct f m (layer.Xor a b) o c e = never_some c e
fresh_direct f m (layer.Iff a b) o c e = never_some c e

equation_direct : (a b : Term) → IsDirect (Eq a b)
equation_direct a b = ap (λ l. not (is_negation l)) (outs-Eq a b)

below_direct : (a b : Term) → IsDirect (Lt a b)
below_direct a b = ap (λ l. not (is_negation l)) (outs-Lt a b)

choices_direct : (t : Term) (hs : List Head) → AreDirect (map (λ h. is_true (Eq t (Apply h [] []))) hs)
choices_direct t [] = refl
choices_direct t (h ∷ hs) = and_from _ _ (equation_direct t (Apply h [] [])) (choices_direct t hs)

choice_direct : (sig : Signature) (t : Term) (c : Clause) → exhaustion sig t ≡ Some c → AreDirect c
choice_direct sig t c e =
    let x = bind_some (sort_of sig t) (λ s. choices_of sig (out-Sort s) >>= λ cs. Some (map (λ h. is_true (Eq t (Apply h [] []))) cs)) c e in
    let y = bind_some (choices_of sig (out-Sort x.0)) (λ cs. Some (map (λ h. is_true (Eq t (Apply h [] []))) cs)) c x.2 in
    same_direct _ c y.2 (choices_direct t y.0)

order_direct : (sig : Signature) (s t : Term) (c : Clause) → trichotomy sig s t ≡ Some c → AreDirect c
order_direct sig s t c e =
    let w = when_some (same_numeric (sort_of sig s) (sort_of sig t)) (is_true (Eq s t) ∷ is_true (Lt s t) ∷ is_true (Lt t s) ∷ []) c e in
    same_direct _ c (ap Some w.1) (three_of (is_true (Eq s t)) (is_true (Lt s t)) (is_true (Lt t s)) (equation_direct s t) (below_direct s t) (below_direct t s))

-- ---- journals
module _ (x : Setting) (bound : ℕ) where
  brought_direct : (js : List Line) (c : Clause) → IsBrought x js c → AreDirect c
  brought_direct js _ (by_hypothesis k f e) = one_of (yes_of f) (direct_yes f)
  brought_direct js _ (by_goal f e) = one_of (no_of f) (direct_no f)
  brought_direct js _ (by_type_instance k ss c i e) =
      let s = (states_clause x.problem x.goal (clause_line.Hyp k ss) c e).1 in
      let f = bind_some (hypothesis x.problem x.goal k ss) (λ f. Some (yes_of f ∷ [])) c s in
      same_direct (yes_of f.0 ∷ []) c f.2 (one_of (yes_of f.0) (direct_yes f.0))
  brought_direct js _ (by_term_instance f ts c i e) =
      instance_direct x.problem.signature f ts (out-Formula f) refl c (states_clause x.problem x.goal (clause_line.Inst f ts) c e).1

  abbrev Said : Lit → Type 0
  Said l = IsDirect l.formula

  each_direct : (c : Clause) → AreDirect c → (l : Lit) → Contains c l → Said l
  each_direct c d l i = all_contained Said c l (all_of_test (λ l. not (is_negation (out-Formula l.formula))) Said (λ l e. e) c d) i

  abbrev SaidIn : Clause → Type 0
  SaidIn c = (l : Lit) → Contains c l → Said l

  possible_direct : (js : List Line) → ((c : Clause) → Contains js (line.Learn c) → SaidIn c) → (c : Clause) → IsPossible x js c → SaidIn c
  possible_direct js learnt _ (given _ c (inl b)) l i = each_direct c (brought_direct js c b) l i
  possible_direct js learnt _ (given _ c (inr h)) l i = learnt c h l i
  possible_direct js learnt _ (row_clause _ f r c a e) l i = each_direct c (rows_direct f r c e) l i
  possible_direct js learnt _ (choice_of _ t c a e) l i = each_direct c (choice_direct x.problem.signature t c e) l i
  possible_direct js learnt _ (order_of _ s t c a b e) l i = each_direct c (order_direct x.problem.signature s t c e) l i
  possible_direct js learnt _ (fresh_of _ f c a e) l i = each_direct c (fresh_direct f (x.fresh f) (out-Formula f) refl c e) l i

  -- by the number of lines: what is learnt or decided was possible before
  abbrev Before : ℕ → Type 0
  Before n = (js : List Line) → length js < n → AreLegal x bound [] js → (l : Lit) → MayStand x js l → Said l

  shorter : (n : ℕ) (js a b : List Line) (k : Line) → js ≡ a ++ k ∷ b → length js < suc n → length a < n
  shorter n js a b k e s = let m = length-append a (k ∷ b) in let h : length js ≡ length (a ++ k ∷ b) = ap (λ (w : List Line). length w) e in omega (arith, m, h, s)

  legal_front : (js a b : List Line) (k : Line) → js ≡ a ++ k ∷ b → AreLegal x bound [] js → AreLegal x bound [] a
  legal_front js a b k e g = front x bound [] a (k ∷ b) (subst (AreLegal x bound []) e g)

  learnt_direct : (n : ℕ) → Before n → (js : List Line) → length js < suc n → AreLegal x bound [] js → (c : Clause) → Contains js (line.Learn c) → SaidIn c
  learnt_direct n rec js s g c h l i =
      let d = cut js (line.Learn c) h in
      let m : MayLearn x d.0 c = line_at x bound [] d.0 d.1 (line.Learn c) (subst (AreLegal x bound []) d.2 g) in
      rec d.0 (shorter n js d.0 d.1 (line.Learn c) d.2 s) (legal_front js d.0 d.1 (line.Learn c) d.2 g) (opposite l) (m.fails l i)

  before_direct : (n : ℕ) → Before n
  before_direct zero js s g l m = absurd (omega (arith, s))
  before_direct (suc n) js s g _ (reached _ c l p h f) = possible_direct js (learnt_direct n (before_direct n) js s g) c p l h
  before_direct (suc n) js s g _ (decided _ l h) =
      let d = cut js (line.Decide l) (decided_on_line js l h) in
      let m : MayDecide x d.0 l = line_at x bound [] d.0 d.1 (line.Decide l) (subst (AreLegal x bound []) d.2 g) in
      let k = shorter n js d.0 d.1 (line.Decide l) d.2 s in
      possible_direct d.0 (learnt_direct n (before_direct n) d.0 (omega (arith, k)) (legal_front js d.0 d.1 (line.Decide l) d.2 g)) m.clause m.possible l m.of_it

  -- in a legal journal
  module _ (js : List Line) (g : AreLegal x bound [] js) where
    pub decision_direct : (l : Lit) → MayDecide x js l → Said l
    decision_direct l m = possible_direct js (learnt_direct (length js) (before_direct (length js)) js (omega arith) g) m.clause m.possible l m.of_it

    pub lesson_direct : (c : Clause) → MayLearn x js c → SaidIn c
    lesson_direct c m l i = before_direct (suc (length js)) js (omega arith) g (opposite l) (m.fails l i)

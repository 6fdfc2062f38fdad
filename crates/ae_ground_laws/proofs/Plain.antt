-- Plain terms: with terms put for variables, in the first formulas of a goal, and among all that occurs in it.
use Rattle.std.specs.Prelude.{ℕ, zero, suc, ◌-◌, ℤ, Bool, true, false, cond, ◌&&◌, ◌||◌, nat_lt, List, [], ◌∷◌, ◌++◌, ◌≡◌, map, length, reverse, slice_get, Option, Some, None}
use Rattle.std.specs.List.{AllByRecursion, list_all}
use Rattle.std.proofs.Common.{refl, sym, ap, ◌∙◌, subst, inl, inr}
use Rattle.std.proofs.lemmas.Bool.{and_parts, and_from, or_left, or_right}
use Rattle.std.proofs.lemmas.List.{map-append}
use Rattle.std.proofs.lemmas.Option.{same_Some}
use Rattle.ae_base.specs.Options.{or_else}
use Rattle.ae_base.proofs.AllOf.{all_append, all_front, all_back, all_at, all_reversed, all_weaker, all_of_test}
use Rattle.ae_base.proofs.Tests.{false_true, by_either}
use Rattle.ae_core.specs.Inner.Induction.{by_terms, by_formulas}
use Rattle.ae_core.specs.Putting.{put_terms, put_formula_in, put_formula}
use Rattle.ae_core.specs.declared.terms.Sort.{Sort, Sort-F, out-Sort}
use Rattle.ae_core.specs.declared.terms.Sort.TheOpen as sort_layer
use Rattle.ae_core.specs.declared.terms.Head.{Head}
use Rattle.ae_core.specs.declared.terms.Head.TheVariants as head
use Rattle.ae_core.specs.declared.terms.Op.TheVariants as op
use Rattle.ae_core.specs.declared.terms.Term.{Term, Bound, Num, Fresh, Apply, Apply'}
use Rattle.ae_core.specs.declared.formulas.Formula.{Formula, True, False, Eq, Lt, Le, Pred, Not, And, Or, Xor, Iff, All}
use Rattle.ae_core.specs.declared.formulas.Quant.{Quant}
use Rattle.ae_core.specs.declared.problems.Signature.{Signature}
use Rattle.ae_core.specs.declared.problems.Problem.{Problem}
use Rattle.ae_core.proofs.PuttingLaws.{put_bound, put_num, put_fresh, put_apply, put_true, put_false, put_eq, put_pred, put_not, put_and, put_or, put_xor, put_iff}
use Rattle.ae_core.proofs.Recursion.{para_bound, para_num, para_fresh, fold_true, fold_false, fold_eq, fold_lt, fold_le, fold_pred, fold_not, fold_and, fold_or, fold_xor, fold_iff, fold_all, fold_ex}
use Rattle.ae_rules.specs.Linear.{form, is_number, is_numeral, is_plain, plain_here, plain_step}
use Rattle.ae_rules.specs.Instances.{count_from}
use Rattle.ae_rules.specs.Derivations.{goal_body}
use Rattle.ae_rules.specs.Lines.{fields_from}
use Rattle.ae_journal.specs.Ground.{is_simple, atom_terms, atom_terms_step, IsFragmentTerm, IsGroundFormula, IsGroundBlock, IsGroundGoal, IsGround}
use Rattle.ae_journal.specs.States.{outside, outside_step}
use Rattle.ae_journal.specs.Systems.{field_terms, field_terms_of}
use Rattle.ae_journal.proofs.Splits.{all_contained}
use Rattle.ae_evaluation.proofs.Plainness.{plain-Apply}
use Rattle.ae_evaluation.proofs.Literals.{simple-Not, simple-And, simple-Or, simple-Xor, simple-Iff, lt_not_simple, le_not_simple, all_not_simple, ex_not_simple}
use Rattle.ae_reach.specs.Budget.{IsFirst, a_hypothesis, the_goal, the_block, Occurs, itself, argument, field}
use Rattle.ae_reach.proofs.Blocks.{one_block}
use Rattle.ae_ground_laws.proofs.Constants.{number_put}

abbrev pub Plain : Term → Type 0
Plain t = is_plain t ≡ true

-- ---- each form of term
pub plain_bound : (i : ℕ) → is_plain (Bound i) ≡ true
unfolding is_plain
plain_bound i = para_bound Bool plain_step i

pub plain_num : (top bottom : ℤ) (real : Bool) → is_plain (Num top bottom real) ≡ true
unfolding is_plain
plain_num top bottom real = para_num Bool plain_step top bottom real

pub plain_fresh : (n : ℕ) (s : Sort) → is_plain (Fresh n s) ≡ true
unfolding is_plain
plain_fresh n s = para_fresh Bool plain_step n s

pub plain_apply : (h : Head) (ss : List Sort) (us : List Term) → plain_here h us ≡ true → AllByRecursion Plain us → is_plain (Apply h ss us) ≡ true
plain_apply h ss us p a = plain-Apply h ss us ∙ and_from (plain_here h us) (list_all is_plain us) p (tested us a)
  where
    tested : (us : List Term) → AllByRecursion Plain us → list_all is_plain us ≡ true
    tested [] a = refl
    tested (u ∷ us) a = and_from (is_plain u) (list_all is_plain us) a.0 (tested us a.1)

pub plain_head : (h : Head) (ss : List Sort) (us : List Term) → is_plain (Apply h ss us) ≡ true → plain_here h us ≡ true
plain_head h ss us p = (and_parts (plain_here h us) (list_all is_plain us) (sym (plain-Apply h ss us) ∙ p)).0

pub plain_arguments : (h : Head) (ss : List Sort) (us : List Term) → is_plain (Apply h ss us) ≡ true → AllByRecursion Plain us
plain_arguments h ss us p = all_of_test is_plain Plain (λ t e. e) us (and_parts (plain_here h us) (list_all is_plain us) (sym (plain-Apply h ss us) ∙ p)).1

-- ---- terms put for variables
numeral_put : (ts : List Term) (b : Term) → is_numeral b ≡ true → is_numeral (put_terms 0 ts b) ≡ true
numeral_put ts (Num x y r) e = ap is_numeral (put_num 0 ts x y r)
numeral_put ts (Bound n) e = false_true e
numeral_put ts (Fresh n s) e = false_true e
numeral_put ts (Apply' h os shape row) e = false_true e

product_put : (ts : List Term) (a b : Term) → is_number (form a) || is_number (form b) ≡ true → is_number (form (put_terms 0 ts a)) || is_number (form (put_terms 0 ts b)) ≡ true
product_put ts a b e =
    by_either (is_number (form a)) (is_number (form b)) e
    (λ l. or_left (is_number (form (put_terms 0 ts a))) (is_number (form (put_terms 0 ts b))) (number_put ts a l))
    (λ r. or_right (is_number (form (put_terms 0 ts a))) (is_number (form (put_terms 0 ts b))) (number_put ts b r))

here_put : (ts : List Term) (h : Head) (us : List Term) → plain_here h us ≡ true → plain_here h (map (put_terms 0 ts) us) ≡ true
here_put ts (head.Int op.Mul) (a ∷ b ∷ []) e = product_put ts a b e
here_put ts (head.Real op.Mul) (a ∷ b ∷ []) e = product_put ts a b e
here_put ts (head.Real op.Div) (a ∷ b ∷ []) e = numeral_put ts b e
here_put ts (head.Int op.Add) (a ∷ b ∷ []) e = refl
here_put ts (head.Int op.Sub) (a ∷ b ∷ []) e = refl
here_put ts (head.Int op.Neg) (a ∷ []) e = refl
here_put ts (head.Real op.Add) (a ∷ b ∷ []) e = refl
here_put ts (head.Real op.Sub) (a ∷ b ∷ []) e = refl
here_put ts (head.Real op.Neg) (a ∷ []) e = refl
here_put ts h us e = refl

plain_choice : (c : Bool) (o : Option Term) (x y : Term) → is_plain x ≡ true → ((t : Term) → o ≡ Some t → is_plain t ≡ true) → is_plain y ≡ true → is_plain (cond c x (or_else o y)) ≡ true
plain_choice true o x y p q r = p
plain_choice false (Some t) x y p q r = q t refl
plain_choice false None x y p q r = r

module _ (ts : List Term) (all : AllByRecursion Plain ts) where
  abbrev put : Term → Term
  put = put_terms 0 ts

  pub plain_put : (t : Term) → is_plain t ≡ true → is_plain (put t) ≡ true
  plain_put =
      by_terms (λ t. is_plain t ≡ true → is_plain (put t) ≡ true)
      (λ i e.
      ap is_plain (put_bound 0 ts i)
      ∙ plain_choice (nat_lt i 0) (slice_get (reverse ts) (i - 0)) (Bound i) (Bound (i - length ts)) (plain_bound i)
      (λ t at. all_at Plain (reverse ts) (i - 0) t (all_reversed Plain ts all) at) (plain_bound (i - length ts)))
      (λ x y r e. ap is_plain (put_num 0 ts x y r) ∙ plain_num x y r)
      (λ n s e. ap is_plain (put_fresh 0 ts n s) ∙ plain_fresh n s)
      (λ h ss us k e. ap is_plain (put_apply 0 ts h ss us) ∙ plain_apply h ss (map put us) (here_put ts h us (plain_head h ss us e)) (each us k (plain_arguments h ss us e)))
    where
      each : (us : List Term) → AllByRecursion (λ t. is_plain t ≡ true → is_plain (put t) ≡ true) us → AllByRecursion Plain us → AllByRecursion Plain (map put us)
      each [] k a = tt
      each (u ∷ us) k a = (k.0 a.0, each us k.1 a.1)

  all_put : (us : List Term) → AllByRecursion Plain us → AllByRecursion Plain (map put us)
  all_put [] a = tt
  all_put (u ∷ us) a = (plain_put u a.0, all_put us a.1)

pub constants_plain : (m : ℕ) (ss : List Sort) → AllByRecursion Plain (count_from m ss)
constants_plain m [] = tt
constants_plain m (s ∷ ss) = (plain_fresh m s, constants_plain (suc m) ss)

-- ---- the terms of atoms
abbrev pub PlainAtoms : Formula → Type 0
PlainAtoms f = AllByRecursion Plain (atom_terms f)

pub atoms_eq : (a b : Term) → atom_terms (Eq a b) ≡ a ∷ b ∷ []
unfolding atom_terms
atoms_eq a b = fold_eq (List Term) (Unit {0}) atom_terms_step (λ q. tt) a b

pub atoms_lt : (a b : Term) → atom_terms (Lt a b) ≡ a ∷ b ∷ []
unfolding atom_terms
atoms_lt a b = fold_lt (List Term) (Unit {0}) atom_terms_step (λ q. tt) a b

pub atoms_le : (a b : Term) → atom_terms (Le a b) ≡ a ∷ b ∷ []
unfolding atom_terms
atoms_le a b = fold_le (List Term) (Unit {0}) atom_terms_step (λ q. tt) a b

pub atoms_pred : (n : ℕ) (ss : List Sort) (us : List Term) → atom_terms (Pred n ss us) ≡ us
unfolding atom_terms
atoms_pred n ss us = fold_pred (List Term) (Unit {0}) atom_terms_step (λ q. tt) n ss us

pub atoms_not : (a : Formula) → atom_terms (Not a) ≡ atom_terms a
unfolding atom_terms
atoms_not a = fold_not (List Term) (Unit {0}) atom_terms_step (λ q. tt) a

pub atoms_and : (a b : Formula) → atom_terms (And a b) ≡ atom_terms a ++ atom_terms b
unfolding atom_terms
atoms_and a b = fold_and (List Term) (Unit {0}) atom_terms_step (λ q. tt) a b

pub atoms_or : (a b : Formula) → atom_terms (Or a b) ≡ atom_terms a ++ atom_terms b
unfolding atom_terms
atoms_or a b = fold_or (List Term) (Unit {0}) atom_terms_step (λ q. tt) a b

pub atoms_xor : (a b : Formula) → atom_terms (Xor a b) ≡ atom_terms a ++ atom_terms b
unfolding atom_terms
atoms_xor a b = fold_xor (List Term) (Unit {0}) atom_terms_step (λ q. tt) a b

pub atoms_iff : (a b : Formula) → atom_terms (Iff a b) ≡ atom_terms a ++ atom_terms b
unfolding atom_terms
atoms_iff a b = fold_iff (List Term) (Unit {0}) atom_terms_step (λ q. tt) a b

atoms_true : atom_terms True ≡ []
unfolding atom_terms
atoms_true = fold_true (List Term) (Unit {0}) atom_terms_step (λ q. tt)

atoms_false : atom_terms False ≡ []
unfolding atom_terms
atoms_false = fold_false (List Term) (Unit {0}) atom_terms_step (λ q. tt)

-- with terms put for variables
module _ (ts : List Term) where
  abbrev PutsAtoms : Formula → Type 0
  PutsAtoms f = is_simple f ≡ true → atom_terms (put_formula_in 0 ts f) ≡ map (put_terms 0 ts) (atom_terms f)

  of_two : (f h a b : Formula) → atom_terms f ≡ atom_terms a ++ atom_terms b → atom_terms h ≡ atom_terms (put_formula_in 0 ts a) ++ atom_terms (put_formula_in 0 ts b)
      → PutsAtoms a → PutsAtoms b → is_simple a && is_simple b ≡ true → atom_terms h ≡ map (put_terms 0 ts) (atom_terms f)
  of_two f h a b e d k l s =
      let c = and_parts (is_simple a) (is_simple b) s in
      d ∙ (λ i. k c.0 i ++ l c.1 i) ∙ sym (map-append (put_terms 0 ts) (atom_terms a) (atom_terms b)) ∙ ap (map (put_terms 0 ts)) (sym e)

  pub atoms_of_put : (f : Formula) → PutsAtoms f
  atoms_of_put =
      by_formulas PutsAtoms (λ q. Unit {0})
      (λ s. ap atom_terms (put_true 0 ts) ∙ atoms_true ∙ ap (map (put_terms 0 ts)) (sym atoms_true))
      (λ s. ap atom_terms (put_false 0 ts) ∙ atoms_false ∙ ap (map (put_terms 0 ts)) (sym atoms_false))
      (λ a b s. ap atom_terms (put_eq 0 ts a b) ∙ atoms_eq (put_terms 0 ts a) (put_terms 0 ts b) ∙ ap (map (put_terms 0 ts)) (sym (atoms_eq a b)))
      (λ a b s. absurd (lt_not_simple a b s))
      (λ a b s. absurd (le_not_simple a b s))
      (λ n ss us s. ap atom_terms (put_pred 0 ts n ss us) ∙ atoms_pred n ss (map (put_terms 0 ts) us) ∙ ap (map (put_terms 0 ts)) (sym (atoms_pred n ss us)))
      (λ a k s. ap atom_terms (put_not 0 ts a) ∙ atoms_not (put_formula_in 0 ts a) ∙ k (sym (simple-Not a) ∙ s) ∙ ap (map (put_terms 0 ts)) (sym (atoms_not a)))
      (λ a b k l s. of_two (And a b) (put_formula_in 0 ts (And a b)) a b (atoms_and a b) (ap atom_terms (put_and 0 ts a b) ∙ atoms_and _ _) k l (sym (simple-And a b) ∙ s))
      (λ a b k l s. of_two (Or a b) (put_formula_in 0 ts (Or a b)) a b (atoms_or a b) (ap atom_terms (put_or 0 ts a b) ∙ atoms_or _ _) k l (sym (simple-Or a b) ∙ s))
      (λ a b k l s. of_two (Xor a b) (put_formula_in 0 ts (Xor a b)) a b (atoms_xor a b) (ap atom_terms (put_xor 0 ts a b) ∙ atoms_xor _ _) k l (sym (simple-Xor a b) ∙ s))
      (λ a b k l s. of_two (Iff a b) (put_formula_in 0 ts (Iff a b)) a b (atoms_iff a b) (ap atom_terms (put_iff 0 ts a b) ∙ atoms_iff _ _) k l (sym (simple-Iff a b) ∙ s))
      (λ q k s. absurd (all_not_simple q s))
      (λ q k s. absurd (ex_not_simple q s))
      (λ q k. tt)

  atoms_put : AllByRecursion Plain ts → (f : Formula) → is_simple f ≡ true → PlainAtoms f → PlainAtoms (put_formula_in 0 ts f)
  atoms_put all f s p = subst (AllByRecursion Plain) (sym (atoms_of_put f s)) (all_put ts all (atom_terms f) p)

-- ---- the terms and predicate applications outside quantified parts
abbrev PlainOutside : Formula → Type 0
PlainOutside f = AllByRecursion Plain (outside f)

outside_two : (f a b : Formula) → atom_terms f ≡ atom_terms a ++ atom_terms b → outside f ≡ outside a ++ outside b → (PlainAtoms a → PlainOutside a) → (PlainAtoms b → PlainOutside b) → PlainAtoms f → PlainOutside f
outside_two f a b e d k l p =
    let q = subst (AllByRecursion Plain) e p in
    subst (AllByRecursion Plain) (sym d)
    (all_append Plain (outside a) (outside b) (k (all_front Plain (atom_terms a) (atom_terms b) q)) (l (all_back Plain (atom_terms a) (atom_terms b) q)))

pub outside_plain : (f : Formula) → PlainAtoms f → PlainOutside f
unfolding outside
outside_plain =
    by_formulas (λ f. PlainAtoms f → PlainOutside f) (λ q. Unit {0})
    (λ p. subst (AllByRecursion Plain) (sym (fold_true (List Term) (Unit {0}) outside_step (λ q. tt))) tt)
    (λ p. subst (AllByRecursion Plain) (sym (fold_false (List Term) (Unit {0}) outside_step (λ q. tt))) tt)
    (λ a b p. subst (AllByRecursion Plain) (atoms_eq a b ∙ sym (fold_eq (List Term) (Unit {0}) outside_step (λ q. tt) a b)) p)
    (λ a b p. subst (AllByRecursion Plain) (atoms_lt a b ∙ sym (fold_lt (List Term) (Unit {0}) outside_step (λ q. tt) a b)) p)
    (λ a b p. subst (AllByRecursion Plain) (atoms_le a b ∙ sym (fold_le (List Term) (Unit {0}) outside_step (λ q. tt) a b)) p)
    (λ n ss us p.
    subst (AllByRecursion Plain) (sym (fold_pred (List Term) (Unit {0}) outside_step (λ q. tt) n ss us))
    (plain_apply (head.Symbol n) ss us refl (subst (AllByRecursion Plain) (atoms_pred n ss us) p), tt))
    (λ a k p. subst (AllByRecursion Plain) (sym (fold_not (List Term) (Unit {0}) outside_step (λ q. tt) a)) (k (subst (AllByRecursion Plain) (atoms_not a) p)))
    (λ a b k l p. outside_two (And a b) a b (atoms_and a b) (fold_and (List Term) (Unit {0}) outside_step (λ q. tt) a b) k l p)
    (λ a b k l p. outside_two (Or a b) a b (atoms_or a b) (fold_or (List Term) (Unit {0}) outside_step (λ q. tt) a b) k l p)
    (λ a b k l p. outside_two (Xor a b) a b (atoms_xor a b) (fold_xor (List Term) (Unit {0}) outside_step (λ q. tt) a b) k l p)
    (λ a b k l p. outside_two (Iff a b) a b (atoms_iff a b) (fold_iff (List Term) (Unit {0}) outside_step (λ q. tt) a b) k l p)
    (λ q k p. subst (AllByRecursion Plain) (sym (fold_all (List Term) (Unit {0}) outside_step (λ q. tt) q)) tt)
    (λ q k p. subst (AllByRecursion Plain) (sym (fold_ex (List Term) (Unit {0}) outside_step (λ q. tt) q)) tt)
    (λ q k. tt)

outside_block : (q : Quant) → PlainOutside (All q)
unfolding outside
outside_block q = subst (AllByRecursion Plain) (sym (fold_all (List Term) (Unit {0}) outside_step (λ q. tt) q)) tt

-- ---- the first formulas of a goal of the ground fragment
pub ground_atoms : (sig : Signature) (env : List Sort) (f : Formula) → IsGroundFormula sig env f → PlainAtoms f
ground_atoms sig env f i = all_weaker (IsFragmentTerm sig env) Plain (λ t k. k.plain) (atom_terms f) i.terms

-- the fields of a plain term
fields_plain : (n : ℕ) (ss : List Sort) (u : Term) (i k : ℕ) → is_plain u ≡ true → AllByRecursion Plain (fields_from n ss u i k)
fields_plain n ss u i zero p = tt
fields_plain n ss u i (suc k) p = (plain_apply (head.Field n i) ss (u ∷ []) refl (p, tt), fields_plain n ss u (suc i) k p)

field_plain : (o : Sort-F Sort) (u : Term) (k : ℕ) → is_plain u ≡ true → AllByRecursion Plain (field_terms_of o u k)
field_plain (sort_layer.Named n ss) u k p = fields_plain n ss u 0 k p
field_plain o u k p = tt

module _ (p : Problem) (g : ℕ) (ground : IsGround p g) where
  -- a goal that is a block is one of the fragment
  pub ground_block : (q : Quant) → goal_body p g ≡ Some (All q) → IsGroundBlock p.signature q
  ground_block q e = go ground.ground
    where
      same : ground.goal ≡ All q
      same = same_Some ground.goal (All q) (sym ground.is ∙ e)

      go : IsGroundGoal p.signature ground.goal → IsGroundBlock p.signature q
      go (inl i) = absurd (all_not_simple q (ap is_simple (sym same) ∙ i.simple))
      go (inr b) = subst (IsGroundBlock p.signature) (one_block b.0 q (sym b.1 ∙ same)) b.2

  pub body_atoms : (q : Quant) → goal_body p g ≡ Some (All q) → PlainAtoms (put_formula (count_from 0 q.sorts) q.body)
  body_atoms q e =
      let b = (ground_block q e).body in
      atoms_put (count_from 0 q.sorts) (constants_plain 0 q.sorts) q.body b.simple (ground_atoms p.signature q.sorts q.body b)

  goal_outside : (f : Formula) → f ≡ ground.goal → IsGroundGoal p.signature ground.goal → PlainOutside f
  goal_outside f e (inl i) = subst PlainOutside (sym e) (outside_plain ground.goal (ground_atoms p.signature [] ground.goal i))
  goal_outside f e (inr b) = subst PlainOutside (sym (e ∙ b.1)) (outside_block b.0)

  first_outside : (f : Formula) → IsFirst p g f → PlainOutside f
  first_outside _ (a_hypothesis k f e) = outside_plain f (ground_atoms p.signature [] f (ground.hypotheses k f e))
  first_outside _ (the_goal f e) = goal_outside f (same_Some f ground.goal (sym e ∙ ground.is)) ground.ground
  first_outside _ (the_block q e) = outside_plain (put_formula (count_from 0 q.sorts) q.body) (body_atoms q e)

  pub occurs_plain : (t : Term) → Occurs p g t → is_plain t ≡ true
  occurs_plain t (itself f i h) = all_contained Plain (outside f) t (first_outside f i) h
  occurs_plain t (argument h ss us o i) = all_contained Plain us t (plain_arguments h ss us (occurs_plain (Apply h ss us) o)) i
  occurs_plain t (field s ss u o so e c) = all_contained Plain (field_terms s u (length ss)) t (field_plain (out-Sort s) u (length ss) (occurs_plain u o)) c

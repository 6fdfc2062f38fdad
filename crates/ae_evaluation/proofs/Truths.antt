-- The truth of each kind of formula, and the defining clauses hold.
use Rattle.std.specs.Prelude.{ℕ, Bool, true, false, cond, not, ◌&&◌, ◌||◌, nat_eq, List, [], ◌∷◌, ◌≡◌, Option, Some, None}
use Rattle.ae_base.proofs.Tests.{not_not}
use mathlib.Core.Path.{refl, sym, ap, ◌∙◌}
use Rattle.ae_core.specs.Inner.Induction.{by_formulas}
use Rattle.ae_rules.specs.Clauses.{Clause, literal, is_true, is_false, yes_of, no_of, row, row_at}
use Rattle.ae_rules.specs.Valuations.{same_truth, literal_holds, clause_holds}
use Rattle.ae_rules.proofs.ClauseLaws.{literal_true, literal_false, literal_eq, literal_lt, literal_le, literal_pred, literal_not, literal_and, literal_or}
use Rattle.ae_rules.proofs.ClauseLaws.{literal_xor, literal_iff, literal_all, literal_ex, row_true, row_false, row_eq, row_lt, row_le, row_pred, row_not}
use Rattle.ae_rules.proofs.ClauseLaws.{row_and, row_or, row_xor, row_iff, row_all, row_ex}
use Rattle.ae_core.proofs.Recursion.{fold_true, fold_false, fold_eq, fold_lt, fold_le, fold_pred, fold_not, fold_and, fold_or, fold_xor, fold_iff, fold_all, fold_ex}
use Rattle.ae_core.specs.declared.terms.Sort.{Sort}
use Rattle.ae_core.specs.declared.terms.Term.{Term}
use Rattle.ae_core.specs.declared.formulas.Formula.{Formula, True, False, Eq, Lt, Le, Pred, Not, And, Or, Xor, Iff, All, Ex}
use Rattle.ae_core.specs.declared.formulas.Quant.{Quant}
use Rattle.ae_journal.specs.Truth.{truth, truth_step}

module _ (alike : Term → Term → Bool) (said : ℕ → List Sort → List Term → Bool) where
  t : Formula → Bool
  t = truth alike said

  pub truth_true : truth alike said True ≡ true
  unfolding truth
  truth_true = fold_true Bool (Unit {0}) (truth_step alike said) (λ q. tt)

  pub truth_false : truth alike said False ≡ false
  unfolding truth
  truth_false = fold_false Bool (Unit {0}) (truth_step alike said) (λ q. tt)

  pub truth_eq : (a b : Term) → truth alike said (Eq a b) ≡ alike a b
  unfolding truth
  truth_eq a b = fold_eq Bool (Unit {0}) (truth_step alike said) (λ q. tt) a b

  pub truth_lt : (a b : Term) → truth alike said (Lt a b) ≡ false
  unfolding truth
  truth_lt a b = fold_lt Bool (Unit {0}) (truth_step alike said) (λ q. tt) a b

  pub truth_le : (a b : Term) → truth alike said (Le a b) ≡ false
  unfolding truth
  truth_le a b = fold_le Bool (Unit {0}) (truth_step alike said) (λ q. tt) a b

  pub truth_pred : (p : ℕ) (ss : List Sort) (us : List Term) → truth alike said (Pred p ss us) ≡ said p ss us
  unfolding truth
  truth_pred p ss us = fold_pred Bool (Unit {0}) (truth_step alike said) (λ q. tt) p ss us

  pub truth_not : (a : Formula) → truth alike said (Not a) ≡ not (truth alike said a)
  unfolding truth
  truth_not a = fold_not Bool (Unit {0}) (truth_step alike said) (λ q. tt) a

  pub truth_and : (a b : Formula) → truth alike said (And a b) ≡ truth alike said a && truth alike said b
  unfolding truth
  truth_and a b = fold_and Bool (Unit {0}) (truth_step alike said) (λ q. tt) a b

  pub truth_or : (a b : Formula) → truth alike said (Or a b) ≡ truth alike said a || truth alike said b
  unfolding truth
  truth_or a b = fold_or Bool (Unit {0}) (truth_step alike said) (λ q. tt) a b

  pub truth_xor : (a b : Formula) → truth alike said (Xor a b) ≡ not (same_truth (truth alike said a) (truth alike said b))
  unfolding truth
  truth_xor a b = fold_xor Bool (Unit {0}) (truth_step alike said) (λ q. tt) a b

  pub truth_iff : (a b : Formula) → truth alike said (Iff a b) ≡ same_truth (truth alike said a) (truth alike said b)
  unfolding truth
  truth_iff a b = fold_iff Bool (Unit {0}) (truth_step alike said) (λ q. tt) a b

  pub truth_all : (q : Quant) → truth alike said (All q) ≡ false
  unfolding truth
  truth_all q = fold_all Bool (Unit {0}) (truth_step alike said) (λ q. tt) q

  pub truth_ex : (q : Quant) → truth alike said (Ex q) ≡ false
  unfolding truth
  truth_ex q = fold_ex Bool (Unit {0}) (truth_step alike said) (λ q. tt) q

  turned : (s b : Bool) → same_truth (not s) b ≡ same_truth s (not b)
  turned true b = refl
  turned false b = sym (not_not b)

  -- a literal of a formula holds where the formula's truth is the sign
  pub literal_is : (f : Formula) (s : Bool) → literal_holds (truth alike said) (literal s f) ≡ same_truth s (truth alike said f)
  literal_is =
      by_formulas (λ f. (s : Bool) → literal_holds (truth alike said) (literal s f) ≡ same_truth s (truth alike said f)) (λ q. Unit {0})
      (λ s. ap (literal_holds (truth alike said)) (literal_true s)) (λ s. ap (literal_holds (truth alike said)) (literal_false s))
      (λ a b s. ap (literal_holds (truth alike said)) (literal_eq s a b))
      (λ a b s. ap (literal_holds (truth alike said)) (literal_lt s a b))
      (λ a b s. ap (literal_holds (truth alike said)) (literal_le s a b))
      (λ p ss us s. ap (literal_holds (truth alike said)) (literal_pred s p ss us))
      (λ a h s. ap (literal_holds (truth alike said)) (literal_not s a) ∙ h (not s) ∙ turned s (truth alike said a) ∙ ap (same_truth s)
      (sym (truth_not a)))
      (λ a b h k s. ap (literal_holds (truth alike said)) (literal_and s a b))
      (λ a b h k s. ap (literal_holds (truth alike said)) (literal_or s a b))
      (λ a b h k s. ap (literal_holds (truth alike said)) (literal_xor s a b))
      (λ a b h k s. ap (literal_holds (truth alike said)) (literal_iff s a b))
      (λ q h s. ap (literal_holds (truth alike said)) (literal_all s q)) (λ q h s. ap (literal_holds (truth alike said)) (literal_ex s q))
      (λ q h. tt)

  -- ---- rows
  one_row : (n r : ℕ) (c d : Clause) (rest : Option Clause) → (cond (nat_eq r n) (Some c) rest) ≡ Some d
      → clause_holds (truth alike said) c ≡ true → (rest ≡ Some d → clause_holds (truth alike said) d ≡ true)
      → clause_holds (truth alike said) d ≡ true
  one_row n r c d rest e h k = go (nat_eq r n) e
    where
      go : (b : Bool) → cond b (Some c) rest ≡ Some d → clause_holds (truth alike said) d ≡ true
      go true e = let f : c ≡ d = cc in ap (clause_holds (truth alike said)) (sym f) ∙ h
      go false e = k e

  no_row : (d : Clause) → ◌≡◌ {A = Option Clause} None (Some d) → clause_holds (truth alike said) d ≡ true
  no_row d e = absurd (cc)

  signed : (s : Bool) (f : Formula)
      → literal_holds (truth alike said) (record { positive = s; formula = f }) ≡ same_truth s (truth alike said f)
  signed s f = refl

  -- a clause of two or three literals, by the truth of its formulas
  two : (s : Bool) (f : Formula) (u : Bool) (a : Formula)
      → clause_holds (truth alike said) (record { positive = s; formula = f } ∷ literal u a ∷ []) ≡ same_truth s (truth alike said f) ||
      (same_truth u (truth alike said a) || false)
  two s f u a = ap (λ b. same_truth s (truth alike said f) || (b || false)) (literal_is a u)

  three : (s : Bool) (f : Formula) (u : Bool) (a : Formula) (w : Bool) (b : Formula)
      → clause_holds (truth alike said) (record { positive = s; formula = f } ∷ literal u a ∷ literal w b ∷ []) ≡ same_truth s
      (truth alike said f) || (same_truth u (truth alike said a) || (same_truth w (truth alike said b) || false))
  three s f u a w b = λ i. same_truth s (truth alike said f) || (literal_is a u i || (literal_is b w i || false))

  and_table : (x y : Bool)
      → (same_truth false (x && y) || (same_truth true x || false) ≡ true) ×
      (same_truth false (x && y) || (same_truth true y || false) ≡ true) ×
      (same_truth true (x && y) || (same_truth false x || (same_truth false y || false)) ≡ true)
  and_table true true = (refl, refl, refl)
  and_table true false = (refl, refl, refl)
  and_table false true = (refl, refl, refl)
  and_table false false = (refl, refl, refl)

  or_table : (x y : Bool)
      → (same_truth true (x || y) || (same_truth false x || false) ≡ true) ×
      (same_truth true (x || y) || (same_truth false y || false) ≡ true) ×
      (same_truth false (x || y) || (same_truth true x || (same_truth true y || false)) ≡ true)
  or_table true true = (refl, refl, refl)
  or_table true false = (refl, refl, refl)
  or_table false true = (refl, refl, refl)
  or_table false false = (refl, refl, refl)

  iff_table : (x y : Bool)
      → (same_truth false (same_truth x y) || (same_truth false x || (same_truth true y || false)) ≡ true) ×
      (same_truth false (same_truth x y) || (same_truth true x || (same_truth false y || false)) ≡ true)
      × (same_truth true (same_truth x y) || (same_truth true x || (same_truth true y || false)) ≡ true) ×
      (same_truth true (same_truth x y) || (same_truth false x || (same_truth false y || false)) ≡ true)
  iff_table true true = (refl, refl, refl, refl)
  iff_table true false = (refl, refl, refl, refl)
  iff_table false true = (refl, refl, refl, refl)
  iff_table false false = (refl, refl, refl, refl)

  xor_table : (x y : Bool)
      → (same_truth false (not (same_truth x y)) || (same_truth true x || (same_truth true y || false)) ≡ true) ×
      (same_truth false (not (same_truth x y)) || (same_truth false x || (same_truth false y || false)) ≡ true)
      × (same_truth true (not (same_truth x y)) || (same_truth false x || (same_truth true y || false)) ≡ true) ×
      (same_truth true (not (same_truth x y)) || (same_truth true x || (same_truth false y || false)) ≡ true)
  xor_table true true = (refl, refl, refl, refl)
  xor_table true false = (refl, refl, refl, refl)
  xor_table false true = (refl, refl, refl, refl)
  xor_table false false = (refl, refl, refl, refl)

  abbrev RowsHold : Formula → Type 0
  RowsHold f = (r : ℕ) (c : Clause) → row r f ≡ Some c → clause_holds (truth alike said) c ≡ true

  and_case : (a b : Formula) → RowsHold (And a b)
  and_case a b r c e =
      let m = and_table (truth alike said a) (truth alike said b) in
      let z = truth_and a b in
      one_row 1 r (is_false (And a b) ∷ yes_of a ∷ []) c
      (row_at r ((2, is_false (And a b) ∷ yes_of b ∷ []) ∷ (3, is_true (And a b) ∷ no_of a ∷ no_of b ∷ []) ∷ [])) (sym (row_and r a b) ∙ e)
      (two false (And a b) true a ∙ ap (λ x. same_truth false x || (same_truth true (truth alike said a) || false)) z ∙ m.0)
      (λ e. one_row 2 r (is_false (And a b) ∷ yes_of b ∷ []) c (row_at r ((3, is_true (And a b) ∷ no_of a ∷ no_of b ∷ []) ∷ [])) e
      (two false (And a b) true b ∙ ap (λ x. same_truth false x || (same_truth true (truth alike said b) || false)) z ∙ m.1)
      (λ e. one_row 3 r (is_true (And a b) ∷ no_of a ∷ no_of b ∷ []) c None e
      (three true (And a b) false a false b ∙ ap
      (λ x. same_truth true x || (same_truth false (truth alike said a) || (same_truth false (truth alike said b) || false))) z ∙ m.2)
      (no_row c)))

  or_case : (a b : Formula) → RowsHold (Or a b)
  or_case a b r c e =
      let m = or_table (truth alike said a) (truth alike said b) in
      let z = truth_or a b in
      one_row 4 r (is_true (Or a b) ∷ no_of a ∷ []) c
      (row_at r ((5, is_true (Or a b) ∷ no_of b ∷ []) ∷ (6, is_false (Or a b) ∷ yes_of a ∷ yes_of b ∷ []) ∷ [])) (sym (row_or r a b) ∙ e)
      (two true (Or a b) false a ∙ ap (λ x. same_truth true x || (same_truth false (truth alike said a) || false)) z ∙ m.0)
      (λ e. one_row 5 r (is_true (Or a b) ∷ no_of b ∷ []) c (row_at r ((6, is_false (Or a b) ∷ yes_of a ∷ yes_of b ∷ []) ∷ [])) e
      (two true (Or a b) false b ∙ ap (λ x. same_truth true x || (same_truth false (truth alike said b) || false)) z ∙ m.1)
      (λ e. one_row 6 r (is_false (Or a b) ∷ yes_of a ∷ yes_of b ∷ []) c None e
      (three false (Or a b) true a true b ∙ ap
      (λ x. same_truth false x || (same_truth true (truth alike said a) || (same_truth true (truth alike said b) || false))) z ∙ m.2)
      (no_row c)))

  -- four rows of three literals
  four_case : (f a b : Formula) (n1 n2 n3 n4 r : ℕ) (s1 u1 w1 s2 u2 w2 s3 u3 w3 s4 u4 w4 x : Bool) (c : Clause) → truth alike said f ≡ x
      → row_at r ((n1, record { positive = s1; formula = f } ∷ literal u1 a ∷ literal w1 b ∷ []) ∷
      (n2, record { positive = s2; formula = f } ∷ literal u2 a ∷ literal w2 b ∷ [])
      ∷ (n3, record { positive = s3; formula = f } ∷ literal u3 a ∷ literal w3 b ∷ []) ∷
      (n4, record { positive = s4; formula = f } ∷ literal u4 a ∷ literal w4 b ∷ []) ∷ []) ≡ Some c
      → (same_truth s1 x || (same_truth u1 (truth alike said a) || (same_truth w1 (truth alike said b) || false)) ≡ true) ×
      (same_truth s2 x || (same_truth u2 (truth alike said a) || (same_truth w2 (truth alike said b) || false)) ≡ true)
      × (same_truth s3 x || (same_truth u3 (truth alike said a) || (same_truth w3 (truth alike said b) || false)) ≡ true) ×
      (same_truth s4 x || (same_truth u4 (truth alike said a) || (same_truth w4 (truth alike said b) || false)) ≡ true)
      → clause_holds (truth alike said) c ≡ true
  four_case f a b n1 n2 n3 n4 r s1 u1 w1 s2 u2 w2 s3 u3 w3 s4 u4 w4 x c z e m =
      one_row n1 r _ c _ e
      (three s1 f u1 a w1 b ∙ ap
      (λ x. same_truth s1 x || (same_truth u1 (truth alike said a) || (same_truth w1 (truth alike said b) || false))) z ∙ m.0)
      (λ e. one_row n2 r _ c _ e
      (three s2 f u2 a w2 b ∙ ap
      (λ x. same_truth s2 x || (same_truth u2 (truth alike said a) || (same_truth w2 (truth alike said b) || false))) z ∙ m.1)
      (λ e. one_row n3 r _ c _ e
      (three s3 f u3 a w3 b ∙ ap
      (λ x. same_truth s3 x || (same_truth u3 (truth alike said a) || (same_truth w3 (truth alike said b) || false))) z ∙ m.2)
      (λ e. one_row n4 r _ c None e
      (three s4 f u4 a w4 b ∙ ap
      (λ x. same_truth s4 x || (same_truth u4 (truth alike said a) || (same_truth w4 (truth alike said b) || false))) z ∙ m.3) (no_row c))))

  iff_case : (a b : Formula) → RowsHold (Iff a b)
  iff_case a b r c e =
      four_case (Iff a b) a b 7 8 9 10 r false false true false true false true true true true false false _ c (truth_iff a b)
      (sym (row_iff r a b) ∙ e) (iff_table (truth alike said a) (truth alike said b))

  xor_case : (a b : Formula) → RowsHold (Xor a b)
  xor_case a b r c e =
      four_case (Xor a b) a b 11 12 13 14 r false true true false false false true false true true true false _ c (truth_xor a b)
      (sym (row_xor r a b) ∙ e) (xor_table (truth alike said a) (truth alike said b))

  -- the defining clauses hold
  pub rows_hold : (f : Formula) → RowsHold f
  rows_hold =
      by_formulas RowsHold (λ q. Unit {0})
      (λ r c e. one_row 15 r (is_true True ∷ []) c None (sym (row_true r) ∙ e) (ap (λ x. same_truth true x || false) truth_true) (no_row c))
      (λ r c e. one_row 16 r (is_false False ∷ []) c None (sym (row_false r) ∙ e) (ap (λ x. same_truth false x || false) truth_false)
      (no_row c))
      (λ a b r c e. no_row c (sym (row_eq r a b) ∙ e)) (λ a b r c e. no_row c (sym (row_lt r a b) ∙ e))
      (λ a b r c e. no_row c (sym (row_le r a b) ∙ e))
      (λ p ss us r c e. no_row c (sym (row_pred r p ss us) ∙ e)) (λ a h r c e. no_row c (sym (row_not r a) ∙ e))
      (λ a b h k. and_case a b) (λ a b h k. or_case a b) (λ a b h k. xor_case a b) (λ a b h k. iff_case a b)
      (λ q h r c e. no_row c (sym (row_all r q) ∙ e)) (λ q h r c e. no_row c (sym (row_ex r q) ∙ e)) (λ q h. tt)

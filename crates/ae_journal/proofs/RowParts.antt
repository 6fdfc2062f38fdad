-- The literals of a formula's defining clauses are of the formula or of its parts; the sides of an inequality stand outside quantified parts.
use Rattle.std.proofs.Common.{◌≡◌, ℕ, List, [], ◌∷◌, Bool, true, false, not, nat_eq, cond, arith, Option, Some, None, refl, sym, ◌∙◌, ap, subst, inl, inr, ◌⊎◌}
use Rattle.std.proofs.lemmas.Option.{same_Some}
use Rattle.std.specs.List.{AllByRecursion, Contains}
use Rattle.ae_rules.specs.declared.rows.TheConstants.{AND_TO_LEFT, AND_TO_RIGHT, AND_FROM_BOTH, OR_FROM_LEFT, OR_FROM_RIGHT, OR_TO_EITHER, IFF_TO_RIGHT, IFF_TO_LEFT, IFF_FROM_NEITHER}
use Rattle.ae_rules.specs.declared.rows.TheConstants.{IFF_FROM_BOTH, XOR_TO_EITHER, XOR_TO_NOT_BOTH, XOR_FROM_LEFT, XOR_FROM_RIGHT, TRUE_STANDS, FALSE_FAILS}
use Rattle.ae_core.specs.Inner.Induction.{by_formulas}
use Rattle.ae_rules.specs.Clauses.{Clause, literal, yes_of, no_of, is_true, is_false, row, row_at}
use Rattle.ae_rules.proofs.ClauseLaws.{literal_true, literal_false, literal_eq, literal_lt, literal_le, literal_pred, literal_not, literal_and, literal_or, literal_xor, literal_iff, literal_all}
use Rattle.ae_rules.proofs.ClauseLaws.{literal_ex, row_true, row_false, row_eq, row_lt, row_le, row_pred, row_not, row_and, row_or, row_xor, row_iff, row_all, row_ex}
use Rattle.ae_core.proofs.Recursion.{fold_lt, fold_le}
use Rattle.ae_core.specs.declared.terms.Term.{Term}
use Rattle.ae_core.specs.declared.formulas.Formula.{Formula, Formula-F, True, False, Eq, Lt, Le, Pred, Not, And, Or, Xor, Iff, All, Ex, out-Formula}
use Rattle.ae_core.specs.declared.formulas.Formula.TheOpen as layer
use Rattle.ae_core.specs.declared.formulas.Formula.TheVariants.{outs-True, outs-False, outs-Eq, outs-Lt, outs-Le, outs-Pred, outs-Not, outs-And, outs-Or, outs-Xor, outs-Iff, outs-All, outs-Ex}
use Rattle.ae_core.specs.declared.formulas.Quant.{Quant}
use Rattle.ae_core.specs.declared.formulas.Lit.{Lit}
use Rattle.ae_journal.specs.Standing.{parts_by, parts_of}
use Rattle.ae_journal.specs.States.{outside, outside_step, inequality_of}
use Rattle.ae_journal.proofs.Splits.{contains_cases, contains_here, contains_later}

never : {A P : Type 0} (a : A) → ◌≡◌ {A = Option A} None (Some a) → P
never a e = cc

first_part : (f a : Formula) (rest : List Formula) → parts_of f ≡ a ∷ rest → Contains (parts_of f) a
first_part f a rest e = subst (λ (w : List Formula). Contains w a) (sym e) (contains_here a rest)

second_part : (f a b : Formula) → parts_of f ≡ a ∷ b ∷ [] → Contains (parts_of f) b
second_part f a b e = subst (λ (w : List Formula). Contains w b) (sym e) (contains_later a (b ∷ []) b (contains_here b []))

module _ (P : Formula → Type 0) (closed : (h a : Formula) → P h → Contains (parts_of h) a → P a) where
  abbrev Lits : Formula → Type 0
  Lits a = P a → (sign : Bool) → P (literal sign a).formula

  as_is : (sign : Bool) (f : Formula) → literal sign f ≡ record { positive = sign; formula = f } → P f → P (literal sign f).formula
  as_is sign f e p = subst (λ (l : Lit). P l.formula) (sym e) p

  pub literal_part : (a : Formula) → Lits a
  literal_part =
      by_formulas Lits (λ q. Unit {0})
      (λ p s. as_is s True (literal_true s) p)
      (λ p s. as_is s False (literal_false s) p)
      (λ a b p s. as_is s (Eq a b) (literal_eq s a b) p)
      (λ a b p s. as_is s (Lt a b) (literal_lt s a b) p)
      (λ a b p s. as_is s (Le a b) (literal_le s a b) p)
      (λ q os us p s. as_is s (Pred q os us) (literal_pred s q os us) p)
      (λ a h p s. subst (λ (l : Lit). P l.formula) (sym (literal_not s a)) (h (closed (Not a) a p (first_part (Not a) a [] (ap parts_by (outs-Not a)))) (not s)))
      (λ a b h k p s. as_is s (And a b) (literal_and s a b) p)
      (λ a b h k p s. as_is s (Or a b) (literal_or s a b) p)
      (λ a b h k p s. as_is s (Xor a b) (literal_xor s a b) p)
      (λ a b h k p s. as_is s (Iff a b) (literal_iff s a b) p)
      (λ q h p s. as_is s (All q) (literal_all s q) p)
      (λ q h p s. as_is s (Ex q) (literal_ex s q) p)
      (λ q h. tt)

  abbrev Each : Clause → Type 0
  Each c = (l : Lit) → Contains c l → P l.formula

  each : (c : Clause) → AllByRecursion (λ (l : Lit). P l.formula) c → Each c
  each [] a l h = absurd (omega (arith, h.1))
  each (m ∷ c) a l h = elim (contains_cases m c l h) [ inl e ↦ subst (λ (k : Lit). P k.formula) e a.0 | inr r ↦ each c a.1 l r ]

  one_each : (l : Lit) → P l.formula → Each (l ∷ [])
  one_each l p = each (l ∷ []) (p, tt)

  two_each : (l m : Lit) → P l.formula → P m.formula → Each (l ∷ m ∷ [])
  two_each l m p q = each (l ∷ m ∷ []) (p, (q, tt))

  three_each : (l m k : Lit) → P l.formula → P m.formula → P k.formula → Each (l ∷ m ∷ k ∷ [])
  three_each l m k p q r = each (l ∷ m ∷ k ∷ []) (p, (q, (r, tt)))

  found : (r k : ℕ) (d : Clause) (rest : Option Clause) (c : Clause) (b : Bool) → cond b (Some d) rest ≡ Some c → (d ≡ c) ⊎ (rest ≡ Some c)
  found r k d rest c true e = inl (same_Some d c e)
  found r k d rest c false e = inr e

  tabled : (r : ℕ) (table : List (ℕ × Clause)) (c : Clause) → row_at r table ≡ Some c → AllByRecursion (λ (t : ℕ × Clause). Each t.1) table → Each c
  tabled r [] c e a = never c e
  tabled r (t ∷ ts) c e a =
      elim (found r t.0 t.1 (row_at r ts) c (nat_eq r t.0) e) [ inl q ↦ subst Each q a.0 | inr h ↦ tabled r ts c h a.1 ]

  -- clauses of two and three literals, of a formula and its two parts
  module _ (f a b : Formula) (e : parts_of f ≡ a ∷ b ∷ []) (p : P f) where
    of_first : (sign t : Bool) → Each (record { positive = sign; formula = f } ∷ literal t a ∷ [])
    of_first sign t = two_each (record { positive = sign; formula = f }) (literal t a) p (literal_part a (closed f a p (first_part f a (b ∷ []) e)) t)

    of_second : (sign t : Bool) → Each (record { positive = sign; formula = f } ∷ literal t b ∷ [])
    of_second sign t = two_each (record { positive = sign; formula = f }) (literal t b) p (literal_part b (closed f b p (second_part f a b e)) t)

    of_both : (sign t u : Bool) → Each (record { positive = sign; formula = f } ∷ literal t a ∷ literal u b ∷ [])
    of_both sign t u = three_each (record { positive = sign; formula = f }) (literal t a) (literal u b) p (literal_part a (closed f a p (first_part f a (b ∷ []) e)) t) (literal_part b (closed f b p (second_part f a b e)) u)

  abbrev Rows : Formula → Type 0
  Rows f = P f → (r : ℕ) (c : Clause) → row r f ≡ Some c → Each c

  no_row : (f : Formula) → ((r : ℕ) → row r f ≡ None) → Rows f
  no_row f n p r c e = never c (sym (n r) ∙ e)

  pub row_part : (f : Formula) → Rows f
  row_part =
      by_formulas Rows (λ q. Unit {0})
      (λ p r c e. tabled r ((TRUE_STANDS, is_true True ∷ []) ∷ []) c
      (sym (row_true r) ∙ e) (one_each (is_true True) p, tt))
      (λ p r c e. tabled r ((FALSE_FAILS, is_false False ∷ []) ∷ []) c
      (sym (row_false r) ∙ e) (one_each (is_false False) p, tt))
      (λ a b. no_row (Eq a b) (λ r. row_eq r a b))
      (λ a b. no_row (Lt a b) (λ r. row_lt r a b))
      (λ a b. no_row (Le a b) (λ r. row_le r a b))
      (λ q os us. no_row (Pred q os us) (λ r. row_pred r q os us))
      (λ a h. no_row (Not a) (λ r. row_not r a))
      (λ a b h k p r c e. let o : parts_of (And a b) ≡ a ∷ b ∷ [] = ap parts_by (outs-And a b) in
      tabled r ((AND_TO_LEFT, is_false (And a b) ∷ yes_of a ∷ [])
      ∷ (AND_TO_RIGHT, is_false (And a b) ∷ yes_of b ∷ [])
      ∷ (AND_FROM_BOTH, is_true (And a b) ∷ no_of a ∷ no_of b ∷ []) ∷ []) c
      (sym (row_and r a b) ∙ e)
      (of_first (And a b) a b o p false true, (of_second (And a b) a b o p false true, (of_both (And a b) a b o p true false false, tt))))
      (λ a b h k p r c e. let o : parts_of (Or a b) ≡ a ∷ b ∷ [] = ap parts_by (outs-Or a b) in
      tabled r ((OR_FROM_LEFT, is_true (Or a b) ∷ no_of a ∷ [])
      ∷ (OR_FROM_RIGHT, is_true (Or a b) ∷ no_of b ∷ [])
      ∷ (OR_TO_EITHER, is_false (Or a b) ∷ yes_of a ∷ yes_of b ∷ []) ∷ []) c
      (sym (row_or r a b) ∙ e)
      (of_first (Or a b) a b o p true false, (of_second (Or a b) a b o p true false, (of_both (Or a b) a b o p false true true, tt))))
      (λ a b h k p r c e. let o : parts_of (Xor a b) ≡ a ∷ b ∷ [] = ap parts_by (outs-Xor a b) in
      tabled r ((XOR_TO_EITHER, is_false (Xor a b) ∷ yes_of a ∷ yes_of b ∷ [])
      ∷ (XOR_TO_NOT_BOTH, is_false (Xor a b) ∷ no_of a ∷ no_of b ∷ [])
      ∷ (XOR_FROM_LEFT, is_true (Xor a b) ∷ no_of a ∷ yes_of b ∷ [])
      ∷ (XOR_FROM_RIGHT, is_true (Xor a b) ∷ yes_of a ∷ no_of b ∷ []) ∷ []) c
      (sym (row_xor r a b) ∙ e)
      (of_both (Xor a b) a b o p false true true, (of_both (Xor a b) a b o p false false false, (of_both (Xor a b) a b o p true false true, (of_both (Xor a b) a b o p true true false, tt)))))
      (λ a b h k p r c e. let o : parts_of (Iff a b) ≡ a ∷ b ∷ [] = ap parts_by (outs-Iff a b) in
      tabled r ((IFF_TO_RIGHT, is_false (Iff a b) ∷ no_of a ∷ yes_of b ∷ [])
      ∷ (IFF_TO_LEFT, is_false (Iff a b) ∷ yes_of a ∷ no_of b ∷ [])
      ∷ (IFF_FROM_NEITHER, is_true (Iff a b) ∷ yes_of a ∷ yes_of b ∷ [])
      ∷ (IFF_FROM_BOTH, is_true (Iff a b) ∷ no_of a ∷ no_of b ∷ []) ∷ []) c
      (sym (row_iff r a b) ∙ e)
      (of_both (Iff a b) a b o p false false true, (of_both (Iff a b) a b o p false true false, (of_both (Iff a b) a b o p true true true, (of_both (Iff a b) a b o p true false false, tt)))))
      (λ q h. no_row (All q) (λ r. row_all r q))
      (λ q h. no_row (Ex q) (λ r. row_ex r q))
      (λ q h. tt)

-- ---- inequalities
abbrev Sides : Formula → Type 0
Sides f = (sign : Bool) (s t : Term) (strict : Bool) → inequality_of sign (out-Formula f) ≡ Some (s, t, strict) → Contains (outside f) s × Contains (outside f) t

no_sides : (f : Formula) (y : Formula-F Formula Quant) → out-Formula f ≡ y → ((sign : Bool) → inequality_of sign y ≡ None) → Sides f
no_sides f y o n sign s t strict e = never (s, t, strict) (sym (n sign) ∙ ap (inequality_of sign) (sym o) ∙ e)

two_sides : (f : Formula) (a b : Term) (y : Formula-F Formula Quant) → out-Formula f ≡ y → outside f ≡ a ∷ b ∷ []
    → ((sign : Bool) → (k : Bool) × ((inequality_of sign y ≡ Some (a, b, k)) ⊎ (inequality_of sign y ≡ Some (b, a, k)))) → Sides f
two_sides f a b y o e n sign s t strict i = picked (n sign).1
  where
    first : Contains (outside f) a
    first = subst (λ (w : List Term). Contains w a) (sym e) (contains_here a (b ∷ []))

    second : Contains (outside f) b
    second = subst (λ (w : List Term). Contains w b) (sym e) (contains_later a (b ∷ []) b (contains_here b []))

    moved : (u v : Term) (k : Bool) → Contains (outside f) u → Contains (outside f) v → inequality_of sign y ≡ Some (u, v, k) → Contains (outside f) s × Contains (outside f) t
    moved u v k p q h =
        let same : (u, v, k) ≡ (s, t, strict) = same_Some (u, v, k) (s, t, strict) (sym h ∙ ap (inequality_of sign) (sym o) ∙ i) in
        (subst (λ w. Contains (outside f) w) (ap (λ r. r.0) same) p, subst (λ w. Contains (outside f) w) (ap (λ r. r.1) same) q)

    picked : {k : Bool} → (inequality_of sign y ≡ Some (a, b, k)) ⊎ (inequality_of sign y ≡ Some (b, a, k)) → Contains (outside f) s × Contains (outside f) t
    picked {k} (inl h) = moved a b k first second h
    picked {k} (inr h) = moved b a k second first h

outside_lt : (a b : Term) → outside (Lt a b) ≡ a ∷ b ∷ []
unfolding outside
outside_lt a b = fold_lt (List Term) (Unit {0}) outside_step (λ q. tt) a b

outside_le : (a b : Term) → outside (Le a b) ≡ a ∷ b ∷ []
unfolding outside
outside_le a b = fold_le (List Term) (Unit {0}) outside_step (λ q. tt) a b

pub inequality_sides : (f : Formula) → Sides f
inequality_sides =
    by_formulas Sides (λ q. Unit {0})
    (no_sides True layer.True outs-True (λ s. elim s as (λ s. inequality_of s layer.True ≡ None) [ true ↦ refl | false ↦ refl ]))
    (no_sides False layer.False outs-False (λ s. elim s as (λ s. inequality_of s layer.False ≡ None) [ true ↦ refl | false ↦ refl ]))
    (λ a b. no_sides (Eq a b) (layer.Eq a b) (outs-Eq a b) (λ s. elim s as (λ s. inequality_of s (layer.Eq a b) ≡ None) [ true ↦ refl | false ↦ refl ]))
    (λ a b. two_sides (Lt a b) a b (layer.Lt a b) (outs-Lt a b) (outside_lt a b)
    (λ s. elim s as (λ s. (k : Bool) × ((inequality_of s (layer.Lt a b) ≡ Some (a, b, k)) ⊎ (inequality_of s (layer.Lt a b) ≡ Some (b, a, k)))) [ true ↦ (true, inr refl) | false ↦ (false, inl refl) ]))
    (λ a b. two_sides (Le a b) a b (layer.Le a b) (outs-Le a b) (outside_le a b)
    (λ s. elim s as (λ s. (k : Bool) × ((inequality_of s (layer.Le a b) ≡ Some (a, b, k)) ⊎ (inequality_of s (layer.Le a b) ≡ Some (b, a, k)))) [ true ↦ (false, inr refl) | false ↦ (true, inl refl) ]))
    (λ q os us. no_sides (Pred q os us) (layer.Pred q os us) (outs-Pred q os us) (λ s. elim s as (λ s. inequality_of s (layer.Pred q os us) ≡ None) [ true ↦ refl | false ↦ refl ]))
    (λ a h. no_sides (Not a) (layer.Not a) (outs-Not a) (λ s. elim s as (λ s. inequality_of s (layer.Not a) ≡ None) [ true ↦ refl | false ↦ refl ]))
    (λ a b h k. no_sides (And a b) (layer.And a b) (outs-And a b) (λ s. elim s as (λ s. inequality_of s (layer.And a b) ≡ None) [ true ↦ refl | false ↦ refl ]))
    (λ a b h k. no_sides (Or a b) (layer.Or a b) (outs-Or a b) (λ s. elim s as (λ s. inequality_of s (layer.Or a b) ≡ None) [ true ↦ refl | false ↦ refl ]))
    (λ a b h k. no_sides (Xor a b) (layer.Xor a b) (outs-Xor a b) (λ s. elim s as (λ s. inequality_of s (layer.Xor a b) ≡ None) [ true ↦ refl | false ↦ refl ]))
    (λ a b h k. no_sides (Iff a b) (layer.Iff a b) (outs-Iff a b) (λ s. elim s as (λ s. inequality_of s (layer.Iff a b) ≡ None) [ true ↦ refl | false ↦ refl ]))
    (λ q h. no_sides (All q) (layer.All q) (outs-All q) (λ s. elim s as (λ s. inequality_of s (layer.All q) ≡ None) [ true ↦ refl | false ↦ refl ]))
    (λ q h. no_sides (Ex q) (layer.Ex q) (outs-Ex q) (λ s. elim s as (λ s. inequality_of s (layer.Ex q) ≡ None) [ true ↦ refl | false ↦ refl ]))
    (λ q h. tt)

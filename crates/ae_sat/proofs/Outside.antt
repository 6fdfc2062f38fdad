-- What stands outside quantified parts of a formula's part, or of a literal of its defining clauses, stands there in the formula.
use Rattle.std.proofs.Common.{◌≡◌, ℕ, List, [], ◌∷◌, ◌++◌, Some, sym, ap, subst, arith, inl, inr}
use Rattle.std.specs.List.{Contains}
use Rattle.std.proofs.lemmas.List.Elements.{Contains-append_left, Contains-append_right}
use Rattle.ae_core.specs.Inner.Induction.{by_formulas}
use Rattle.ae_core.proofs.Recursion.{fold_eq, fold_not, fold_and, fold_or, fold_xor, fold_iff}
use Rattle.ae_core.specs.declared.terms.Term.{Term}
use Rattle.ae_core.specs.declared.formulas.Formula.{Formula, True, False, Eq, Lt, Le, Pred, Not, And, Or, Xor, Iff, All, Ex}
use Rattle.ae_core.specs.declared.formulas.Formula.TheVariants.{outs-True, outs-False, outs-Eq, outs-Lt, outs-Le, outs-Pred, outs-Not, outs-And, outs-Or, outs-Xor, outs-Iff, outs-All, outs-Ex}
use Rattle.ae_core.specs.declared.formulas.Lit.{Lit}
use Rattle.ae_rules.specs.Clauses.{Clause, row}
use Rattle.ae_journal.specs.Standing.{parts_by, parts_of}
use Rattle.ae_journal.specs.States.{outside, outside_step}
use Rattle.ae_journal.proofs.Splits.{contains_one, contains_cases}
use Rattle.ae_journal.proofs.RowParts.{row_part}

abbrev Parts : Formula → Type 0
Parts h = (a : Formula) → Contains (parts_of h) a → (t : Term) → Contains (outside a) t → Contains (outside h) t

no_parts : (h : Formula) → parts_of h ≡ [] → Parts h
no_parts h e a k t i = absurd (none (subst (λ (w : List Formula). Contains w a) e k))
  where
    none : Contains [] a → ⊥
    none k = omega (arith, k.1)

pub outside_eq : (a b : Term) → outside (Eq a b) ≡ a ∷ b ∷ []
unfolding outside
outside_eq a b = fold_eq (List Term) (Unit {0}) outside_step (λ q. tt) a b

pub outside_not : (a : Formula) → outside (Not a) ≡ outside a
unfolding outside
outside_not a = fold_not (List Term) (Unit {0}) outside_step (λ q. tt) a

outside_and : (a b : Formula) → outside (And a b) ≡ outside a ++ outside b
unfolding outside
outside_and a b = fold_and (List Term) (Unit {0}) outside_step (λ q. tt) a b

pub outside_or : (a b : Formula) → outside (Or a b) ≡ outside a ++ outside b
unfolding outside
outside_or a b = fold_or (List Term) (Unit {0}) outside_step (λ q. tt) a b

pub outside_xor : (a b : Formula) → outside (Xor a b) ≡ outside a ++ outside b
unfolding outside
outside_xor a b = fold_xor (List Term) (Unit {0}) outside_step (λ q. tt) a b

pub outside_iff : (a b : Formula) → outside (Iff a b) ≡ outside a ++ outside b
unfolding outside
outside_iff a b = fold_iff (List Term) (Unit {0}) outside_step (λ q. tt) a b

of_one : (h a : Formula) → parts_of h ≡ a ∷ [] → outside h ≡ outside a → Parts h
of_one h a e o b k t i =
    let q : a ≡ b = contains_one a b (subst (λ (w : List Formula). Contains w b) e k) in
    subst (λ (w : List Term). Contains w t) (sym o) (subst (λ (w : Formula). Contains (outside w) t) (sym q) i)

of_two : (h a b : Formula) → parts_of h ≡ a ∷ b ∷ [] → outside h ≡ outside a ++ outside b → Parts h
of_two h a b e o d k t i =
    elim (contains_cases a (b ∷ []) d (subst (λ (w : List Formula). Contains w d) e k)) as (λ _. Contains (outside h) t) [
      | inl q ↦ subst (λ (w : List Term). Contains w t) (sym o) (Contains-append_left (outside a) (outside b) t (subst (λ (w : Formula). Contains (outside w) t) (sym q) i))
      | inr r ↦ subst (λ (w : List Term). Contains w t) (sym o) (Contains-append_right (outside a) (outside b) t (subst (λ (w : Formula). Contains (outside w) t) (sym (contains_one b d r)) i))
    ]

pub outside_part : (h : Formula) → Parts h
outside_part =
    by_formulas Parts (λ q. Unit {0})
    (no_parts True (ap parts_by outs-True))
    (no_parts False (ap parts_by outs-False))
    (λ a b. no_parts (Eq a b) (ap parts_by (outs-Eq a b)))
    (λ a b. no_parts (Lt a b) (ap parts_by (outs-Lt a b)))
    (λ a b. no_parts (Le a b) (ap parts_by (outs-Le a b)))
    (λ p ss us. no_parts (Pred p ss us) (ap parts_by (outs-Pred p ss us)))
    (λ a k. of_one (Not a) a (ap parts_by (outs-Not a)) (outside_not a))
    (λ a b k l. of_two (And a b) a b (ap parts_by (outs-And a b)) (outside_and a b))
    (λ a b k l. of_two (Or a b) a b (ap parts_by (outs-Or a b)) (outside_or a b))
    (λ a b k l. of_two (Xor a b) a b (ap parts_by (outs-Xor a b)) (outside_xor a b))
    (λ a b k l. of_two (Iff a b) a b (ap parts_by (outs-Iff a b)) (outside_iff a b))
    (λ q k. no_parts (All q) (ap parts_by (outs-All q)))
    (λ q k. no_parts (Ex q) (ap parts_by (outs-Ex q)))
    (λ q k. tt)

-- in the formulas of a row's literals nothing new stands
pub row_outside : (f : Formula) (r : ℕ) (c : Clause) (l : Lit) → row r f ≡ Some c → Contains c l → (t : Term) → Contains (outside l.formula) t → Contains (outside f) t
row_outside f r c l e k t =
    row_part (λ (h : Formula). Contains (outside h) t → Contains (outside f) t) (λ h a up q i. up (outside_part h a q t i)) f (λ i. i) r c e l k

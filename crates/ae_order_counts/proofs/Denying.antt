-- A row that the truth of a literal calls for has the literal's opposite, or the literal is of a constant and the row is such a literal.
use Rattle.std.specs.Prelude.{ℕ, ◌≡◌, ◌⊎◌, Bool, true, false, List, [], ◌∷◌, Some, None}
use Rattle.std.specs.List.{AllByRecursion, Contains}
use Rattle.std.proofs.Common.{sym, ap, ◌∙◌, subst, inl, inr}
use Rattle.std.proofs.lemmas.Option.{same_Some}
use Rattle.ae_base.proofs.Options.{never_some}
use Rattle.ae_core.specs.Inner.Induction.{by_formulas}
use Rattle.ae_core.specs.declared.formulas.Formula.{Formula, Formula-F, True, False, Eq, Lt, Le, Pred, Not, And, Or, Xor, Iff, All, Ex, out-Formula}
use Rattle.ae_core.specs.declared.formulas.Formula.TheOpen as layer
use Rattle.ae_core.specs.declared.formulas.Formula.TheVariants.{outs-True, outs-False, outs-And, outs-Or, outs-Xor, outs-Iff}
use Rattle.ae_core.specs.declared.formulas.Lit.{Lit}
use Rattle.ae_core.specs.declared.formulas.Quant.{Quant}
use Rattle.ae_journal.proofs.Splits.{all_contained, contains_here}
use Rattle.ae_rules.specs.Clauses.{Clause, opposite, yes_of, no_of, is_true, is_false, row}
use Rattle.ae_rules.specs.Defining.{called_rows}
use Rattle.ae_rules.proofs.ClauseLaws.{row_true, row_false, row_eq, row_lt, row_le, row_pred, row_not, row_and, row_or, row_xor, row_iff, row_all, row_ex}
use Rattle.ae_rules.proofs.Defining.{called_true, called_false, called_and_yes, called_and_no, called_or_yes, called_or_no, called_xor_yes, called_xor_no, called_iff_yes, called_iff_no}

abbrev pub constant_by : Formula-F Formula Quant → Bool
constant_by layer.True = true
constant_by layer.False = true
constant_by _ = false

abbrev pub is_constant : Formula → Bool
is_constant f = constant_by (out-Formula f)

module _ (f : Formula) (sign : Bool) where
  abbrev own : Lit
  own = record { positive = sign; formula = f }

  abbrev pub IsDenial : Clause → Type 0
  IsDenial c = ((is_constant f ≡ false) × Contains c (opposite (record { positive = sign; formula = f }))) ⊎ ((x : Lit) × (c ≡ x ∷ []) × (is_constant x.formula ≡ true))

  abbrev DeniedBy : ℕ → Type 0
  DeniedBy r = (c : Clause) → row r f ≡ Some c → IsDenial c

  among : (rows : List ℕ) → called_rows sign f ≡ rows → AllByRecursion DeniedBy rows → (r : ℕ) → Contains (called_rows sign f) r → DeniedBy r
  among rows e h r k = all_contained DeniedBy rows r h (subst (λ (w : List ℕ). Contains w r) e k)

  denied : is_constant f ≡ false → (r : ℕ) (rest : Clause) → row r f ≡ Some (opposite own ∷ rest) → DeniedBy r
  denied n r rest e c q = inl (n, subst (λ (w : Clause). Contains w (opposite own)) (same_Some (opposite own ∷ rest) c (sym e ∙ q)) (contains_here (opposite own) rest))

  alone : (r : ℕ) (x : Lit) → row r f ≡ Some (x ∷ []) → is_constant x.formula ≡ true → DeniedBy r
  alone r x e k c q = inr (x, same_Some c (x ∷ []) (sym q ∙ e), k)

abbrev AllDenied : Formula → Type 0
AllDenied f = (sign : Bool) (r : ℕ) → Contains (called_rows sign f) r → DeniedBy f sign r

of_and : (a b : Formula) → AllDenied (And a b)
of_and a b true =
    let n = ap constant_by (outs-And a b) in
    among (And a b) true (1 ∷ 2 ∷ []) (called_and_yes a b) (denied (And a b) true n 1 (yes_of a ∷ []) (row_and 1 a b), (denied (And a b) true n 2 (yes_of b ∷ []) (row_and 2 a b), tt))
of_and a b false = among (And a b) false (3 ∷ []) (called_and_no a b) (denied (And a b) false (ap constant_by (outs-And a b)) 3 (no_of a ∷ no_of b ∷ []) (row_and 3 a b), tt)

of_or : (a b : Formula) → AllDenied (Or a b)
of_or a b true = among (Or a b) true (6 ∷ []) (called_or_yes a b) (denied (Or a b) true (ap constant_by (outs-Or a b)) 6 (yes_of a ∷ yes_of b ∷ []) (row_or 6 a b), tt)
of_or a b false =
    let n = ap constant_by (outs-Or a b) in
    among (Or a b) false (4 ∷ 5 ∷ []) (called_or_no a b) (denied (Or a b) false n 4 (no_of a ∷ []) (row_or 4 a b), (denied (Or a b) false n 5 (no_of b ∷ []) (row_or 5 a b), tt))

of_iff : (a b : Formula) → AllDenied (Iff a b)
of_iff a b true =
    let n = ap constant_by (outs-Iff a b) in
    among (Iff a b) true (7 ∷ 8 ∷ []) (called_iff_yes a b)
    (denied (Iff a b) true n 7 (no_of a ∷ yes_of b ∷ []) (row_iff 7 a b), (denied (Iff a b) true n 8 (yes_of a ∷ no_of b ∷ []) (row_iff 8 a b), tt))
of_iff a b false =
    let n = ap constant_by (outs-Iff a b) in
    among (Iff a b) false (9 ∷ 10 ∷ []) (called_iff_no a b)
    (denied (Iff a b) false n 9 (yes_of a ∷ yes_of b ∷ []) (row_iff 9 a b), (denied (Iff a b) false n 10 (no_of a ∷ no_of b ∷ []) (row_iff 10 a b), tt))

of_xor : (a b : Formula) → AllDenied (Xor a b)
of_xor a b true =
    let n = ap constant_by (outs-Xor a b) in
    among (Xor a b) true (11 ∷ 12 ∷ []) (called_xor_yes a b)
    (denied (Xor a b) true n 11 (yes_of a ∷ yes_of b ∷ []) (row_xor 11 a b), (denied (Xor a b) true n 12 (no_of a ∷ no_of b ∷ []) (row_xor 12 a b), tt))
of_xor a b false =
    let n = ap constant_by (outs-Xor a b) in
    among (Xor a b) false (13 ∷ 14 ∷ []) (called_xor_no a b)
    (denied (Xor a b) false n 13 (no_of a ∷ yes_of b ∷ []) (row_xor 13 a b), (denied (Xor a b) false n 14 (yes_of a ∷ no_of b ∷ []) (row_xor 14 a b), tt))

no_row : (f : Formula) → ((r : ℕ) → row r f ≡ None) → AllDenied f
no_row f n sign r k c e = never_some c (sym (n r) ∙ e)

pub denials : (f : Formula) → AllDenied f
denials =
    by_formulas AllDenied (λ q. Unit {0})
    (λ sign. among True sign (15 ∷ []) (called_true sign) (alone True sign 15 (is_true True) (row_true 15) (ap constant_by outs-True), tt))
    (λ sign. among False sign (16 ∷ []) (called_false sign) (alone False sign 16 (is_false False) (row_false 16) (ap constant_by outs-False), tt))
    (λ a b. no_row (Eq a b) (λ r. row_eq r a b))
    (λ a b. no_row (Lt a b) (λ r. row_lt r a b))
    (λ a b. no_row (Le a b) (λ r. row_le r a b))
    (λ q os us. no_row (Pred q os us) (λ r. row_pred r q os us))
    (λ a h. no_row (Not a) (λ r. row_not r a))
    (λ a b h k. of_and a b)
    (λ a b h k. of_or a b)
    (λ a b h k. of_xor a b)
    (λ a b h k. of_iff a b)
    (λ q h. no_row (All q) (λ r. row_all r q))
    (λ q h. no_row (Ex q) (λ r. row_ex r q))
    (λ q h. tt)

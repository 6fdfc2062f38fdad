-- A number for each formula, which no other formula has and which is above the number of its variables.
use Rattle.std.specs.Prelude.{ℕ, zero, suc, ◌+◌, ◌<◌, ◌≡◌}
use Rattle.std.proofs.Common.{refl, ap, arith}
use base.Stored.{Gv, gnil, gnum, gcons}
use Rattle.ae_core.specs.declared.formulas.Formula.{Formula}
use Rattle.ae_core.specs.contracts.formulas.Formula as formula
use Rattle.ae_journal.specs.Inner.Numbering.{paired}
use Rattle.ae_block_constants.specs.Blocks.{variables}

-- ---- pairs of numbers as one number
same_pair : (a b c d : ℕ) → paired a b ≡ paired c d → (a ≡ c) × (b ≡ d)
same_pair zero b zero d e = let h : suc (b + b) ≡ suc (d + d) = e in (refl, omega (arith, h))
same_pair zero b (suc c) d e = let h : suc (b + b) ≡ paired c d + paired c d = e in absurd (omega (arith, h))
same_pair (suc a) b zero d e = let h : paired a b + paired a b ≡ suc (d + d) = e in absurd (omega (arith, h))
same_pair (suc a) b (suc c) d e =
    let h : paired a b + paired a b ≡ paired c d + paired c d = e in
    let r = same_pair a b c d (omega (arith, h)) in
    (ap (λ n. suc n) r.0, r.1)

second_within : (a b : ℕ) → b < paired a b
second_within zero b = omega arith
second_within (suc a) b = let h = second_within a b in omega (arith, h)

-- ---- codes as numbers
abbrev number : Gv → ℕ
number gnil = zero
number (gnum n) = suc (n + n)
number (gcons a b) = paired (number a) (number b) + paired (number a) (number b)

same_code : (c d : Gv) → number c ≡ number d → c ≡ d
same_code gnil gnil e = refl
same_code gnil (gnum n) e = let h : zero ≡ suc (n + n) = e in absurd (omega (arith, h))
same_code gnil (gcons a b) e =
    let p = second_within (number a) (number b) in
    let h : zero ≡ paired (number a) (number b) + paired (number a) (number b) = e in
    absurd (omega (arith, h, p))
same_code (gnum m) gnil e = let h : suc (m + m) ≡ zero = e in absurd (omega (arith, h))
same_code (gnum m) (gnum n) e = let h : suc (m + m) ≡ suc (n + n) = e in let q : m ≡ n = omega (arith, h) in ap gnum q
same_code (gnum m) (gcons a b) e = let h : suc (m + m) ≡ paired (number a) (number b) + paired (number a) (number b) = e in absurd (omega (arith, h))
same_code (gcons a b) gnil e =
    let p = second_within (number a) (number b) in
    let h : paired (number a) (number b) + paired (number a) (number b) ≡ zero = e in
    absurd (omega (arith, h, p))
same_code (gcons a b) (gnum n) e = let h : paired (number a) (number b) + paired (number a) (number b) ≡ suc (n + n) = e in absurd (omega (arith, h))
same_code (gcons a b) (gcons c d) e =
    let h : paired (number a) (number b) + paired (number a) (number b) ≡ paired (number c) (number d) + paired (number c) (number d) = e in
    let r = same_pair (number a) (number b) (number c) (number d) (omega (arith, h)) in
    λ i. gcons (same_code a c r.0 i) (same_code b d r.1 i)

-- ---- formulas
pub formula_number : Formula → ℕ
formula_number f = paired (number (formula.the_row.coded.code f)) (variables f)

pub variables_within : (f : Formula) → variables f < formula_number f
unfolding formula_number
variables_within f = second_within (number (formula.the_row.coded.code f)) (variables f)

pub same_formula : (f h : Formula) → formula_number f ≡ formula_number h → f ≡ h
unfolding formula_number
same_formula f h e =
    let code = formula.the_row.coded.code in
    formula.the_row.coded.inj f h (same_code (code f) (code h) (same_pair (number (code f)) (variables f) (number (code h)) (variables h) e).0)

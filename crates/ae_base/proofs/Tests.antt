-- Truth values and tests on numbers. The library has the rest: lemmas.Bool (and_parts, and_from, and_left, and_right, or_parts, or_from,
-- or_left, or_right, or_cases, not-true, not-false, not_from_true, not_from_false, false_from_ne_true, cases_Bool, eqb-true, eq-eqb,
-- ltb-true, lt-ltb, leb-true, le-leb, lt-leb, ne_eqb, cases_lt, cases_eq) and lemmas.Bool.Decides.
use Rattle.std.specs.Prelude.{ℕ, zero, suc, ◌<◌, ◌≡◌, nat_lt, nat_eq, Bool, true, false, not, cond, ◌&&◌, ◌||◌}
use Rattle.std.proofs.Common.{refl, sym, ◌∙◌, true≢false, arith}
use Rattle.std.proofs.lemmas.Bool.{eq-eqb, ne_eqb, lt-ltb, le-ltb}

-- ---- nothing is true and false
pub false_true : {P : Type 0} → false ≡ true → P
false_true e = absurd (true≢false (sym e))

pub true_false : {P : Type 0} → true ≡ false → P
true_false e = absurd (true≢false e)

pub not_both : {P : Type 0} (b : Bool) → b ≡ true → b ≡ false → P
not_both b t f = true_false (sym t ∙ f)

-- no truth value is its own denial
pub not_itself : {P : Type 0} (b : Bool) → b ≡ not b → P
not_itself true e = true_false e
not_itself false e = false_true e

-- ---- cases
pub by_bool : {P : Type 0} (b : Bool) → (b ≡ true → P) → (b ≡ false → P) → P
by_bool true f g = f refl
by_bool false f g = g refl

pub by_either : {P : Type 0} (a b : Bool) → a || b ≡ true → (a ≡ true → P) → (b ≡ true → P) → P
by_either true b e f g = f refl
by_either false b e f g = g e

pub three_parts : (a b c : Bool) → a && b && c ≡ true → (a ≡ true) × (b ≡ true) × (c ≡ true)
three_parts true true true e = (refl, refl, refl)
three_parts true true false e = false_true e
three_parts true false c e = false_true e
three_parts false b c e = false_true e

pub four_parts : (a b c d : Bool) → a && b && c && d ≡ true → (a ≡ true) × (b ≡ true) × (c ≡ true) × (d ≡ true)
four_parts true b c d e = let rest = three_parts b c d e in (refl, rest.0, rest.1, rest.2)
four_parts false b c d e = false_true e

pub or_swap : (a b c : Bool) → a || (b || c) ≡ b || (a || c)
or_swap true true c = refl
or_swap true false c = refl
or_swap false b c = refl

-- two truth values that imply each other are the same
pub same_truths : (a b : Bool) → (a ≡ true → b ≡ true) → (b ≡ true → a ≡ true) → a ≡ b
same_truths true b f g = sym (f refl)
same_truths false true f g = g refl
same_truths false false f g = refl

-- ---- denials
pub not_not : (b : Bool) → not (not b) ≡ b
not_not true = refl
not_not false = refl

pub turned : (a b : Bool) → a ≡ not b → a ≡ false → b ≡ true
turned a true e f = refl
turned a false e f = false_true (sym f ∙ e)

pub not_where : (b : Bool) → (b ≡ true → ⊥) → not b ≡ true
not_where true n = absurd (n refl)
not_where false n = refl

pub not_and : (a b : Bool) → not a || not b ≡ not (a && b)
not_and true true = refl
not_and true false = refl
not_and false true = refl
not_and false false = refl

-- what can't be denied of a truth value is so
pub stable_truth : (b : Bool) → ¬ (¬ (b ≡ true)) → b ≡ true
stable_truth true n = refl
stable_truth false n = absurd (n (λ e. true≢false (sym e)))

-- ---- tests on numbers
pub nat_eq_itself : (n : ℕ) → nat_eq n n ≡ true
nat_eq_itself n = eq-eqb n n refl

pub nat_eq_below : (m n : ℕ) → m < n → nat_eq m n ≡ false
nat_eq_below m n h = ne_eqb m n (λ e. absurd (omega (arith, h, e)))

pub nat_eq_above : (m n : ℕ) → n < m → nat_eq m n ≡ false
nat_eq_above m n h = ne_eqb m n (λ e. absurd (omega (arith, h, e)))

pub zero_below : (n : ℕ) → nat_lt zero (suc n) ≡ true
zero_below n = lt-ltb zero (suc n) (omega arith)

pub below_zero : (n : ℕ) → nat_lt n zero ≡ false
below_zero n = le-ltb n zero (omega arith)

pub none_below : (n : ℕ) → nat_lt (suc n) zero ≡ false
none_below n = below_zero (suc n)

-- ---- choices
pub same_choice : {A : Type 0} (b : Bool) (x : A) → cond b x x ≡ x
same_choice true x = refl
same_choice false x = refl

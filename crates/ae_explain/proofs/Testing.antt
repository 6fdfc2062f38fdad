-- What a lookup says of a literal, and what refutes a test.
use Rattle.std.proofs.Common.{◌≡◌, ℕ, ◌<◌, ◌≤◌, Bool, true, false, List, length, refl, sym, ap, ◌∙◌, arith, true≢false, Option, Some}
use Rattle.std.specs.Prelude.{not, IsTrue, ◌↔◌}
use Rattle.std.proofs.Math.Bool.{beq}
use Rattle.std.proofs.lemmas.Option.{same_Some}
use Rattle.ae_core.specs.declared.formulas.Lit.{Lit}
use Rattle.ae_explain.specs.declared.trail.Assigned.{Assigned}
use Rattle.ae_explain.specs.Trail.{at, place_in, IsFalseBelow}
use Rattle.ae_explain.proofs.Places.{found}

-- a test that failed refutes what would make it true
pub refuted : {P Q : Type 0} (b : Bool) → b ≡ false → (IsTrue b ↔ P) → (Q → P) → IsTrue false ↔ Q
refuted b e iff weaker = (λ h. absurd (true≢false (sym h)), λ q. absurd (true≢false (sym (iff.1 (weaker q)) ∙ e)))

pub turned : (a b : Bool) → not (beq a b) ≡ true → a ≡ not b
turned true true h = absurd (true≢false (sym h))
turned true false h = refl
turned false true h = refl
turned false false h = absurd (true≢false (sym h))

differ : (a b : Bool) → a ≡ not b → not (beq a b) ≡ true
differ true true h = absurd (true≢false h)
differ true false h = refl
differ false true h = refl
differ false false h = absurd (true≢false (sym h))

-- a literal whose formula stands at place p alone is false exactly where the literal there has the other sign
pub by_sign : (t : List Assigned) (n p : ℕ) (m x : Lit) → n ≤ length t → p < n → place_in t m.formula ≡ Some p
    → ((q : ℕ) → q < length t → (at t q).lit.formula ≡ m.formula → ◌≡◌ {A = Option ℕ} (Some p) (Some q))
    → x ≡ (at t p).lit → IsTrue (not (beq x.positive m.positive)) ↔ IsFalseBelow t n m
by_sign t n p m x in_trail lt place only e =
    let same : x.formula ≡ m.formula = ap (λ (l : Lit). l.formula) e ∙ (found t m.formula p place).1 in
    let forth : IsTrue (not (beq x.positive m.positive)) → IsFalseBelow t n m = λ h. (p, lt, sym e ∙ (λ i. record { positive = turned x.positive m.positive h i; formula = same i })) in
    let back : IsFalseBelow t n m → IsTrue (not (beq x.positive m.positive)) = λ r.
    let here : p ≡ r.0 = same_Some p r.0 (only r.0 (omega (arith, r.1, in_trail)) (ap (λ (l : Lit). l.formula) r.2)) in
    differ x.positive m.positive (ap (λ (l : Lit). l.positive) (e ∙ (ap (λ (k : ℕ). (at t k).lit) here ∙ r.2))) in
    (forth, back)

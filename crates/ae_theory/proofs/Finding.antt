-- Numbers that are found one after another.
use Rattle.std.proofs.Common.{◌≡◌, ◌↔◌, ℕ, zero, suc, ◌+◌, ◌<◌, Bool, true, false, List, [], ◌∷◌, ◌++◌, length, get_or, sym, ap, ◌∙◌, subst, arith, inl, inr, length-append, true≢false}
use Rattle.std.specs.Prelude.{IsTrue, if◌then◌else◌}
use Rattle.std.specs.List.{Contains}
use Rattle.std.proofs.lemmas.Bool.{cases_lt, cases_eq}
use Rattle.std.proofs.lemmas.List.Elements.{Contains-append_left, Contains-append_right, Contains-append_cases}
use Rattle.std.proofs.lemmas.List.{get_or_default}
use Rattle.std.proofs.Math.ListN.{get_or-append}
use Rattle.std.proofs.Math.Seq.{get_or-append_seam}
use Rattle.ae_theory.specs.Names.{IsOrdered}

-- those below a number that pass a test, rising
pub record AreFound (test : ℕ → Bool) (ns : List ℕ) (count : ℕ) : Type 0 where
  pub has : (n : ℕ) → n < count → IsTrue (test n) → Contains ns n
  pub only : (n : ℕ) → Contains ns n → (n < count) × IsTrue (test n)
  pub rising : IsOrdered ns

pub found_none : (test : ℕ → Bool) → AreFound test [] 0
found_none test = record {
  has = λ n l t. absurd (omega (arith, l));
  only = λ n c. absurd (omega (arith, c.1));
  rising = λ i j l m. absurd (omega (arith, m));
}

pub found_skip : (test : ℕ → Bool) (ns : List ℕ) (count : ℕ) → AreFound test ns count → (IsTrue (test count) → ⊥) → AreFound test ns (count + 1)
found_skip test ns count f fails = record {
  has = λ n l t. elim (cases_eq n count) [ inl e ↦ absurd (fails (subst (λ k. IsTrue (test k)) e t)) | inr d ↦ f.has n (omega (arith, l, d)) t ];
  only = λ n c. let h = f.only n c in (omega (arith, h.0), h.1);
  rising = f.rising;
}

one_number : (m n : ℕ) → Contains (m ∷ []) n → m ≡ n
one_number m n (zero, l, e) = e
one_number m n (suc k, l, e) = absurd (omega (arith, l))

pub found_push : (test : ℕ → Bool) (ns : List ℕ) (count : ℕ) → AreFound test ns count → IsTrue (test count) → AreFound test (ns ++ count ∷ []) (count + 1)
found_push test ns count f holds = record {
  has = λ n l t. elim (cases_eq n count) [
    | inl e ↦ Contains-append_right ns (count ∷ []) n (zero, omega arith, sym e)
    | inr d ↦ Contains-append_left ns (count ∷ []) n (f.has n (omega (arith, l, d)) t)
  ];
  only = λ n c. elim (Contains-append_cases ns (count ∷ []) n c) [
    | inl old ↦ let h = f.only n old in (omega (arith, h.0), h.1)
    | inr new ↦ let e = one_number count n new in (omega (arith, e), subst (λ k. IsTrue (test k)) e holds)
  ];
  rising = λ i j l m. elim (cases_lt j (length ns)) [
    | inl old ↦
        let a : get_or (ns ++ count ∷ []) i 0 ≡ get_or ns i 0 = get_or-append ns (count ∷ []) 0 i (omega (arith, l, old)) in
        let b : get_or (ns ++ count ∷ []) j 0 ≡ get_or ns j 0 = get_or-append ns (count ∷ []) 0 j old in
        omega (arith, a, b, f.rising i j l old)
    | inr new ↦
        let e : j ≡ length ns = omega (arith, m, new, length-append ns (count ∷ [])) in
        let a : get_or (ns ++ count ∷ []) i 0 ≡ get_or ns i 0 = get_or-append ns (count ∷ []) 0 i (omega (arith, l, e)) in
        let b : get_or (ns ++ count ∷ []) j 0 ≡ count = ap (λ k. get_or (ns ++ count ∷ []) k 0) e ∙ get_or-append_seam ns count [] 0 in
        let c = (f.only (get_or ns i 0) (i, omega (arith, l, e), get_or_default ns i _ _ (omega (arith, l, e)))).0 in
        omega (arith, a, b, c)
  ];
}

pub found_all : (test : ℕ → Bool) (ns : List ℕ) (count : ℕ) → AreFound test ns count → (n : ℕ) → n < count → Contains ns n ↔ IsTrue (test n)
found_all test ns count f n l = (λ c. (f.only n c).1, λ t. f.has n l t)

pub found_step : (test : ℕ → Bool) (ns new : List ℕ) (count : ℕ) (b : Bool) → AreFound test ns count → b ≡ test count → new ≡ (if b then ns ++ count ∷ [] else ns) → AreFound test new (count + 1)
found_step test ns new count true f e q = subst (λ w. AreFound test w (count + 1)) (sym q) (found_push test ns count f (sym e))
found_step test ns new count false f e q = subst (λ w. AreFound test w (count + 1)) (sym q) (found_skip test ns count f (λ t. true≢false (sym t ∙ sym e)))

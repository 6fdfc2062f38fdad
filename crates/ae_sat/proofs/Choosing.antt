-- The literals of a clause that aren't false, in its first places.
use Rattle.std.proofs.Common.{◌≡◌, ℕ, ◌+◌, ◌<◌, Bool, true, false, ◌&&◌, Option, Some, None, is_none, List, [], ◌∷◌, ◌++◌, length, get_or, refl, sym, ap, ◌∙◌, subst, arith, inl, inr, true≢false, length-append}
use Rattle.std.proofs.lemmas.Bool.{and_from, and_parts, cases_lt}
use Rattle.std.proofs.lemmas.List.{get_or_default}
use Rattle.std.proofs.Math.ListN.{get_or-append}
use Rattle.std.proofs.Math.Seq.{get_or-append_seam}
use Rattle.ae_rules.specs.Clauses.{Clause}
use Rattle.ae_core.specs.declared.formulas.Lit.{Lit}
use Rattle.ae_explain.specs.declared.trail.Assigned.{Assigned}
use Rattle.ae_explain.specs.Trail.{IsFalse, place_in}
use Rattle.ae_propagation.specs.Inner.Scan.{IsNotFalse}
use Rattle.ae_propagation.proofs.Settling.{more_each}
use Rattle.ae_sat.specs.Strict.{is_strict}

pub record IsChosen (t : List Assigned) (c : Clause) (places : List ℕ) (n : ℕ) : Type 0 where
  pub kept : (j d : ℕ) → j < length places → IsNotFalse t c (get_or places j d)
  pub none : length places ≡ 0 → (k : ℕ) (m : Lit) → k < n → get_or c k m ≡ m → IsFalse t m

pub not_false_at : (t : List Assigned) (c : Clause) (i : ℕ) (x : Lit) → i < length c → x ≡ get_or c i x → (IsFalse t x → ⊥) → IsNotFalse t c i
not_false_at t c i x l e n = record { within = l; not_false = λ d f. n (subst (IsFalse t) (get_or_default c i d x l ∙ sym e) f) }

pub chosen_yes : (t : List Assigned) (c : Clause) (places : List ℕ) (i : ℕ) → IsChosen t c places i → IsNotFalse t c i → IsChosen t c (places ++ i ∷ []) (i + 1)
chosen_yes t c places i r n = record {
  kept = λ j d h. elim (cases_lt j (length places)) as (λ _. IsNotFalse t c (get_or (places ++ i ∷ []) j d)) [
    | inl l ↦ subst (IsNotFalse t c) (sym (get_or-append places (i ∷ []) d j l)) (r.kept j d l)
    | inr g ↦ let e : length places ≡ j = omega (arith, g, h, length-append places (i ∷ [])) in
        subst (λ (k : ℕ). IsNotFalse t c (get_or (places ++ i ∷ []) k d)) e (subst (IsNotFalse t c) (sym (get_or-append_seam places i [] d)) n)
  ];
  none = λ z. absurd (omega (arith, z, length-append places (i ∷ [])));
}

pub chosen_no : (t : List Assigned) (c : Clause) (places : List ℕ) (i : ℕ) (x : Lit) → i < length c → x ≡ get_or c i x → IsFalse t x → IsChosen t c places i → IsChosen t c places (i + 1)
chosen_no t c places i x l e f r = record { kept = r.kept; none = λ z. more_each (IsFalse t) c i x l e f (r.none z) }

-- ---- literals without a value that say that one number is below another
abbrev pub is_open_strict : List Assigned → Lit → Bool
is_open_strict t l = is_strict l && is_none (place_in t l.formula)

none_from : (o : Option ℕ) → is_none o ≡ true → o ≡ None
none_from None e = refl
none_from (Some n) e = absurd (true≢false (sym e))

pub open_strict_parts : (t : List Assigned) (l : Lit) → is_open_strict t l ≡ true → (is_strict l ≡ true) × (place_in t l.formula ≡ None)
open_strict_parts t l e = let w = and_parts (is_strict l) (is_none (place_in t l.formula)) e in (w.0, none_from (place_in t l.formula) w.1)

pub not_open_strict : (t : List Assigned) (l : Lit) → is_open_strict t l ≡ false → is_strict l ≡ true → place_in t l.formula ≡ None → ⊥
not_open_strict t l e s o = true≢false (sym (and_from (is_strict l) (is_none (place_in t l.formula)) s (ap is_none o)) ∙ e)

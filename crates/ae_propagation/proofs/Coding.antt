-- Codes of literals, and what their values say.
use Rattle.std.proofs.Common.{◌≡◌, ◌≢◌, ℕ, ◌+◌, ◌<◌, Bool, true, false, List, [], ◌∷◌, ◌++◌, length, get_or, refl, sym, ◌∙◌, ap, subst, arith, inl, inr, Option, Some, None}
use Rattle.std.specs.Prelude.{not}
use Rattle.std.specs.List.{Contains}
use Rattle.std.specs.Option.{option_map}
use Rattle.std.proofs.lemmas.Bool.{cases_lt}
use Rattle.std.proofs.lemmas.Option.{same_Some, none-some}
use Rattle.std.proofs.lemmas.List.{length_push, get_or_push, get_or_append_left, get_or_default}
use Rattle.std.proofs.lemmas.List.Elements.{Contains-get_or}
use Rattle.ae_rules.specs.Clauses.{Clause}
use Rattle.ae_core.specs.declared.formulas.Formula.{Formula}
use Rattle.ae_core.specs.declared.formulas.Lit.{Lit}
use Rattle.ae_explain.specs.declared.trail.Assigned.{Assigned}
use Rattle.ae_explain.specs.Assignments.{AreKept, AreValues, value_in}
use Rattle.ae_explain.specs.Inner.Index.{AreUnlike, value_at}
use Rattle.ae_explain.specs.Trail.{at, nothing, place_in, clause, IsFalse}
use Rattle.ae_explain.proofs.Places.{found}
use Rattle.ae_propagation.specs.declared.codes.Code.{Code}
use Rattle.ae_propagation.specs.declared.occurrences.Occurrences.{Occurrences}
use Rattle.ae_propagation.specs.declared.settle.ClauseState.{ClauseState}
use Rattle.ae_propagation.specs.declared.settle.ClauseState.TheVariants as state
use Rattle.ae_propagation.specs.Settled.{Holds, Says}
use Rattle.ae_propagation.specs.Inner.Finding.{IsTable}
use Rattle.ae_propagation.specs.Inner.Coding.{IsCode, AreCodes, AreAllCodes, SaysCodes}

pub none_code : Code
none_code = record { number = 0; positive = false }

-- ---- formulas that get numbers
still_code : (old new : Formula → Option ℕ) (l : Lit) (k : Code) → AreKept old new → IsCode old l k → IsCode new l k
still_code old new l k a c = (a l.formula k.number c.0, c.1)

still_codes : (old new : Formula → Option ℕ) (c : Clause) (ks : List Code) → AreKept old new → AreCodes old c ks → AreCodes new c ks
still_codes old new c ks a h = record { size = h.size; each = λ i l k w. still_code old new (get_or c i l) (get_or ks i k) a (h.each i l k w) }

pub still_all : (old new : Formula → Option ℕ) (u : List Clause) (codes : List (List Code)) → AreKept old new → AreAllCodes old u codes → AreAllCodes new u codes
still_all old new u codes a h = record { size = h.size; each = λ n w. still_codes old new (clause u n) (get_or codes n []) a (h.each n w) }

-- one code more
pub more_codes : (old new : Formula → Option ℕ) (c : Clause) (ks : List Code) (i : ℕ) (x : Lit) (own : Code) → AreKept old new → i < length c → x ≡ get_or c i x → length ks ≡ i → IsCode new x own
    → ((j : ℕ) (m : Lit) (k : Code) → j < i → IsCode old (get_or c j m) (get_or ks j k)) → (j : ℕ) (m : Lit) (k : Code) → j < i + 1 → IsCode new (get_or c j m) (get_or (ks ++ own ∷ []) j k)
more_codes old new c ks i x own a w e s is before j m k l = elim (cases_lt j i) as (λ _. IsCode new (get_or c j m) (get_or (ks ++ own ∷ []) j k)) [
  | inl lt ↦ subst (λ (y : Code). IsCode new (get_or c j m) y) (sym (get_or_append_left ks (own ∷ []) k j (omega (arith, lt, s)))) (still_code old new (get_or c j m) (get_or ks j k) a (before j m k lt))
  | inr ge ↦
      let q : i ≡ j = omega (arith, l, ge) in
      let r : x ≡ get_or c j m = subst (λ (n : ℕ). x ≡ get_or c n m) q (e ∙ get_or_default c i x m w) in
      let t : get_or (ks ++ own ∷ []) j k ≡ own = get_or_push ks own k j (omega (arith, s, q)) in
      subst (λ (y : Code). IsCode new (get_or c j m) y) (sym t) (subst (λ (y : Lit). IsCode new y own) r is)
]

-- ---- clauses that come and go
pub push_codes : (numbers : Formula → Option ℕ) (u : List Clause) (codes : List (List Code)) (c : Clause) (ks : List Code) → AreAllCodes numbers u codes → AreCodes numbers c ks → AreAllCodes numbers (u ++ c ∷ []) (codes ++ ks ∷ [])
push_codes numbers u codes c ks h own = record {
  size = omega (arith, length_push u c, length_push codes ks, h.size);
  each = λ n l. elim (cases_lt n (length u)) as (λ _. AreCodes numbers (clause (u ++ c ∷ []) n) (get_or (codes ++ ks ∷ []) n [])) [
    | inl lt ↦
        let a : clause (u ++ c ∷ []) n ≡ clause u n = get_or_append_left u (c ∷ []) [] n lt in
        let b : get_or (codes ++ ks ∷ []) n [] ≡ get_or codes n [] = get_or_append_left codes (ks ∷ []) [] n (omega (arith, lt, h.size)) in
        subst (λ (x : Clause). AreCodes numbers x (get_or (codes ++ ks ∷ []) n [])) (sym a) (subst (λ (y : List Code). AreCodes numbers (clause u n) y) (sym b) (h.each n lt))
    | inr ge ↦
        let q : length u ≡ n = omega (arith, l, ge, length_push u c) in
        let a : clause (u ++ c ∷ []) n ≡ c = get_or_push u c [] n q in
        let b : get_or (codes ++ ks ∷ []) n [] ≡ ks = get_or_push codes ks [] n (omega (arith, q, h.size)) in
        subst (λ (x : Clause). AreCodes numbers x (get_or (codes ++ ks ∷ []) n [])) (sym a) (subst (λ (y : List Code). AreCodes numbers c y) (sym b) own)
  ];
}

pub pop_codes : (numbers : Formula → Option ℕ) (u : List Clause) (codes : List (List Code)) (c : Clause) (ks : List Code) → AreAllCodes numbers (u ++ c ∷ []) (codes ++ ks ∷ []) → AreAllCodes numbers u codes
pop_codes numbers u codes c ks h = record {
  size = omega (arith, length_push u c, length_push codes ks, h.size);
  each = λ n l.
      let s : length codes ≡ length u = omega (arith, length_push u c, length_push codes ks, h.size) in
      let a : clause (u ++ c ∷ []) n ≡ clause u n = get_or_append_left u (c ∷ []) [] n l in
      let b : get_or (codes ++ ks ∷ []) n [] ≡ get_or codes n [] = get_or_append_left codes (ks ∷ []) [] n (omega (arith, l, s)) in
      subst (λ (x : Clause). AreCodes numbers x (get_or codes n [])) a (subst (λ (y : List Code). AreCodes numbers (clause (u ++ c ∷ []) n) y) b (h.each n (omega (arith, l, length_push u c))));
}

pub last_codes : (numbers : Formula → Option ℕ) (u : List Clause) (codes : List (List Code)) (c : Clause) (ks : List Code) → AreAllCodes numbers (u ++ c ∷ []) (codes ++ ks ∷ []) → AreCodes numbers c ks
last_codes numbers u codes c ks h =
    let s : length codes ≡ length u = omega (arith, length_push u c, length_push codes ks, h.size) in
    let a : clause (u ++ c ∷ []) (length u) ≡ c = get_or_push u c [] (length u) refl in
    let b : get_or (codes ++ ks ∷ []) (length u) [] ≡ ks = get_or_push codes ks [] (length u) s in
    subst (λ (x : Clause). AreCodes numbers x ks) a (subst (λ (y : List Code). AreCodes numbers (clause (u ++ c ∷ []) (length u)) y) b (h.each (length u) (omega (arith, length_push u c))))

pub codes_within : (numbers : Formula → Option ℕ) (table : List Occurrences) (c : Clause) (ks : List Code) → IsTable numbers table → AreCodes numbers c ks → (i : ℕ) (k : Code) → i < length ks → (get_or ks i k).number < length table
codes_within numbers table c ks h own i k l = h.within (get_or c i nothing.lit).formula (get_or ks i k).number (own.each i nothing.lit k (omega (arith, l, own.size))).0

-- the number of a literal that is read at a place
pub coded_number : (numbers : Formula → Option ℕ) (u : List Clause) (codes : List (List Code)) (k p : ℕ) (l : Lit) (ks : List Code) (n : ℕ) → AreAllCodes numbers u codes → k < length u → p < length (clause u k)
    → ((w : Lit) → get_or (clause u k) p w ≡ l) → ks ≡ get_or codes k [] → n ≡ (get_or ks p none_code).number → numbers l.formula ≡ Some n
coded_number numbers u codes k p l ks n h wk wp is e r =
    let c : numbers (get_or (clause u k) p nothing.lit).formula ≡ Some (get_or (get_or codes k []) p none_code).number = ((h.each k wk).each p nothing.lit none_code wp).0 in
    ap (λ (y : Lit). numbers y.formula) (sym (is nothing.lit)) ∙ (c ∙ ap Some (sym (r ∙ ap (λ (w : List Code). (get_or w p none_code).number) e)))

-- ---- literals and codes
pub code_lit : (numbers : Formula → Option ℕ) (c : Clause) (ks : List Code) → AreCodes numbers c ks → (k : Code) → Contains ks k → (m : Lit) × Contains c m × IsCode numbers m k
code_lit numbers c ks h k has =
    let w : has.0 < length c = omega (arith, has.1, h.size) in
    (get_or c has.0 nothing.lit, Contains-get_or c has.0 nothing.lit w, subst (λ (y : Code). IsCode numbers (get_or c has.0 nothing.lit) y) has.2 (h.each has.0 nothing.lit k w))

pub lit_code : (numbers : Formula → Option ℕ) (c : Clause) (ks : List Code) → AreCodes numbers c ks → (m : Lit) → Contains c m → (k : Code) × Contains ks k × IsCode numbers m k
lit_code numbers c ks h m has =
    let w : has.0 < length ks = omega (arith, has.1, h.size) in
    (get_or ks has.0 none_code, Contains-get_or ks has.0 none_code w, subst (λ (y : Lit). IsCode numbers y (get_or ks has.0 none_code)) has.2 (h.each has.0 m none_code has.1))

same_lit_of : (numbers : Formula → Option ℕ) → AreUnlike numbers → (l m : Lit) (k : Code) → IsCode numbers l k → IsCode numbers m k → l ≡ m
same_lit_of numbers apart l m k a b =
    let s : l.positive ≡ m.positive = a.1 ∙ sym b.1 in
    let f : l.formula ≡ m.formula = apart l.formula m.formula k.number a.0 b.0 in
    λ i. record { positive = s i; formula = f i }

same_code_of : (numbers : Formula → Option ℕ) (l m : Lit) (k j : Code) → IsCode numbers l k → IsCode numbers m j → l ≡ m → k ≡ j
same_code_of numbers l m k j a b e =
    let n : k.number ≡ j.number = same_Some k.number j.number (sym a.0 ∙ (ap (λ (x : Lit). numbers x.formula) e ∙ b.0)) in
    let s : k.positive ≡ j.positive = sym a.1 ∙ (ap (λ (x : Lit). x.positive) e ∙ b.1) in
    λ i. record { number = n i; positive = s i }

-- ---- values
-- what is neither true nor false has none
pub no_value : (values : List (Option Bool)) (k : Code) → value_at values k.number ≢ Some k.positive → value_at values k.number ≢ Some (not k.positive) → value_at values k.number ≡ None
no_value values k y n = by_value (value_at values k.number) k.positive y n
  where
    by_value : (o : Option Bool) (b : Bool) → o ≢ Some b → o ≢ Some (not b) → o ≡ None
    by_value None b y n = refl
    by_value (Some true) true y n = absurd (y refl)
    by_value (Some true) false y n = absurd (n refl)
    by_value (Some false) true y n = absurd (n refl)
    by_value (Some false) false y n = absurd (y refl)

valued_as : (t : List Assigned) (f : Formula) (b : Bool) → value_in t f ≡ Some b → (p : ℕ) × (p < length t) × ((at t p).lit ≡ record { positive = b; formula = f })
valued_as t f b e = by_place (place_in t f) refl
  where
    by_place : (o : Option ℕ) → place_in t f ≡ o → (p : ℕ) × (p < length t) × ((at t p).lit ≡ record { positive = b; formula = f })
    by_place None q = absurd (none-some b (sym (ap (option_map (λ (p : ℕ). (at t p).lit.positive)) q) ∙ e))
    by_place (Some p) q =
        let r = found t f p q in
        let s : (at t p).lit.positive ≡ b = same_Some (at t p).lit.positive b (sym (ap (option_map (λ (p : ℕ). (at t p).lit.positive)) q) ∙ e) in
        let g : (at t p).lit.formula ≡ f = r.1 in
        (p, r.0, λ i. record { positive = s i; formula = g i })

unvalued : (t : List Assigned) (f : Formula) → value_in t f ≡ None → place_in t f ≡ None
unvalued t f e = by_place (place_in t f) refl
  where
    by_place : (o : Option ℕ) → place_in t f ≡ o → place_in t f ≡ None
    by_place None q = q
    by_place (Some p) q = absurd (none-some (at t p).lit.positive (sym e ∙ ap (option_map (λ (p : ℕ). (at t p).lit.positive)) q))

module _ (numbers : Formula → Option ℕ) (apart : AreUnlike numbers) (values : List (Option Bool)) (t : List Assigned) (v : AreValues numbers values t) where
  value_true : (m : Lit) (k : Code) → IsCode numbers m k → value_at values k.number ≡ Some k.positive → Holds t m
  value_true m k c h = valued_as t m.formula m.positive (sym (v m.formula k.number c.0) ∙ (h ∙ ap Some (sym c.1)))

  value_false : (m : Lit) (k : Code) → IsCode numbers m k → value_at values k.number ≡ Some (not k.positive) → IsFalse t m
  value_false m k c h = valued_as t m.formula (not m.positive) (sym (v m.formula k.number c.0) ∙ (h ∙ ap (λ (b : Bool). Some (not b)) (sym c.1)))

  value_none : (m : Lit) (k : Code) → IsCode numbers m k → value_at values k.number ≡ None → place_in t m.formula ≡ None
  value_none m k c h = unvalued t m.formula (sym (v m.formula k.number c.0) ∙ h)

  -- what the codes say is so of the clause
  pub says : (c : Clause) (ks : List Code) → AreCodes numbers c ks → (r : ClauseState) → SaysCodes values ks r → Says t c r
  says c ks h state.True s =
      let m = code_lit numbers c ks h s.0 s.1 in
      (m.0, m.1, value_true m.0 s.0 m.2 s.2)
  says c ks h state.False s = λ m has.
      let k = lit_code numbers c ks h m has in
      value_false m k.0 k.2 (s k.0 k.1)
  says c ks h (state.Unit p) s =
      let w : p < length c = omega (arith, s.within, h.size) in
      let l : Lit = get_or c p nothing.lit in
      let own : IsCode numbers l s.code = subst (λ (y : Code). IsCode numbers l y) (s.is s.code) (h.each p nothing.lit s.code w) in
      record {
        lit = l;
        within = w;
        is = λ x. get_or_default c p x nothing.lit w;
        no_place = value_none l s.code own s.no_value;
        others = λ m has d.
            let k = lit_code numbers c ks h m has in
            value_false m k.0 k.2 (s.others k.0 k.1 (λ e. d (same_lit_of numbers apart m l s.code (subst (λ (y : Code). IsCode numbers m y) e k.2) own)));
      }
  says c ks h state.Open s =
      let a = code_lit numbers c ks h s.one s.has in
      let b = code_lit numbers c ks h s.other s.has_other in
      record {
        one = a.0;
        other = b.0;
        has = a.1;
        has_other = b.1;
        differ = λ e. s.differ (same_code_of numbers a.0 b.0 s.one s.other a.2 b.2 e);
        open_one = value_none a.0 s.one a.2 s.open_one;
        open_other = value_none b.0 s.other b.2 s.open_other;
      }

-- ---- the last of a list
pub last_of : {A : Type 0} (xs : List A) → 0 < length xs → (kept : List A) × (last : A) × (xs ≡ kept ++ last ∷ [])
last_of [] h = absurd (omega (arith, h))
last_of (x ∷ []) h = ([], x, refl)
last_of (x ∷ y ∷ ys) h =
    let r = last_of (y ∷ ys) (omega arith) in
    (x ∷ r.0, r.1, ap (λ w. x ∷ w) r.2)

-- One key of a list of parts, and the list without it.
use Rattle.std.specs.Prelude.{ℕ, pos, ◌≡◌, ◌≢◌, ◌<◌, ◌+◌, Bool, true, false, cond, ◌||◌, nat_eq, List, [], ◌∷◌, ◌++◌, drop, length}
use Rattle.std.proofs.Common.{refl, sym, ap, ◌∙◌, subst, append_assoc, get_or}
use Rattle.std.proofs.lemmas.Bool.{eq-eqb, ne_eqb, eqb-true}
use Rattle.std.proofs.lemmas.List.{drop_more}
use Rattle.ae_num.specs.declared.forms.Part.{Part}
use Rattle.ae_num.specs.Forms.{factor_of, AllAbove, IsRising, has_key, others}

pub others_same : (p : Part) (ps : List Part) (key : ℕ) → p.key ≡ key → others (p ∷ ps) key ≡ others ps key
others_same p ps key e = ap (λ b. cond b (others ps key) (p ∷ others ps key)) (eq-eqb p.key key e)

pub others_other : (p : Part) (ps : List Part) (key : ℕ) → p.key ≢ key → others (p ∷ ps) key ≡ p ∷ others ps key
others_other p ps key n = ap (λ b. cond b (others ps key) (p ∷ others ps key)) (ne_eqb p.key key n)

pub ruleset others_push = (others_same, others_other)

others-append : (p : Part) (ps : List Part) (key : ℕ) → others (p ∷ []) key ++ others ps key ≡ others (p ∷ ps) key
others-append p ps key = elim (nat_eq p.key key) as (λ b. cond b [] (p ∷ []) ++ others ps key ≡ cond b (others ps key) (p ∷ others ps key)) [ true ↦ refl | false ↦ refl ]

pub others_step : (ps qs : List Part) (i : ℕ) (d : Part) (key : ℕ) (ys ys' W : List Part) → qs ≡ ps → i < length qs → ys' ≡ ys ++ others (get_or qs i d ∷ []) key
    → ys ++ others (drop i ps) key ≡ W → ys' ++ others (drop (i + 1) ps) key ≡ W
others_step ps qs i d key ys ys' W same h e w =
    let p = get_or ps i d in
    let rest = others (drop (i + 1) ps) key in
    ap (λ t. t ++ rest) (e ∙ ap (λ t. ys ++ others (get_or t i d ∷ []) key) same) ∙ append_assoc ys (others (p ∷ []) key) rest
    ∙ ap (λ t. ys ++ t) (others-append p (drop (i + 1) ps) key) ∙ ap (λ t. ys ++ others t key) (sym (drop_more ps i d (subst (λ t. i < length t) same h))) ∙ w

pub found_key : (ps : List Part) (i : ℕ) (d : Part) (key : ℕ) → i < length ps → (get_or ps i d).key ≡ key → has_key ps key ≡ has_key (drop i ps) key → has_key ps key ≡ true
found_key ps i d key h e k =
    k ∙ ap (λ t. has_key t key) (drop_more ps i d h) ∙ ap (λ b. b || has_key (drop (i + 1) ps) key) (eq-eqb (get_or ps i d).key key e)

pub found_factor : (ps : List Part) (i : ℕ) (d : Part) (key : ℕ) → i < length ps → (get_or ps i d).key ≡ key → factor_of ps key ≡ factor_of (drop i ps) key → (get_or ps i d).factor ≡ factor_of ps key
found_factor ps i d key h e k =
    sym (k ∙ ap (λ t. factor_of t key) (drop_more ps i d h) ∙ ap (λ b. cond b (get_or ps i d).factor (factor_of (drop (i + 1) ps) key)) (eq-eqb (get_or ps i d).key key e))

pub next_key : (ps : List Part) (i : ℕ) (d : Part) (key : ℕ) → i < length ps → (get_or ps i d).key ≢ key → has_key ps key ≡ has_key (drop i ps) key → has_key ps key ≡ has_key (drop (i + 1) ps) key
next_key ps i d key h n k =
    k ∙ ap (λ t. has_key t key) (drop_more ps i d h) ∙ ap (λ b. b || has_key (drop (i + 1) ps) key) (ne_eqb (get_or ps i d).key key n)

pub next_factor : (ps : List Part) (i : ℕ) (d : Part) (key : ℕ) → i < length ps → (get_or ps i d).key ≢ key → factor_of ps key ≡ factor_of (drop i ps) key → factor_of ps key ≡ factor_of (drop (i + 1) ps) key
next_factor ps i d key h n k =
    k ∙ ap (λ t. factor_of t key) (drop_more ps i d h) ∙ ap (λ b. cond b (get_or ps i d).factor (factor_of (drop (i + 1) ps) key)) (ne_eqb (get_or ps i d).key key n)

-- ---- the list without a key
above_others : (j : ℕ) (ps : List Part) (key : ℕ) → AllAbove j ps → AllAbove j (others ps key)
above_others j [] key a = tt
above_others j (p ∷ ps) key a = elim (nat_eq p.key key) as (λ b. AllAbove j (cond b (others ps key) (p ∷ others ps key))) [ true ↦ above_others j ps key a.1 | false ↦ (a.0, above_others j ps key a.1) ]

pub rising_others : (ps : List Part) (key : ℕ) → IsRising ps → IsRising (others ps key)
rising_others [] key r = tt
rising_others (p ∷ ps) key r = elim (nat_eq p.key key) as (λ b. IsRising (cond b (others ps key) (p ∷ others ps key))) [ true ↦ rising_others ps key r.1 | false ↦ (above_others p.key ps key r.0, rising_others ps key r.1) ]

factor_over : (p : Part) (ps : List Part) (k : ℕ) → ¬ (p.key ≡ k) → factor_of (p ∷ ps) k ≡ factor_of ps k
factor_over p ps k n = ap (λ b. cond b p.factor (factor_of ps k)) (ne_eqb p.key k n)

pub factor_others_there : (ps : List Part) (key : ℕ) → factor_of (others ps key) key ≡ pos 0
factor_others_there [] key = refl
factor_others_there (p ∷ ps) key = by_key (factor_others_there ps key) (nat_eq p.key key) refl
  where
    by_key : factor_of (others ps key) key ≡ pos 0 → (b : Bool) → nat_eq p.key key ≡ b → factor_of (cond b (others ps key) (p ∷ others ps key)) key ≡ pos 0
    by_key ih true e = ih
    by_key ih false e = ap (λ b. cond b p.factor (factor_of (others ps key) key)) e ∙ ih

pub factor_others : (ps : List Part) (key k : ℕ) → ¬ (key ≡ k) → factor_of (others ps key) k ≡ factor_of ps k
factor_others [] key k n = refl
factor_others (p ∷ ps) key k n = by_key (factor_others ps key k n) (nat_eq p.key key) refl
  where
    by_key : factor_of (others ps key) k ≡ factor_of ps k → (b : Bool) → nat_eq p.key key ≡ b → factor_of (cond b (others ps key) (p ∷ others ps key)) k ≡ factor_of (p ∷ ps) k
    by_key ih true e = ih ∙ sym (factor_over p ps k (λ f. n (sym (eqb-true p.key key e) ∙ f)))
    by_key ih false e = ap (λ t. cond (nat_eq p.key k) p.factor t) ih

pub others_none : (ps : List Part) (key : ℕ) → has_key ps key ≡ false → others ps key ≡ ps
others_none [] key e = refl
others_none (p ∷ ps) key e = by_key (others_none ps key) (nat_eq p.key key) e
  where
    by_key : (has_key ps key ≡ false → others ps key ≡ ps) → (b : Bool) → b || has_key ps key ≡ false → cond b (others ps key) (p ∷ others ps key) ≡ p ∷ ps
    by_key ih true e = cc
    by_key ih false e = ap (λ t. p ∷ t) (ih e)

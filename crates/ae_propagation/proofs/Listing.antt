-- Lists of numbers, and those of the clauses that have a literal.
use Rattle.std.proofs.Common.{◌≡◌, ℕ, suc, ◌+◌, ◌-◌, ◌<◌, ◌≤◌, Bool, true, false, cond, eqb, List, [], ◌∷◌, ◌++◌, length, get_or, take, refl, sym, ◌∙◌, ap, subst, arith, inl, inr, zero, append-nil, append_assoc, length-append}
use Rattle.std.specs.Prelude.{MatchBool, count_by}
use Rattle.std.specs.List.{Contains}
use Rattle.std.proofs.lemmas.Bool.{eqb-true, eqb-false}
use Rattle.std.proofs.lemmas.List.{take_all, take_more, length_push, get_or_push}
use Rattle.std.proofs.lemmas.List.Elements.{Contains-append_cases, Contains-append_right, Contains-push, Contains-get_or}
use Rattle.std.proofs.lemmas.List.Sums.{sum_by-cons}
use Rattle.ae_rules.specs.Clauses.{Clause, stands}
use Rattle.ae_core.specs.declared.formulas.Lit.{Lit}
use Rattle.ae_explain.specs.Trail.{clause}
use Rattle.ae_propagation.specs.Inner.Finding.{EndsIn, holders, holders_from}
use Rattle.ae_propagation.proofs.Members.{stands_member}

-- ---- the last number
last_is : (xs : List ℕ) (n : ℕ) → 0 < length xs → get_or xs (length xs - 1) 0 ≡ n → EndsIn n xs
last_is xs n l e =
    let i : length xs - 1 < length xs = omega arith in
    let q : length xs ≤ length xs - 1 + 1 = omega arith in
    (take (length xs - 1) xs, sym (take_all (length xs - 1 + 1) xs q) ∙ (take_more xs (length xs - 1) 0 i ∙ ap (λ (w : ℕ). take (length xs - 1) xs ++ w ∷ []) e))

of_last : (xs : List ℕ) (n : ℕ) → EndsIn n xs → get_or xs (length xs - 1) 0 ≡ n
of_last xs n h =
    let q : length xs ≡ length h.0 + 1 = ap length h.1 ∙ length_push h.0 n in
    let r : length h.0 ≡ length xs - 1 = omega (arith, q) in
    ap (λ (w : List ℕ). get_or w (length xs - 1) 0) h.1 ∙ get_or_push h.0 n 0 (length xs - 1) r

pub last_says : (xs : List ℕ) (n : ℕ) (b : Bool) → 0 < length xs → eqb (get_or xs (length xs - 1) 0) n ≡ b → MatchBool b (EndsIn n xs) (EndsIn n xs → ⊥)
last_says xs n true l e = last_is xs n l (eqb-true (get_or xs (length xs - 1) 0) n e)
last_says xs n false l e = λ h. eqb-false (get_or xs (length xs - 1) 0) n e (of_last xs n h)

pub none_last : (xs : List ℕ) (n : ℕ) → length xs ≡ 0 → EndsIn n xs → ⊥
none_last xs n z h =
    let q : length xs ≡ length h.0 + 1 = ap length h.1 ∙ length_push h.0 n in
    omega (arith, z, q)

-- ---- who has a literal
holders_push : (n : ℕ) (u : List Clause) (c : Clause) (l : Lit) → holders_from n (u ++ c ∷ []) l ≡ holders_from n u l ++ cond (stands c l) ((n + length u) ∷ []) []
holders_push n [] c l = append-nil (cond (stands c l) (n ∷ []) []) ∙ ap (λ (k : ℕ). cond (stands c l) (k ∷ []) []) (let q : n ≡ n + 0 = omega arith in q)
holders_push n (x ∷ u) c l =
    ap (λ (w : List ℕ). cond (stands x l) (n ∷ []) [] ++ w) (holders_push (suc n) u c l)
    ∙ (sym (append_assoc (cond (stands x l) (n ∷ []) []) (holders_from (suc n) u l) (cond (stands c l) ((suc n + length u) ∷ []) []))
    ∙ ap (λ (k : ℕ). holders_from n (x ∷ u) l ++ cond (stands c l) (k ∷ []) []) (let q : suc n + length u ≡ n + length (x ∷ u) = omega arith in q))

pub holders_last : (u : List Clause) (c : Clause) (l : Lit) → holders (u ++ c ∷ []) l ≡ holders u l ++ cond (stands c l) (length u ∷ []) []
holders_last u c l = holders_push 0 u c l ∙ ap (λ (k : ℕ). holders u l ++ cond (stands c l) (k ∷ []) []) (let q : 0 + length u ≡ length u = omega arith in q)

-- each is a number of one of the clauses
below : (n : ℕ) (u : List Clause) (l : Lit) (k : ℕ) → Contains (holders_from n u l) k → k < n + length u
below n [] l k h = absurd (omega (arith, h.1))
below n (x ∷ u) l k h = elim (Contains-append_cases (cond (stands x l) (n ∷ []) []) (holders_from (suc n) u l) k h) as (λ _. k < n + length (x ∷ u)) [
  | inl a ↦ own (stands x l) a
  | inr b ↦ let q : k < suc n + length u = below (suc n) u l k b in omega (arith, q)
]
  where
    own : (b : Bool) → Contains (cond b (n ∷ []) []) k → k < n + length (x ∷ u)
    own true (zero, i, e) = let q : n ≡ k = e in omega (arith, q)
    own true (suc j, i, e) = absurd (omega (arith, i))
    own false a = absurd (omega (arith, a.1))

pub holder_within : (u : List Clause) (l : Lit) (i : ℕ) → i < length (holders u l) → get_or (holders u l) i 0 < length u
holder_within u l i h = let q : get_or (holders u l) i 0 < 0 + length u = below 0 u l (get_or (holders u l) i 0) (Contains-get_or (holders u l) i 0 h) in omega (arith, q)

-- so none of those that have a literal is the number that the next clause gets
pub never_next : (u : List Clause) (l : Lit) (front : List ℕ) → holders u l ≡ front ++ length u ∷ [] → ⊥
never_next u l front e =
    let q : length u < 0 + length u = below 0 u l (length u) (subst (λ (w : List ℕ). Contains w (length u)) (sym e) (Contains-push front (length u))) in
    omega (arith, q)

has_holder : (n : ℕ) (u : List Clause) (l : Lit) (k : ℕ) → k < length u → Contains (clause u k) l → Contains (holders_from n u l) (n + k)
has_holder n [] l k h c = absurd (omega (arith, h))
has_holder n (x ∷ u) l zero h c =
    subst (λ (b : Bool). Contains (cond b (n ∷ []) [] ++ holders_from (suc n) u l) (n + 0)) (sym (stands_member x l c)) (zero, omega arith, let q : n ≡ n + 0 = omega arith in q)
has_holder n (x ∷ u) l (suc k) h c =
    Contains-append_right (cond (stands x l) (n ∷ []) []) (holders_from (suc n) u l) (n + suc k)
    (subst (Contains (holders_from (suc n) u l)) (let q : suc n + k ≡ n + suc k = omega arith in q) (has_holder (suc n) u l k (omega (arith, h)) c))

pub holder_of : (u : List Clause) (l : Lit) (k : ℕ) → k < length u → Contains (clause u k) l → Contains (holders u l) k
holder_of u l k h c = subst (Contains (holders u l)) (let q : 0 + k ≡ k = omega arith in q) (has_holder 0 u l k h c)

one_or_none : (b : Bool) (n : ℕ) → length (cond b (n ∷ []) []) ≡ cond b 1 0
one_or_none true n = refl
one_or_none false n = refl

holders_count : (n : ℕ) (u : List Clause) (l : Lit) → length (holders_from n u l) ≡ count_by (λ c. stands c l) u
holders_count n [] l = refl
holders_count n (x ∷ u) l =
    let a : length (holders_from n (x ∷ u) l) ≡ length (cond (stands x l) (n ∷ []) []) + length (holders_from (suc n) u l) = length-append (cond (stands x l) (n ∷ []) []) (holders_from (suc n) u l) in
    let b : count_by (λ c. stands c l) (x ∷ u) ≡ cond (stands x l) 1 0 + count_by (λ c. stands c l) u = sum_by-cons (λ c. cond (stands c l) 1 0) x u in
    omega (arith, a, b, one_or_none (stands x l) n, holders_count (suc n) u l)

pub holders_length : (u : List Clause) (l : Lit) → length (holders u l) ≡ count_by (λ c. stands c l) u
holders_length u l = holders_count 0 u l

-- Merging two rising lists: what each turn keeps, and what the end has made.
-- `f` says how often a name comes out that stands so often in the one list and so often in the other.
use Rattle.std.proofs.Common.{◌≡◌, ◌≢◌, ℕ, suc, ◌+◌, ◌<◌, ◌≤◌, List, [], ◌∷◌, ◌++◌, length, get_or, drop, ◌⊎◌, inl, inr, refl, sym, ◌∙◌, ap, subst, arith, append_assoc, append-nil, Less, Equal, Greater, nat_cmp}
use Rattle.std.specs.List.Sorted.{IsNonDecreasing}
use Rattle.std.proofs.lemmas.List.{drop_all, drop_more}
use Rattle.std.proofs.lemmas.Bool.{cases_eq}
use Rattle.ae_base.proofs.Orders.{cmp_below, cmp_equal, cmp_above}
use Rattle.ae_multiset.specs.Multisets.{count}
use Rattle.ae_multiset.proofs.Counts.{count_same, count_other, count-append}
use Rattle.ae_multiset.proofs.Rising.{AtLeast, Rises, rises, non_decreasing, count_below}

-- ---- rising lists
pub rises_front : (xs ys : List ℕ) → Rises (xs ++ ys) → Rises xs
rises_front [] ys h = tt
rises_front (x ∷ xs) ys h = (front xs h.0, rises_front xs ys h.1)
  where
    front : (zs : List ℕ) → AtLeast x (zs ++ ys) → AtLeast x zs
    front [] k = tt
    front (z ∷ zs) k = (k.0, front zs k.1)

rises_skip : (xs : List ℕ) (y : ℕ) (ys : List ℕ) → Rises (xs ++ y ∷ ys) → Rises (xs ++ ys)
rises_skip [] y ys h = h.1
rises_skip (x ∷ xs) y ys h = (skip xs h.0, rises_skip xs y ys h.1)
  where
    skip : (zs : List ℕ) → AtLeast x (zs ++ y ∷ ys) → AtLeast x (zs ++ ys)
    skip [] k = k.1
    skip (z ∷ zs) k = (k.0, skip zs k.1)

-- `a` may be put before `b` where it may follow what stands before both
rises_put : (xs : List ℕ) (a b : ℕ) (ls rs : List ℕ) → Rises (xs ++ a ∷ ls) → Rises (xs ++ b ∷ rs) → a ≤ b → Rises (xs ++ a ∷ b ∷ rs)
rises_put [] a b ls rs h k l = ((l, more rs k.0), k)
  where
    more : (zs : List ℕ) → AtLeast b zs → AtLeast a zs
    more [] h = tt
    more (z ∷ zs) h = (omega (arith, h.0, l), more zs h.1)
rises_put (x ∷ xs) a b ls rs h k l = (put xs h.0 k.0, rises_put xs a b ls rs h.1 k.1 l)
  where
    put : (zs : List ℕ) → AtLeast x (zs ++ a ∷ ls) → AtLeast x (zs ++ b ∷ rs) → AtLeast x (zs ++ a ∷ b ∷ rs)
    put [] h k = (h.0, k)
    put (z ∷ zs) h k = (h.0, put zs h.1 k.1)

rises_back : (xs ys : List ℕ) → Rises (xs ++ ys) → Rises ys
rises_back [] ys h = h
rises_back (x ∷ xs) ys h = rises_back xs ys h.1

-- a name below the one at a place stands nowhere from there on
pub none_from : (z : ℕ) (xs : List ℕ) (i : ℕ) → Rises (drop i xs) → i < length xs → z < get_or xs i 0 → count z (drop i xs) ≡ 0
none_from z xs i h l m =
    let r : Rises (get_or xs i 0 ∷ drop (i + 1) xs) = subst Rises (drop_more xs i 0 l) h in
    ap (count z) (drop_more xs i 0 l) ∙ (count_other z (get_or xs i 0) (drop (i + 1) xs) (λ e. absurd (omega (arith, e, m))) ∙ count_below (get_or xs i 0) z (drop (i + 1) xs) r.0 m)

-- ---- what a merge keeps
-- the names that are out, and those that are to come, are all that come out
pub record Merges (f : ℕ → ℕ → ℕ) (left right out ls rs : List ℕ) : Type 0 where
  pub each : (x : ℕ) → count x out + f (count x ls) (count x rs) ≡ f (count x left) (count x right)

pub record Merging (f : ℕ → ℕ → ℕ) (left right out : List ℕ) (i j : ℕ) : Type 0 where
  pub left_in : i ≤ length left
  pub right_in : j ≤ length right
  pub counts : Merges f left right out (drop i left) (drop j right)
  pub left_rises : Rises (out ++ drop i left)
  pub right_rises : Rises (out ++ drop j right)

pub begun : (f : ℕ → ℕ → ℕ) (left right : List ℕ) → IsNonDecreasing left → IsNonDecreasing right → Merging f left right [] 0 0
begun f left right l r = record { left_in = omega arith; right_in = omega arith; counts = record { each = λ x. omega arith }; left_rises = rises left l; right_rises = rises right r }

module _ (f : ℕ → ℕ → ℕ) (left right out : List ℕ) where
  turned : (x : ℕ) (out' ls ls' rs rs' : List ℕ) → Merges f left right out ls rs
      → ((z : ℕ) → z ≢ x → count z out' ≡ count z out) → ((z : ℕ) → z ≢ x → count z ls' ≡ count z ls) → ((z : ℕ) → z ≢ x → count z rs' ≡ count z rs)
      → count x out' + f (count x ls') (count x rs') ≡ count x out + f (count x ls) (count x rs) → Merges f left right out' ls' rs'
  turned x out' ls ls' rs rs' m p q r e = record {
    each = λ z. elim (cases_eq z x) as (λ _. count z out' + f (count z ls') (count z rs') ≡ f (count z left) (count z right)) [
      | inl s ↦ subst (λ (w : ℕ). count w out' + f (count w ls') (count w rs') ≡ f (count w left) (count w right)) (sym s) (e ∙ m.each x)
      | inr d ↦ rw (p z d, q z d, r z d) (m.each z)
    ];
  }

  pushed : (x z : ℕ) → z ≢ x → count z (out ++ x ∷ []) ≡ count z out
  pushed x z d = omega (arith, count-append z out (x ∷ []), count_other z x [] d)

  pushed_here : (x : ℕ) → count x (out ++ x ∷ []) ≡ suc (count x out)
  pushed_here x = omega (arith, count-append x out (x ∷ []), count_same x [])

  push_left : (x : ℕ) (ls rs : List ℕ) → Merges f left right out (x ∷ ls) rs → f (1 + count x ls) (count x rs) ≡ 1 + f (count x ls) (count x rs) → Merges f left right (out ++ x ∷ []) ls rs
  push_left x ls rs m e =
      turned x (out ++ x ∷ []) (x ∷ ls) ls rs rs m (pushed x) (λ z d. sym (count_other z x ls d)) (λ z d. refl)
      (rw (count_same x ls, pushed_here x) (omega (arith, e)))

  skip_left : (x : ℕ) (ls rs : List ℕ) → Merges f left right out (x ∷ ls) rs → f (1 + count x ls) (count x rs) ≡ f (count x ls) (count x rs) → Merges f left right out ls rs
  skip_left x ls rs m e = turned x out (x ∷ ls) ls rs rs m (λ z d. refl) (λ z d. sym (count_other z x ls d)) (λ z d. refl) (rw (count_same x ls) (omega (arith, e)))

  push_right : (x : ℕ) (ls rs : List ℕ) → Merges f left right out ls (x ∷ rs) → f (count x ls) (1 + count x rs) ≡ 1 + f (count x ls) (count x rs) → Merges f left right (out ++ x ∷ []) ls rs
  push_right x ls rs m e =
      turned x (out ++ x ∷ []) ls ls (x ∷ rs) rs m (pushed x) (λ z d. refl) (λ z d. sym (count_other z x rs d))
      (rw (count_same x rs, pushed_here x) (omega (arith, e)))

  skip_right : (x : ℕ) (ls rs : List ℕ) → Merges f left right out ls (x ∷ rs) → f (count x ls) (1 + count x rs) ≡ f (count x ls) (count x rs) → Merges f left right out ls rs
  skip_right x ls rs m e = turned x out ls ls (x ∷ rs) rs m (λ z d. refl) (λ z d. refl) (λ z d. sym (count_other z x rs d)) (rw (count_same x rs) (omega (arith, e)))

  push_both : (x : ℕ) (ls rs : List ℕ) → Merges f left right out (x ∷ ls) (x ∷ rs) → f (1 + count x ls) (1 + count x rs) ≡ 1 + f (count x ls) (count x rs) → Merges f left right (out ++ x ∷ []) ls rs
  push_both x ls rs m e =
      turned x (out ++ x ∷ []) (x ∷ ls) ls (x ∷ rs) rs m (pushed x) (λ z d. sym (count_other z x ls d)) (λ z d. sym (count_other z x rs d))
      (rw (count_same x ls, count_same x rs, pushed_here x) (omega (arith, e)))

  skip_both : (x : ℕ) (ls rs : List ℕ) → Merges f left right out (x ∷ ls) (x ∷ rs) → f (1 + count x ls) (1 + count x rs) ≡ f (count x ls) (count x rs) → Merges f left right out ls rs
  skip_both x ls rs m e =
      turned x out (x ∷ ls) ls (x ∷ rs) rs m (λ z d. refl) (λ z d. sym (count_other z x ls d)) (λ z d. sym (count_other z x rs d)) (rw (count_same x ls, count_same x rs) (omega (arith, e)))

  -- ---- the turns
  module _ (i j : ℕ) (m : Merging f left right out i j) (i_in : i < length left) (j_in : j < length right) where
    at_left : Merges f left right out (get_or left i 0 ∷ drop (i + 1) left) (drop j right)
    at_left = subst (λ (w : List ℕ). Merges f left right out w (drop j right)) (drop_more left i 0 i_in) m.counts

    at_right : Merges f left right out (drop i left) (get_or right j 0 ∷ drop (j + 1) right)
    at_right = subst (λ (w : List ℕ). Merges f left right out (drop i left) w) (drop_more right j 0 j_in) m.counts

    rises_at_left : Rises (out ++ get_or left i 0 ∷ drop (i + 1) left)
    rises_at_left = subst (λ (w : List ℕ). Rises (out ++ w)) (drop_more left i 0 i_in) m.left_rises

    rises_at_right : Rises (out ++ get_or right j 0 ∷ drop (j + 1) right)
    rises_at_right = subst (λ (w : List ℕ). Rises (out ++ w)) (drop_more right j 0 j_in) m.right_rises

    -- the name of the left list comes out, which is not the larger one
    pub take_left : get_or left i 0 ≤ get_or right j 0
        → f (1 + count (get_or left i 0) (drop (i + 1) left)) (count (get_or left i 0) (drop j right)) ≡ 1 + f (count (get_or left i 0) (drop (i + 1) left)) (count (get_or left i 0) (drop j right))
        → Merging f left right (out ++ get_or left i 0 ∷ []) (i + 1) j
    take_left l e = record {
      left_in = omega arith;
      right_in = m.right_in;
      counts = push_left (get_or left i 0) (drop (i + 1) left) (drop j right) at_left e;
      left_rises = subst Rises (sym (append_assoc out (get_or left i 0 ∷ []) (drop (i + 1) left))) rises_at_left;
      right_rises = subst (λ (w : List ℕ). Rises ((out ++ get_or left i 0 ∷ []) ++ w)) (sym (drop_more right j 0 j_in))
          (subst Rises (sym (append_assoc out (get_or left i 0 ∷ []) (get_or right j 0 ∷ drop (j + 1) right)))
          (rises_put out (get_or left i 0) (get_or right j 0) (drop (i + 1) left) (drop (j + 1) right) rises_at_left rises_at_right l));
    }

    pub drop_left : f (1 + count (get_or left i 0) (drop (i + 1) left)) (count (get_or left i 0) (drop j right)) ≡ f (count (get_or left i 0) (drop (i + 1) left)) (count (get_or left i 0) (drop j right))
        → Merging f left right out (i + 1) j
    drop_left e = record {
      left_in = omega arith;
      right_in = m.right_in;
      counts = skip_left (get_or left i 0) (drop (i + 1) left) (drop j right) at_left e;
      left_rises = rises_skip out (get_or left i 0) (drop (i + 1) left) rises_at_left;
      right_rises = m.right_rises;
    }

    pub take_right : get_or right j 0 ≤ get_or left i 0
        → f (count (get_or right j 0) (drop i left)) (1 + count (get_or right j 0) (drop (j + 1) right)) ≡ 1 + f (count (get_or right j 0) (drop i left)) (count (get_or right j 0) (drop (j + 1) right))
        → Merging f left right (out ++ get_or right j 0 ∷ []) i (j + 1)
    take_right l e = record {
      left_in = m.left_in;
      right_in = omega arith;
      counts = push_right (get_or right j 0) (drop i left) (drop (j + 1) right) at_right e;
      left_rises = subst (λ (w : List ℕ). Rises ((out ++ get_or right j 0 ∷ []) ++ w)) (sym (drop_more left i 0 i_in))
          (subst Rises (sym (append_assoc out (get_or right j 0 ∷ []) (get_or left i 0 ∷ drop (i + 1) left)))
          (rises_put out (get_or right j 0) (get_or left i 0) (drop (j + 1) right) (drop (i + 1) left) rises_at_right rises_at_left l));
      right_rises = subst Rises (sym (append_assoc out (get_or right j 0 ∷ []) (drop (j + 1) right))) rises_at_right;
    }

    pub drop_right : f (count (get_or right j 0) (drop i left)) (1 + count (get_or right j 0) (drop (j + 1) right)) ≡ f (count (get_or right j 0) (drop i left)) (count (get_or right j 0) (drop (j + 1) right))
        → Merging f left right out i (j + 1)
    drop_right e = record {
      left_in = m.left_in;
      right_in = omega arith;
      counts = skip_right (get_or right j 0) (drop i left) (drop (j + 1) right) at_right e;
      left_rises = m.left_rises;
      right_rises = rises_skip out (get_or right j 0) (drop (j + 1) right) rises_at_right;
    }

    module _ (same : get_or left i 0 ≡ get_or right j 0) where
      at_both : Merges f left right out (get_or left i 0 ∷ drop (i + 1) left) (get_or left i 0 ∷ drop (j + 1) right)
      at_both = subst (λ (w : List ℕ). Merges f left right out w (get_or left i 0 ∷ drop (j + 1) right)) (drop_more left i 0 i_in)
          (subst (λ (w : ℕ). Merges f left right out (drop i left) (w ∷ drop (j + 1) right)) (sym same) at_right)

      -- the name of both comes out once
      pub take_both : f (1 + count (get_or left i 0) (drop (i + 1) left)) (1 + count (get_or left i 0) (drop (j + 1) right)) ≡ 1 + f (count (get_or left i 0) (drop (i + 1) left)) (count (get_or left i 0) (drop (j + 1) right))
          → Merging f left right (out ++ get_or left i 0 ∷ []) (i + 1) (j + 1)
      take_both e = record {
        left_in = omega arith;
        right_in = omega arith;
        counts = push_both (get_or left i 0) (drop (i + 1) left) (drop (j + 1) right) at_both e;
        left_rises = subst Rises (sym (append_assoc out (get_or left i 0 ∷ []) (drop (i + 1) left))) rises_at_left;
        right_rises = subst Rises (sym (append_assoc out (get_or left i 0 ∷ []) (drop (j + 1) right))) (subst (λ (w : ℕ). Rises (out ++ w ∷ drop (j + 1) right)) (sym same) rises_at_right);
      }

      pub drop_both : f (1 + count (get_or left i 0) (drop (i + 1) left)) (1 + count (get_or left i 0) (drop (j + 1) right)) ≡ f (count (get_or left i 0) (drop (i + 1) left)) (count (get_or left i 0) (drop (j + 1) right))
          → Merging f left right out (i + 1) (j + 1)
      drop_both e = record {
        left_in = omega arith;
        right_in = omega arith;
        counts = skip_both (get_or left i 0) (drop (i + 1) left) (drop (j + 1) right) at_both e;
        left_rises = rises_skip out (get_or left i 0) (drop (i + 1) left) rises_at_left;
        right_rises = rises_skip out (get_or right j 0) (drop (j + 1) right) rises_at_right;
      }

    -- ---- the turns as the code takes them, by the outcome of its comparison
    no_right : get_or left i 0 < get_or right j 0 → count (get_or left i 0) (drop j right) ≡ 0
    no_right l = none_from (get_or left i 0) right j (rises_back out (drop j right) m.right_rises) j_in l

    no_left : get_or right j 0 < get_or left i 0 → count (get_or right j 0) (drop i left) ≡ 0
    no_left l = none_from (get_or right j 0) left i (rises_back out (drop i left) m.left_rises) i_in l

    pub less_taken : Less ≡ nat_cmp (get_or left i 0) (get_or right j 0) → ((k : ℕ) → f (1 + k) 0 ≡ 1 + f k 0)
        → (now : List ℕ) → now ≡ out ++ get_or left i 0 ∷ [] → Merging f left right now (i + 1) j
    less_taken t law now e =
        let l : get_or left i 0 < get_or right j 0 = cmp_below _ _ t in
        subst (λ (w : List ℕ). Merging f left right w (i + 1) j) (sym e) (take_left (omega arith) (rw (no_right l) (law (count (get_or left i 0) (drop (i + 1) left)))))

    pub less_dropped : Less ≡ nat_cmp (get_or left i 0) (get_or right j 0) → ((k : ℕ) → f (1 + k) 0 ≡ f k 0) → Merging f left right out (i + 1) j
    less_dropped t law = drop_left (rw (no_right (cmp_below _ _ t)) (law (count (get_or left i 0) (drop (i + 1) left))))

    pub greater_taken : Greater ≡ nat_cmp (get_or left i 0) (get_or right j 0) → ((k : ℕ) → f 0 (1 + k) ≡ 1 + f 0 k)
        → (now : List ℕ) → now ≡ out ++ get_or right j 0 ∷ [] → Merging f left right now i (j + 1)
    greater_taken t law now e =
        let l : get_or right j 0 < get_or left i 0 = cmp_above _ _ t in
        subst (λ (w : List ℕ). Merging f left right w i (j + 1)) (sym e) (take_right (omega arith) (rw (no_left l) (law (count (get_or right j 0) (drop (j + 1) right)))))

    pub greater_dropped : Greater ≡ nat_cmp (get_or left i 0) (get_or right j 0) → ((k : ℕ) → f 0 (1 + k) ≡ f 0 k) → Merging f left right out i (j + 1)
    greater_dropped t law = drop_right (rw (no_left (cmp_above _ _ t)) (law (count (get_or right j 0) (drop (j + 1) right))))

    pub equal_taken : Equal ≡ nat_cmp (get_or left i 0) (get_or right j 0) → ((k n : ℕ) → f (1 + k) (1 + n) ≡ 1 + f k n)
        → (now : List ℕ) → now ≡ out ++ get_or left i 0 ∷ [] → Merging f left right now (i + 1) (j + 1)
    equal_taken t law now e =
        subst (λ (w : List ℕ). Merging f left right w (i + 1) (j + 1)) (sym e)
        (take_both (cmp_equal _ _ t) (law (count (get_or left i 0) (drop (i + 1) left)) (count (get_or left i 0) (drop (j + 1) right))))

    pub equal_dropped : Equal ≡ nat_cmp (get_or left i 0) (get_or right j 0) → ((k n : ℕ) → f (1 + k) (1 + n) ≡ f k n) → Merging f left right out (i + 1) (j + 1)
    equal_dropped t law = drop_both (cmp_equal _ _ t) (law (count (get_or left i 0) (drop (i + 1) left)) (count (get_or left i 0) (drop (j + 1) right)))

  -- ---- the end
  module _ (i j : ℕ) (m : Merging f left right out i j) where
    -- what is left of the left list comes out, and nothing else of the right one
    pub ends_by_left : (length left ≤ i) ⊎ (length right ≤ j) → ((k : ℕ) → f k 0 ≡ k) → ((k : ℕ) → f 0 k ≡ 0) → (x : ℕ) → count x (out ++ drop i left) ≡ f (count x left) (count x right)
    ends_by_left o g h x = count-append x out (drop i left) ∙ (ap (λ (w : ℕ). count x out + w) (sym rest) ∙ m.counts.each x)
      where
        rest : f (count x (drop i left)) (count x (drop j right)) ≡ count x (drop i left)
        rest = elim o as (λ _. f (count x (drop i left)) (count x (drop j right)) ≡ count x (drop i left)) [
          | inl l ↦ rw (drop_all i left l) (h (count x (drop j right)))
          | inr r ↦ rw (drop_all j right r) (g (count x (drop i left)))
        ]

    -- nothing else comes out
    pub ends : (length left ≤ i) ⊎ (length right ≤ j) → ((k : ℕ) → f k 0 ≡ 0) → ((k : ℕ) → f 0 k ≡ 0) → (x : ℕ) → count x out ≡ f (count x left) (count x right)
    ends o g h x = omega (arith, rest, m.counts.each x)
      where
        rest : f (count x (drop i left)) (count x (drop j right)) ≡ 0
        rest = elim o as (λ _. f (count x (drop i left)) (count x (drop j right)) ≡ 0) [
          | inl l ↦ rw (drop_all i left l) (h (count x (drop j right)))
          | inr r ↦ rw (drop_all j right r) (g (count x (drop i left)))
        ]

    -- what is left of both lists comes out
    pub ends_by_both : (length left ≤ i) ⊎ (length right ≤ j) → ((k : ℕ) → f k 0 ≡ k) → ((k : ℕ) → f 0 k ≡ k) → (x : ℕ) → count x ((out ++ drop i left) ++ drop j right) ≡ f (count x left) (count x right)
    ends_by_both o g h x =
        count-append x (out ++ drop i left) (drop j right) ∙ (ap (λ (w : ℕ). w + count x (drop j right)) (count-append x out (drop i left)) ∙ omega (arith, rest, m.counts.each x))
      where
        rest : f (count x (drop i left)) (count x (drop j right)) ≡ count x (drop i left) + count x (drop j right)
        rest = elim o as (λ _. f (count x (drop i left)) (count x (drop j right)) ≡ count x (drop i left) + count x (drop j right)) [
          | inl l ↦ omega (arith, ap (count x) (drop_all i left l), h (count x (drop j right)), ap (λ (w : List ℕ). f (count x w) (count x (drop j right))) (drop_all i left l))
          | inr r ↦ omega (arith, ap (count x) (drop_all j right r), g (count x (drop i left)), ap (λ (w : List ℕ). f (count x (drop i left)) (count x w)) (drop_all j right r))
        ]

    pub ends_rising : (length left ≤ i) ⊎ (length right ≤ j) → IsNonDecreasing ((out ++ drop i left) ++ drop j right)
    ends_rising o = elim o as (λ _. IsNonDecreasing ((out ++ drop i left) ++ drop j right)) [
      | inl l ↦ rw (drop_all i left l, append-nil out) (non_decreasing (out ++ drop j right) m.right_rises)
      | inr r ↦ rw (drop_all j right r, append-nil (out ++ drop i left)) (non_decreasing (out ++ drop i left) m.left_rises)
    ]

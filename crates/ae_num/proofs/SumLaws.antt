-- The parts that are made of pairs: their steps, factors, order and size.
use Rattle.std.specs.Prelude.{ℕ, ℤ, pos, ◌≡◌, ◌≢◌, ◌<◌, ◌^◌, Bool, true, false, cond, ◌||◌, nat_eq, nat_lt, List, [], ◌∷◌, ◌++◌, map, unsigned_abs, None, Some, drop, length}
use Rattle.std.specs.List.{AllByRecursion}
use Rattle.std.proofs.Common.{arith, refl, sym, ap, ◌∙◌, subst, append_assoc, ◌+◌, get_or}
use Rattle.std.proofs.lemmas.Bool.Decides.{nat_tests}
use lib.IntN.{ℤ_discrete}
use Rattle.std.proofs.lemmas.List.{drop_more}
use Rattle.ae_base.specs.Decided.{pick}
use Rattle.ae_base.proofs.Decided.{pick_yes, pick_no}
use Rattle.std.proofs.lemmas.Bool.{eqb-true, ltb-true}
use Rattle.std.proofs.Math.Bool.{or_assoc}
use Rattle.ae_base.proofs.Tests.{or_swap}
use Rattle.ae_num.specs.declared.forms.Part.{Part}
use Rattle.ae_num.specs.declared.pairs.Pair.{Pair}
use Rattle.ae_num.specs.declared.numbers.Wide.{Wide}
use Rattle.ae_num.specs.declared.sums.Combination.{Combination}
use Rattle.ae_num.proofs.StepLaws.{first_wide-none, first_wide-some}
use Rattle.ae_num.specs.Limits.{FitsLimits}
use Rattle.ae_num.specs.Forms.{factor_of, AllAbove, IsRising, with_key, with_keys, keys_of, has_key, first_wide}
use Rattle.ae_num.specs.Inner.Pairs.{pair_at, pairs_of, kept, combined, outcome_of, steps_of, all_steps}
use Rattle.ae_num.proofs.PairLaws.{Above, Increasing, above_with_key, absent, factor_head}

-- ---- a part that is kept, or left out where its factor is 0
pub kept_zero : (p : Part) (ps : List Part) → p.factor ≡ pos 0 → kept p ps ≡ ps
kept_zero p ps e = pick_yes (ℤ_discrete p.factor (pos 0)) _ _ e

pub kept_other : (p : Part) (ps : List Part) → p.factor ≢ pos 0 → kept p ps ≡ p ∷ ps
kept_other p ps n = pick_no (ℤ_discrete p.factor (pos 0)) _ _ n

pub ruleset keeping = (kept_zero, kept_other)

above_kept : (j : ℕ) (p : Part) (ps : List Part) → j < p.key → AllAbove j ps → AllAbove j (kept p ps)
above_kept j p ps h a = elim (ℤ_discrete p.factor (pos 0)) as (λ d. AllAbove j (pick d ps (p ∷ ps))) [ yes e ↦ a | no n ↦ (h, a) ]

rising_kept : (p : Part) (ps : List Part) → AllAbove p.key ps → IsRising ps → IsRising (kept p ps)
rising_kept p ps a r = elim (ℤ_discrete p.factor (pos 0)) as (λ d. IsRising (pick d ps (p ∷ ps))) [ yes e ↦ r | no n ↦ (a, r) ]

abbrev pub NonZero : List Part → Type 0
NonZero ps = AllByRecursion (λ p. p.factor ≢ pos 0) ps

nonzero_kept : (p : Part) (ps : List Part) → NonZero ps → NonZero (kept p ps)
nonzero_kept p ps a = elim (ℤ_discrete p.factor (pos 0)) as (λ d. NonZero (pick d ps (p ∷ ps))) [ yes e ↦ a | no n ↦ (n, a) ]

abbrev pub AllWithin : List Part → Type 0
AllWithin ps = AllByRecursion (λ n. n < 2 ^ 127) (map (λ p. unsigned_abs p.factor) ps)

pub within_kept : (p : Part) (ps : List Part) → FitsLimits p.factor → AllWithin ps → AllWithin (kept p ps)
within_kept p ps h a = elim (ℤ_discrete p.factor (pos 0)) as (λ d. AllWithin (pick d ps (p ∷ ps))) [ yes e ↦ a | no n ↦ (h, a) ]

-- its factor, where no other part has its key
factor_kept : (p : Part) (ps : List Part) → factor_of ps p.key ≡ pos 0 → factor_of (kept p ps) p.key ≡ p.factor
factor_kept p ps e =
    elim (ℤ_discrete p.factor (pos 0)) as (λ d. factor_of (pick d ps (p ∷ ps)) p.key ≡ p.factor) [
      | yes f ↦ e ∙ sym f
      | no n ↦ factor_head p ps
    ]

factor_past : (p : Part) (ps : List Part) (y : ℕ) → nat_eq p.key y ≡ false → factor_of (kept p ps) y ≡ factor_of ps y
factor_past p ps y e =
    elim (ℤ_discrete p.factor (pos 0)) as (λ d. factor_of (pick d ps (p ∷ ps)) y ≡ factor_of ps y) [
      | yes f ↦ refl
      | no n ↦ ap (λ b. cond b p.factor (factor_of ps y)) e
    ]

-- ---- keys
member : ℕ → List ℕ → Bool
member y [] = false
member y (x ∷ xs) = nat_eq x y || member y xs

or_twice : (a b : Bool) → a || b ≡ a || (a || b)
or_twice true b = refl
or_twice false b = refl

member-with_key : (y x : ℕ) (zs : List ℕ) → member y (with_key x zs) ≡ nat_eq x y || member y zs
unfolding member
member-with_key y x [] = refl
member-with_key y x (z ∷ zs) =
    elim (nat_lt x z) as (λ b. member y (cond b (x ∷ z ∷ zs) (cond (nat_eq x z) (z ∷ zs) (z ∷ with_key x zs))) ≡ nat_eq x y || (nat_eq z y || member y zs)) [
      | true ↦ refl
      | false ↦ same_or_later (member-with_key y x zs) (nat_eq x z) refl
    ]
  where
    same_or_later : member y (with_key x zs) ≡ nat_eq x y || member y zs → (b : Bool) → nat_eq x z ≡ b → member y (cond b (z ∷ zs) (z ∷ with_key x zs)) ≡ nat_eq x y || (nat_eq z y || member y zs)
    same_or_later ih true e = subst (λ w. nat_eq z y || member y zs ≡ nat_eq w y || (nat_eq z y || member y zs)) (sym (eqb-true x z e)) (or_twice (nat_eq z y) (member y zs))
    same_or_later ih false e = ap (λ b. nat_eq z y || b) ih ∙ or_swap (nat_eq z y) (nat_eq x y) (member y zs)

member-keys : (y : ℕ) (qs : List Part) → member y (map (λ q. q.key) qs) ≡ has_key qs y
unfolding member
member-keys y [] = refl
member-keys y (q ∷ qs) = ap (λ b. nat_eq q.key y || b) (member-keys y qs)

member-with_keys : (y : ℕ) (ps : List Part) (ys : List ℕ) → member y (with_keys ps ys) ≡ has_key ps y || member y ys
member-with_keys y [] ys = refl
member-with_keys y (p ∷ ps) ys = member-with_key y p.key (with_keys ps ys) ∙ ap (λ b. nat_eq p.key y || b) (member-with_keys y ps ys) ∙ sym (or_assoc (nat_eq p.key y) (has_key ps y) (member y ys))

pub no_key : (y : ℕ) (ps : List Part) → has_key ps y ≡ false → factor_of ps y ≡ pos 0
no_key y [] e = refl
no_key y (p ∷ ps) e =
    elim (nat_eq p.key y) as (λ b. b || has_key ps y ≡ false → cond b p.factor (factor_of ps y) ≡ pos 0) [
      | true ↦ λ h. cc
      | false ↦ λ h. no_key y ps h
    ] e

lower : (j k : ℕ) (ys : List ℕ) → j < k → Above k ys → Above j ys
lower j k [] h a = tt
lower j k (y ∷ ys) h a = (let b = a.0 in omega arith, lower j k ys h a.1)

other_test : (m n : ℕ) → nat_lt m n ≡ false → nat_eq m n ≡ false → n < m
other_test m n h e = grind (arith, nat_tests)

increasing_with_key : (x : ℕ) (ys : List ℕ) → Increasing ys → Increasing (with_key x ys)
increasing_with_key x [] r = (tt, tt)
increasing_with_key x (y ∷ ys) r = by_less (increasing_with_key x ys r.1) (nat_lt x y) refl
  where
    by_same : Increasing (with_key x ys) → (b : Bool) → nat_lt x y ≡ false → nat_eq x y ≡ b → Increasing (cond b (y ∷ ys) (y ∷ with_key x ys))
    by_same ih true h e = r
    by_same ih false h e = (above_with_key y x ys (other_test x y h e) r.0, ih)

    by_less : Increasing (with_key x ys) → (b : Bool) → nat_lt x y ≡ b → Increasing (cond b (x ∷ y ∷ ys) (cond (nat_eq x y) (y ∷ ys) (y ∷ with_key x ys)))
    by_less ih true h = let l = ltb-true x y h in ((l, lower x y ys l r.0), r)
    by_less ih false h = by_same ih (nat_eq x y) h refl

increasing_with_keys : (ps : List Part) (ys : List ℕ) → Increasing ys → Increasing (with_keys ps ys)
increasing_with_keys [] ys r = r
increasing_with_keys (p ∷ ps) ys r = increasing_with_key p.key (with_keys ps ys) (increasing_with_keys ps ys r)

above_keys : (k : ℕ) (ps : List Part) → AllAbove k ps → Above k (map (λ q. q.key) ps)
above_keys k [] a = tt
above_keys k (p ∷ ps) a = (a.0, above_keys k ps a.1)

increasing_keys : (ps : List Part) → IsRising ps → Increasing (map (λ q. q.key) ps)
increasing_keys [] r = tt
increasing_keys (p ∷ ps) r = (above_keys p.key ps r.0, increasing_keys ps r.1)

-- ---- the parts that a function makes
module _ (f : ℤ → ℤ → ℤ) (P Q : List Part) where
  made : List ℕ → List Part
  made ys = combined f (map (pair_at P Q) ys)

  above_made : (k : ℕ) (ys : List ℕ) → Above k ys → AllAbove k (made ys)
  unfolding made
  above_made k [] a = tt
  above_made k (y ∷ ys) a = above_kept k (record { key = y; factor = f (factor_of P y) (factor_of Q y) }) (made ys) a.0 (above_made k ys a.1)

  rising_made : (ys : List ℕ) → Increasing ys → IsRising (made ys)
  unfolding made
  rising_made [] r = tt
  rising_made (y ∷ ys) r = rising_kept (record { key = y; factor = f (factor_of P y) (factor_of Q y) }) (made ys) (above_made y ys r.0) (rising_made ys r.1)

  nonzero_made : (ys : List ℕ) → NonZero (made ys)
  unfolding made
  nonzero_made [] = tt
  nonzero_made (y ∷ ys) = nonzero_kept (record { key = y; factor = f (factor_of P y) (factor_of Q y) }) (made ys) (nonzero_made ys)

  factor_made : (k : ℕ) (ys : List ℕ) → Increasing ys → factor_of (made ys) k ≡ cond (member k ys) (f (factor_of P k) (factor_of Q k)) (pos 0)
  unfolding made member
  factor_made k [] r = refl
  factor_made k (y ∷ ys) r = by_key (factor_made k ys r.1) (nat_eq y k) refl
    where
      by_key : factor_of (made ys) k ≡ cond (member k ys) (f (factor_of P k) (factor_of Q k)) (pos 0) → (b : Bool) → nat_eq y k ≡ b → factor_of (kept (record { key = y; factor = f (factor_of P y) (factor_of Q y) }) (made ys)) k ≡ cond (b || member k ys) (f (factor_of P k) (factor_of Q k)) (pos 0)
      by_key ih true e = subst (λ j. factor_of (kept (record { key = y; factor = f (factor_of P y) (factor_of Q y) }) (made ys)) j ≡ f (factor_of P j) (factor_of Q j)) (eqb-true y k e) (factor_kept (record { key = y; factor = f (factor_of P y) (factor_of Q y) }) (made ys) (absent y (made ys) (above_made y ys r.0)))
      by_key ih false e = factor_past (record { key = y; factor = f (factor_of P y) (factor_of Q y) }) (made ys) k e ∙ ih

  -- for each key the function of its two factors
  pub combined_factor : IsRising Q → f (pos 0) (pos 0) ≡ pos 0 → (k : ℕ) → factor_of (combined f (pairs_of P Q)) k ≡ f (factor_of P k) (factor_of Q k)
  unfolding made member
  combined_factor r z k = factor_made k (keys_of P Q) (increasing_with_keys P (map (λ q. q.key) Q) (increasing_keys Q r)) ∙ by_member (has_key P k) (has_key Q k) refl refl
    where
      keys : member k (keys_of P Q) ≡ has_key P k || has_key Q k
      keys = member-with_keys k P (map (λ q. q.key) Q) ∙ ap (λ b. has_key P k || b) (member-keys k Q)

      by_member : (a b : Bool) → has_key P k ≡ a → has_key Q k ≡ b → cond (member k (keys_of P Q)) (f (factor_of P k) (factor_of Q k)) (pos 0) ≡ f (factor_of P k) (factor_of Q k)
      by_member true b e g = ap (λ c. cond c (f (factor_of P k) (factor_of Q k)) (pos 0)) (keys ∙ ap (λ c. c || has_key Q k) e)
      by_member false true e g = ap (λ c. cond c (f (factor_of P k) (factor_of Q k)) (pos 0)) (keys ∙ ap (λ c. c || has_key Q k) e ∙ g)
      by_member false false e g =
          ap (λ c. cond c (f (factor_of P k) (factor_of Q k)) (pos 0)) (keys ∙ ap (λ c. c || has_key Q k) e ∙ g) ∙ sym z
          ∙ ap (λ a. f a (pos 0)) (sym (no_key k P e)) ∙ ap (λ b. f (factor_of P k) b) (sym (no_key k Q g))

  pub combined_rising : IsRising Q → IsRising (combined f (pairs_of P Q))
  unfolding made
  combined_rising r = rising_made (keys_of P Q) (increasing_with_keys P (map (λ q. q.key) Q) (increasing_keys Q r))

  pub combined_nonzero : NonZero (combined f (pairs_of P Q))
  unfolding made
  combined_nonzero = nonzero_made (keys_of P Q)

-- ---- one pair after the other
kept-append : (p : Part) (ps : List Part) → kept p [] ++ ps ≡ kept p ps
kept-append p ps = elim (ℤ_discrete p.factor (pos 0)) as (λ d. pick d [] (p ∷ []) ++ ps ≡ pick d ps (p ∷ ps)) [ yes e ↦ refl | no n ↦ refl ]

part_of : ℤ → Pair → Part
part_of z r = record { key = r.key; factor = z }

pub combined_step : (m : Combination) (xs : List Pair) (i : ℕ) (d : Pair) (ps ps' W : List Part) (z : ℤ) → i < length xs
    → z ≡ outcome_of m (get_or xs i d).left (get_or xs i d).right → ps' ≡ ps ++ kept (record { key = (get_or xs i d).key; factor = z }) []
    → ps ++ combined (outcome_of m) (drop i xs) ≡ W → ps' ++ combined (outcome_of m) (drop (i + 1) xs) ≡ W
combined_step m xs i d ps ps' W z h e q w =
    let r = get_or xs i d in
    let rest = combined (outcome_of m) (drop (i + 1) xs) in
    let p : Part = record { key = r.key; factor = z } in
    ap (λ t. t ++ rest) q ∙ append_assoc ps (kept p []) rest ∙ ap (λ t. ps ++ t) (kept-append p rest)
    ∙ ap (λ y. ps ++ kept (record { key = r.key; factor = y }) rest) e ∙ ap (λ t. ps ++ combined (outcome_of m) t) (sym (drop_more xs i d h)) ∙ w

pub steps_step : (m : Combination) (xs : List Pair) (i : ℕ) (d : Pair) → i < length xs → first_wide (steps_of m (get_or xs i d).left (get_or xs i d).right) ≡ None
    → first_wide (all_steps m xs) ≡ first_wide (all_steps m (drop i xs)) → first_wide (all_steps m xs) ≡ first_wide (all_steps m (drop (i + 1) xs))
steps_step m xs i d h n e =
    e ∙ ap (λ t. first_wide (all_steps m t)) (drop_more xs i d h) ∙ first_wide-none (steps_of m (get_or xs i d).left (get_or xs i d).right) (all_steps m (drop (i + 1) xs)) n

pub steps_stop : (m : Combination) (xs : List Pair) (i : ℕ) (d : Pair) (w : Wide) → i < length xs → first_wide (steps_of m (get_or xs i d).left (get_or xs i d).right) ≡ Some w
    → first_wide (all_steps m xs) ≡ first_wide (all_steps m (drop i xs)) → first_wide (all_steps m xs) ≡ Some w
steps_stop m xs i d w h n e =
    e ∙ ap (λ t. first_wide (all_steps m t)) (drop_more xs i d h) ∙ first_wide-some (steps_of m (get_or xs i d).left (get_or xs i d).right) (all_steps m (drop (i + 1) xs)) w n

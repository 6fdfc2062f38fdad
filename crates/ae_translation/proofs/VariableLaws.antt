-- Bound variables by their distance, and those of a block before those outside it.
use Rattle.std.proofs.Common.{arith, ◌≡◌, ◌∙◌, ◌≢◌, ℕ, suc, ◌+◌, ◌-◌, ◌<◌, ◌≤◌, Bool, true, false, List, [], ◌∷◌, ◌++◌, length, drop, get_or, reverse, sym, ap}
use Rattle.std.specs.Prelude.{nat_eq}
use Rattle.std.proofs.lemmas.List.{drop_more, drop_all, reverse-append}
use Rattle.std.proofs.lemmas.Bool.Decides.{nat_tests}
use Rattle.ae_elab.specs.Elaboration.{distance}

module _ (xs : List ℕ) (x i : ℕ) (l : i < length xs) where
  abbrev there : ℕ
  there = get_or xs i 0

  abbrev by_test : Bool → ℕ
  by_test b = elim b [ true ↦ 0 | false ↦ suc (distance (drop (i + 1) xs) x) ]

  at_place : distance (drop i xs) x ≡ by_test (nat_eq x there)
  at_place = ap (λ (ys : List ℕ). distance ys x) (drop_more xs i 0 l)

  pub found : x ≡ there → i + distance (drop i xs) x ≡ i
  found e =
      let same : nat_eq x there ≡ true = grind (arith, nat_tests) in
      let d : distance (drop i xs) x ≡ 0 = at_place ∙ ap by_test same in
      omega (arith, d)

  pub passed : x ≢ there → (i + 1) + distance (drop (i + 1) xs) x ≡ i + distance (drop i xs) x
  passed e =
      let other : nat_eq x there ≡ false = grind (arith, nat_tests) in
      let d : distance (drop i xs) x ≡ suc (distance (drop (i + 1) xs) x) = at_place ∙ ap by_test other in
      omega (arith, d)

pub ended : (xs : List ℕ) (x i : ℕ) → length xs ≤ i → i + distance (drop i xs) x ≡ i
ended xs x i l =
    let d : distance (drop i xs) x ≡ 0 = ap (λ (ys : List ℕ). distance ys x) (drop_all i xs l) in
    omega (arith, d)

pub turned : (xs : List ℕ) (i : ℕ) → i < length xs → reverse (drop (length xs - i) xs) ++ get_or xs (length xs - 1 - i) 0 ∷ [] ≡ reverse (drop (length xs - (i + 1)) xs)
turned xs i l =
    let k = length xs - 1 - i in
    let more : length xs - i ≡ k + 1 = omega (arith, l) in
    let same : length xs - (i + 1) ≡ k = omega arith in
    let within : k < length xs = omega (arith, l) in
    ap (λ (n : ℕ). reverse (drop n xs) ++ get_or xs k 0 ∷ []) more
    ∙ sym (reverse-append (get_or xs k 0 ∷ []) (drop (k + 1) xs))
    ∙ ap reverse (sym (drop_more xs k 0 within) ∙ ap (λ (n : ℕ). drop n xs) (sym same))

-- A sum of digits that passes the limit stays beyond it.
use Rattle.std.proofs.Common.{ℕ, ◌+◌, ◌-◌, ◌*◌, ◌/◌, ◌≤◌, ◌<◌, ◌≡◌, Bool, true, false, cond, IsTrue, nat_lt, List, [], ◌∷◌, length, drop, get_or, ap, ◌∙◌, arith}
use Rattle.std.proofs.lemmas.Bool.{lt-ltb}
use Rattle.std.proofs.lemmas.List.{drop_more}
use Rattle.ae_codes.specs.Codes.{is_digit, value_from, limit}
use Rattle.ae_codes.specs.Numbers.{digit_low, digit_high}

le_value : (n : ℕ) (xs : List ℕ) → n ≤ value_from n xs
le_value n [] = omega arith
le_value n (x ∷ xs) = go (is_digit x) (le_value (n * 10 + (x - 48)) xs)
  where
    go : (b : Bool) → n * 10 + (x - 48) ≤ value_from (n * 10 + (x - 48)) xs → n ≤ cond b (value_from (n * 10 + (x - 48)) xs) n
    go true h = omega arith
    go false h = omega arith

pub over : (text : List ℕ) (i sum : ℕ) → i < length text → IsTrue (is_digit (get_or text i 0)) → (limit - (get_or text i 0 - 48)) / 10 < sum → nat_lt limit (value_from sum (drop i text)) ≡ true
over text i sum h d big =
    let x = get_or text i 0 in
    let lo = digit_low x d in
    let hi = digit_high x d in
    let up = le_value (sum * 10 + (x - 48)) (drop (i + 1) text) in
    let step : value_from sum (drop i text) ≡ value_from (sum * 10 + (x - 48)) (drop (i + 1) text) =
    ap (value_from sum) (drop_more text i 0 h) ∙ ap (λ b. cond b (value_from (sum * 10 + (x - 48)) (drop (i + 1) text)) sum) d in
    lt-ltb limit (value_from sum (drop i text)) (omega (arith, step))

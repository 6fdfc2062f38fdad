-- Rules and endings with numbers in their limits have texts.
use Rattle.std.specs.Prelude.{ℕ, ℤ, ◌^◌, ◌<◌, List, [], ◌∷◌, decimal}
use Rattle.std.specs.List.{AllByRecursion}
use Rattle.std.proofs.Common.{refl, inl, inr}
use Rattle.ae_base.proofs.AllOf.{all_before_map}
use Rattle.ae_codes.specs.Closers.{by_blank, by_line, in_line, sizes}
use Rattle.ae_codes.specs.Codes.{both, mapped, words}
use Rattle.ae_codes.specs.Listings.{headed, more_or}
use Rattle.ae_codes.specs.Numbers.{number}
use Rattle.ae_codes.specs.Rows.{empty}
use Rattle.ae_codes.specs.Tables.{table, tagged}
use Rattle.ae_core.specs.declared.proofs.Scaled.{Scaled}
use Rattle.ae_core.specs.declared.proofs.Ending.{Ending}
use Rattle.ae_core.specs.declared.proofs.Ending.TheVariants.{Neq, Const, Clash, Pred, Zero, Gcd}
use Rattle.ae_prooftext.specs.Clauses.{numbers_to_end, number_is_spelled, number_in_line, above_line}
use Rattle.ae_prooftext.specs.Rules.{EqRule, e_hyp, e_refl, e_sym, e_trans, e_cong, e_ac, e_lin, e_field, e_fields, LeRule, le_hyp, le_sum, le_round, LtRule, lt_hyp, lt_sum, eq_code, le_code, lt_code}
use Rattle.ae_prooftext.specs.Rules.{ending_code, integer_at, scaled, sure_scaled, scaled_shaped, scaled_is_spelled, some_scaled, sum, some_numbers, number_and_more}
use Rattle.ae_prooftext.specs.Texts.{scaled_text}
use Rattle.ae_legal_texts.specs.Numbers.{Number, count, factor, IsWithin, AreWithin, counts, part_numbers, sum_numbers, ending_numbers}
use Rattle.ae_legal_texts.specs.Writable.{ClosesParts}
use Rattle.ae_legal_texts.proofs.Places.{all_parts}
use Rattle.ae_legal_texts.proofs.Closing.{stroke_apart, blank_parts}
use Rattle.ae_legal_texts.proofs.Sorts.{count_fits}
use Rattle.ae_legal_texts.proofs.Numerals.{integer_fits}
use Rattle.ae_legal_texts.proofs.Lists.{Item, following_fits, some_fits}

abbrev pub Small : ℕ → Type 0
Small n = n < 2 ^ 64

in_line_parts : ClosesParts in_line
unfolding in_line
in_line_parts = (refl, refl)

-- ---- numbers
pub blank_count : (n : ℕ) → Small n → (number (sizes by_blank)).Fits (n, 32)
unfolding by_blank
blank_count n l = count_fits by_blank n 32 l refl

pub line_count : (n : ℕ) → Small n → (number (sizes by_line)).Fits (n, 10)
unfolding by_line
line_count n l = count_fits by_line n 10 l refl

count_item : (n : ℕ) → Small n → Item 10 above_line (number (sizes in_line)) 0 number_in_line n
unfolding in_line
count_item n l = (count_fits in_line n 32 l refl, count_fits in_line n 10 l refl)

count_items : (ks : List ℕ) → AllByRecursion Small ks → AllByRecursion (Item 10 above_line (number (sizes in_line)) 0 number_in_line) ks
count_items [] h = tt
count_items (k ∷ ks) h = (count_item k h.0, count_items ks h.1)

pub all_small : (ks : List ℕ) → AreWithin (counts ks) → AllByRecursion Small ks
all_small ks w = all_before_map IsWithin count ks w

pub numbers_has : (ks : List ℕ) → AreWithin (counts ks) → numbers_to_end.Fits ks
unfolding numbers_to_end
numbers_has ks w = following_fits 10 above_line (number (sizes in_line)) 0 number_in_line decimal (λ v f. number_is_spelled in_line v) ks (count_items ks (all_small ks w))

number_and_more_has : (n : ℕ) (ks : List ℕ) → Small n → AreWithin (counts ks) → number_and_more.Fits (n, ks)
unfolding number_and_more headed mapped both more_or empty some_numbers
number_and_more_has n [] l w = (((count_item n l).1, refl), refl)
number_and_more_has n (k ∷ ks) l w = (((count_item n l).0, some_fits 10 above_line (number (sizes in_line)) 0 number_in_line decimal (λ v f. number_is_spelled in_line v) k ks (count_items (k ∷ ks) (all_small (k ∷ ks) w))), refl)

-- ---- sums
integer_item : (z : ℤ) → IsWithin (factor z) → (integer_at in_line).Fits (z, 32) × (integer_at in_line).Fits (z, 10)
unfolding in_line
integer_item z w = (integer_fits in_line (stroke_apart in_line in_line_parts) z 32 w refl, integer_fits in_line (stroke_apart in_line in_line_parts) z 10 w refl)

blank_integer : (z : ℤ) → IsWithin (factor z) → (integer_at by_blank).Fits (z, 32)
unfolding by_blank
blank_integer z w = integer_fits by_blank (stroke_apart by_blank blank_parts) z 32 w refl

scaled_has : (x : Scaled) (e : ℕ) → IsWithin (factor x.factor) → (number (sizes in_line)).Fits (x.line, e) → scaled.Fits (x, e)
unfolding scaled mapped both
scaled_has x e w f = ((blank_integer x.factor w, f), refl)

scaled_items : (xs : List Scaled) → AllByRecursion (λ x. AreWithin (part_numbers x)) xs → AllByRecursion (Item 10 above_line scaled sure_scaled scaled_shaped) xs
scaled_items [] h = tt
scaled_items (x ∷ xs) h =
    let w = h.0 in
    let c = count_item x.line w.1.0 in
    ((scaled_has x 32 w.0 c.0, scaled_has x 10 w.0 c.1), scaled_items xs h.1)

sum_has : (d : ℤ) (xs : List Scaled) → AreWithin (sum_numbers d xs) → sum.Fits (d, xs)
unfolding sum headed mapped both more_or empty some_scaled
sum_has d [] w = (((integer_item d w.0).1, refl), refl)
sum_has d (x ∷ xs) w = (((integer_item d w.0).0, some_fits 10 above_line scaled sure_scaled scaled_shaped scaled_text scaled_is_spelled x xs (scaled_items (x ∷ xs) (all_parts IsWithin part_numbers (x ∷ xs) w.1))), refl)

-- ---- rules
abbrev pub eq_rule_numbers : EqRule → List Number
eq_rule_numbers (e_hyp n) = count n ∷ []
eq_rule_numbers e_refl = []
eq_rule_numbers (e_sym n) = count n ∷ []
eq_rule_numbers (e_trans n m) = count n ∷ count m ∷ []
eq_rule_numbers (e_cong ks) = counts ks
eq_rule_numbers e_ac = []
eq_rule_numbers (e_lin d xs) = sum_numbers d xs
eq_rule_numbers e_field = []
eq_rule_numbers (e_fields ks) = counts ks

abbrev pub le_rule_numbers : LeRule → List Number
le_rule_numbers (le_hyp n) = count n ∷ []
le_rule_numbers (le_sum d xs) = sum_numbers d xs
le_rule_numbers (le_round n) = count n ∷ []

abbrev pub lt_rule_numbers : LtRule → List Number
lt_rule_numbers (lt_hyp n) = count n ∷ []
lt_rule_numbers (lt_sum d xs) = sum_numbers d xs

pub eq_rule_has : (r : EqRule) → AreWithin (eq_rule_numbers r) → eq_code.Fits r
unfolding eq_code tagged mapped both table words empty
eq_rule_has (e_hyp n) w = ((inl refl, (line_count n w.0, refl)), refl)
eq_rule_has e_refl w = ((inr (inl refl), refl), refl)
eq_rule_has (e_sym n) w = ((inr (inr (inl refl)), (line_count n w.0, refl)), refl)
eq_rule_has (e_trans n m) w = ((inr (inr (inr (inl refl))), ((blank_count n w.0, line_count m w.1.0), refl)), refl)
eq_rule_has (e_cong ks) w = ((inr (inr (inr (inr (inl refl)))), (numbers_has ks w, refl)), refl)
eq_rule_has e_ac w = ((inr (inr (inr (inr (inr (inl refl))))), refl), refl)
eq_rule_has (e_lin d xs) w = ((inr (inr (inr (inr (inr (inr (inl refl)))))), (sum_has d xs w, refl)), refl)
eq_rule_has e_field w = ((inr (inr (inr (inr (inr (inr (inr (inl refl))))))), refl), refl)
eq_rule_has (e_fields ks) w = ((inr (inr (inr (inr (inr (inr (inr (inr (inl refl)))))))), (numbers_has ks w, refl)), refl)

pub le_rule_has : (r : LeRule) → AreWithin (le_rule_numbers r) → le_code.Fits r
unfolding le_code tagged mapped both table words
le_rule_has (le_hyp n) w = ((inl refl, (line_count n w.0, refl)), refl)
le_rule_has (le_sum d xs) w = ((inr (inl refl), (sum_has d xs w, refl)), refl)
le_rule_has (le_round n) w = ((inr (inr (inl refl)), (line_count n w.0, refl)), refl)

pub lt_rule_has : (r : LtRule) → AreWithin (lt_rule_numbers r) → lt_code.Fits r
unfolding lt_code tagged mapped both table words
lt_rule_has (lt_hyp n) w = ((inl refl, (line_count n w.0, refl)), refl)
lt_rule_has (lt_sum d xs) w = ((inr (inl refl), (sum_has d xs w, refl)), refl)

-- ---- endings
pub ending_has : (e : Ending) → AreWithin (ending_numbers e) → ending_code.Fits e
unfolding ending_code tagged mapped both table words
ending_has (Neq k i) w = ((inl refl, ((blank_count k w.0, line_count i w.1.0), refl)), refl)
ending_has (Const k) w = ((inr (inl refl), (line_count k w.0, refl)), refl)
ending_has (Clash k) w = ((inr (inr (inl refl)), (line_count k w.0, refl)), refl)
ending_has (Pred i j ks) w = ((inr (inr (inr (inl refl))), ((blank_count i w.0, number_and_more_has j ks w.1.0 w.1.1), refl)), refl)
ending_has (Zero k) w = ((inr (inr (inr (inr (inl refl)))), (line_count k w.0, refl)), refl)
ending_has (Gcd k) w = ((inr (inr (inr (inr (inr (inl refl))))), (line_count k w.0, refl)), refl)

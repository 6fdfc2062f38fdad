-- Rules and endings as the grammar reads them.
use Rattle.std.proofs.Common.{ℕ, Bool, true, false, nat_eq, List, [], ◌∷◌, ◌++◌, ◌≡◌, ◌⊎◌, decimal, refl, ap, ◌∙◌}
use Rattle.ae_codes.specs.Codes.{Code, Read, got}
use Rattle.ae_codes.specs.Closers.{by_blank, by_line, in_line, sizes}
use Rattle.ae_codes.specs.Listings.{following_code, some_code, no_shape, no_sure, no_codes, no_inner, one_item, one_shaped}
use Rattle.ae_codes.specs.Nested.{Shaped}
use Rattle.ae_codes.specs.Numbers.{number}
use Rattle.ae_codes.specs.Plans.{known}
use Rattle.ae_codes.specs.Rows.{ItemShape, rows, empty}
use Rattle.ae_core.specs.declared.proofs.EqLine.{EqLine}
use Rattle.ae_core.specs.declared.proofs.Ending.{Ending}
use Rattle.ae_core.specs.declared.proofs.Ending.TheVariants.{Pred}
use Rattle.ae_core.specs.declared.terms.Term.{Term}
use Rattle.ae_prooftext.specs.Clauses.{above_line, number_in_line, number_is_spelled, numbers_to_end}
use Rattle.ae_prooftext.specs.Proofs.{eq_of, le_of, lt_of}
use Rattle.ae_prooftext.specs.Rules as rules
use Rattle.ae_prooftext.specs.Rules.{EqRule, LeRule, LtRule, scaled, scaled_shaped, sure_scaled, some_numbers, some_numbers_some, some_scaled, some_scaled_some, number_and_more, sum, eq_code, le_code, lt_code, ending_code}
use Rattle.ae_prooftext.specs.Texts.{scaled_text}
use Rattle.ae_readers.specs.Readers.{after_read, behind_read, integer_at, more_read, row_read}
use Rattle.ae_readers.proofs.Combinators.{after_same, mapped_is}
use Rattle.ae_readers.proofs.RowReading.{following_is, headed_is, headed_or, row_turn, some_is}
use Rattle.ae_termreader.proofs.SortReading.{both_then, mapped_then}
use Rattle.ae_termreader.proofs.TermReading.{same_behind, same_rows}
use Rattle.ae_choices.specs.Choices.{picked}
use Rattle.ae_linereader.specs.Rules.{number_rows, numbers_read, headed_by, number_and_more_read, scaled_read, scaled_rows, sum_read, eq_arms, le_arms, lt_arms, eq_all, le_all, lt_all, ending_arms, ending_all}
use Rattle.ae_choices.proofs.ChoiceForms.{tagged_picked}
use Rattle.ae_linereader.proofs.OwnReading.{same_after}

-- ---- lists of values that stand by themselves
module _ {X : Type 0} (last : ℕ) (other : nat_eq last 32 ≡ false) (item : Code ((x : X) × ℕ)) (x0 : X) (sh : Shaped (ItemShape last) (x0, last) item) (t : X → List ℕ)
    (law : (v : (x : X) × ℕ) → item.Fits v → item.text v ≡ t v.0 ++ v.1 ∷ []) where
  followed_is : (bytes : List ℕ) → (following_code last other item x0 sh t law).read bytes ≡ behind_read last (rows last other item x0 sh) bytes
  unfolding following_code known
  followed_is bytes =
      following_is {T = λ i. Unit {0}} no_shape no_sure last other (one_item last other item x0 sh t law) x0 (one_shaped last other item x0 sh t law) no_codes no_inner bytes
      ∙ same_behind last other item x0 (one_shaped last other item x0 sh t law no_codes no_inner) sh bytes

  some_row_is : (bytes : List ℕ) → (some_code last other item x0 sh t law).read bytes ≡ row_read (rows last other item x0 sh) bytes
  unfolding some_code known
  some_row_is bytes =
      some_is {T = λ i. Unit {0}} no_shape no_sure last other (one_item last other item x0 sh t law) x0 (one_shaped last other item x0 sh t law) no_codes no_inner bytes
      ∙ same_rows last other item x0 (one_shaped last other item x0 sh t law no_codes no_inner) sh bytes

pub numbers_is : (bytes : List ℕ) → numbers_to_end.read bytes ≡ numbers_read bytes
unfolding numbers_to_end number_rows
numbers_is bytes = followed_is 10 above_line (number (sizes in_line)) 0 number_in_line decimal (λ v f. number_is_spelled in_line v) bytes

pub number_turn : (bytes : List ℕ) → row_read number_rows bytes ≡ after_read ((number (sizes in_line)).read bytes) (λ v rest. more_read (nat_eq v.1 32) v.0 (row_read number_rows rest) rest)
unfolding number_rows
number_turn bytes = row_turn 10 above_line (number (sizes in_line)) 0 number_in_line bytes

pub scaled_turn : (bytes : List ℕ) → row_read scaled_rows bytes ≡ after_read (scaled.read bytes) (λ v rest. more_read (nat_eq v.1 32) v.0 (row_read scaled_rows rest) rest)
unfolding scaled_rows
scaled_turn bytes = row_turn 10 above_line scaled sure_scaled scaled_shaped bytes

pub scaled_is : (bytes : List ℕ) → scaled.read bytes ≡ scaled_read bytes
unfolding scaled
scaled_is bytes =
    mapped_is rules.scaled_to rules.scaled_from rules.scaled_raw rules.scaled_back bytes
    ∙ both_then (rules.integer_at by_blank) (λ z. number (sizes in_line)) bytes (λ v rest. got (rules.scaled_to v) rest)

-- ---- a value and more behind it
same_headed : {H X : Type 0} (last : ℕ) (head : Code ((x : H) × ℕ)) (closes : (v : (x : H) × ℕ) → head.Fits v → (v.1 ≡ 32) ⊎ (v.1 ≡ last)) (more : Code (List X)) (is_some : more.Fits [] → ⊥)
    (b : Bool) (x : H) (r r' : Read (List X)) (rest : List ℕ) → r ≡ r' → headed_or last head closes more is_some b x r rest ≡ headed_by b x r' rest
same_headed last head closes more is_some true x r r' rest e = ap (λ z. after_read z (λ xs end. got (x, xs) end)) e
same_headed last head closes more is_some false x r r' rest e = refl

some_numbers_are : (bytes : List ℕ) → some_numbers.read bytes ≡ row_read number_rows bytes
unfolding some_numbers number_rows
some_numbers_are bytes = some_row_is 10 above_line (number (sizes in_line)) 0 number_in_line decimal (λ v f. number_is_spelled in_line v) bytes

pub number_and_more_is : (bytes : List ℕ) → number_and_more.read bytes ≡ number_and_more_read bytes
unfolding number_and_more
number_and_more_is bytes =
    headed_is 10 (number (sizes in_line)) rules.number_in some_numbers some_numbers_some bytes
    ∙ after_same ((number (sizes in_line)).read bytes) _ _ (λ v rest. same_headed 10 (number (sizes in_line)) rules.number_in some_numbers some_numbers_some (nat_eq v.1 32) v.0 _ _ rest (some_numbers_are rest))

some_scaled_are : (bytes : List ℕ) → some_scaled.read bytes ≡ row_read scaled_rows bytes
unfolding some_scaled scaled_rows
some_scaled_are bytes = some_row_is 10 above_line scaled sure_scaled scaled_shaped scaled_text rules.scaled_is_spelled bytes

pub sum_is : (bytes : List ℕ) → sum.read bytes ≡ sum_read bytes
unfolding sum
sum_is bytes =
    headed_is 10 (rules.integer_at in_line) rules.integer_line some_scaled some_scaled_some bytes
    ∙ after_same ((integer_at in_line).read bytes) _ _ (λ v rest. same_headed 10 (rules.integer_at in_line) rules.integer_line some_scaled some_scaled_some (nat_eq v.1 32) v.0 _ _ rest (some_scaled_are rest))

-- ---- rules
module _ (s t : Term) where
  abbrev eq_made : EqRule → List ℕ → Read EqLine
  eq_made r rest = got (eq_of s t r) rest

  pub eq_rule_is : (bytes : List ℕ) → after_read (eq_code.read bytes) eq_made ≡ picked eq_all (eq_arms s t) bytes
  unfolding eq_code empty
  eq_rule_is = tagged_picked rules.hyp_word rules.eq_words rules.eq_words_apart rules.eq_arms rules.eq_tag rules.eq_law eq_made (eq_arms s t) (
    refl,
    (λ r. mapped_then rules.eq_hyp_to rules.eq_hyp_from rules.eq_hyp_raw rules.eq_hyp_back r eq_made),
    (
      refl,
      (λ r. refl),
      (
        refl,
        (λ r. mapped_then rules.eq_sym_to rules.eq_sym_from rules.eq_sym_raw rules.eq_sym_back r eq_made),
        (
          refl,
          (λ r. mapped_then rules.eq_trans_to rules.eq_trans_from rules.eq_trans_raw rules.eq_trans_back r eq_made
              ∙ both_then (number (sizes by_blank)) (λ n. number (sizes by_line)) r (λ v rest. eq_made (rules.eq_trans_to v) rest)),
          (
            refl,
            (λ r. mapped_then rules.eq_cong_to rules.eq_cong_from rules.eq_cong_raw rules.eq_cong_back r eq_made ∙ ap (λ z. after_read z (λ v rest. eq_made (rules.eq_cong_to v) rest)) (numbers_is r)),
            (
              refl,
              (λ r. refl),
              (
                refl,
                (λ r. mapped_then rules.eq_lin_to rules.eq_lin_from rules.eq_lin_raw rules.eq_lin_back r eq_made ∙ ap (λ z. after_read z (λ v rest. eq_made (rules.eq_lin_to v) rest)) (sum_is r)),
                (
                  refl,
                  (λ r. refl),
                  (
                    refl,
                    (λ r. mapped_then rules.eq_fields_to rules.eq_fields_from rules.eq_fields_raw rules.eq_fields_back r eq_made ∙ ap (λ z. after_read z (λ v rest. eq_made (rules.eq_fields_to v) rest)) (numbers_is r)),
                    tt,
                  ),
                ),
              ),
            ),
          ),
        ),
      ),
    ),
  )

  abbrev le_made : LeRule → List ℕ → Read EqLine
  le_made r rest = got (le_of s t r) rest

  pub le_rule_is : (bytes : List ℕ) → after_read (le_code.read bytes) le_made ≡ picked le_all (le_arms s t) bytes
  unfolding le_code
  le_rule_is = tagged_picked rules.hyp_word rules.le_words rules.le_words_apart rules.le_arms rules.le_tag rules.le_law le_made (le_arms s t) (
    refl,
    (λ r. mapped_then rules.le_hyp_to rules.le_hyp_from rules.le_hyp_raw rules.le_hyp_back r le_made),
    (
      refl,
      (λ r. mapped_then rules.le_sum_to rules.le_sum_from rules.le_sum_raw rules.le_sum_back r le_made ∙ ap (λ z. after_read z (λ v rest. le_made (rules.le_sum_to v) rest)) (sum_is r)),
      (
        refl,
        (λ r. mapped_then rules.le_round_to rules.le_round_from rules.le_round_raw rules.le_round_back r le_made),
        tt,
      ),
    ),
  )

  abbrev lt_made : LtRule → List ℕ → Read EqLine
  lt_made r rest = got (lt_of s t r) rest

  pub lt_rule_is : (bytes : List ℕ) → after_read (lt_code.read bytes) lt_made ≡ picked lt_all (lt_arms s t) bytes
  unfolding lt_code
  lt_rule_is = tagged_picked rules.hyp_word rules.lt_words rules.lt_words_apart rules.lt_arms rules.lt_tag rules.lt_law lt_made (lt_arms s t) (
    refl,
    (λ r. mapped_then rules.lt_hyp_to rules.lt_hyp_from rules.lt_hyp_raw rules.lt_hyp_back r lt_made),
    (
      refl,
      (λ r. mapped_then rules.lt_sum_to rules.lt_sum_from rules.lt_sum_raw rules.lt_sum_back r lt_made ∙ ap (λ z. after_read z (λ v rest. lt_made (rules.lt_sum_to v) rest)) (sum_is r)),
      tt,
    ),
  )

-- ---- endings
abbrev made : Ending → List ℕ → Read Ending
made e rest = got e rest

pub ending_is : (bytes : List ℕ) → ending_code.read bytes ≡ picked ending_all ending_arms bytes
unfolding ending_code
ending_is bytes = same_after (ending_code.read bytes) ∙
    tagged_picked rules.ending_neq_word rules.ending_words rules.ending_words_apart rules.ending_arms rules.ending_tag rules.ending_law made ending_arms (
      refl,
      (λ r. mapped_then rules.ending_neq_to rules.ending_neq_from rules.ending_neq_raw rules.ending_neq_back r made
          ∙ both_then (number (sizes by_blank)) (λ n. number (sizes by_line)) r (λ v rest. made (rules.ending_neq_to v) rest)),
      (
        refl,
        (λ r. mapped_then rules.ending_const_to rules.ending_const_from rules.ending_const_raw rules.ending_const_back r made),
        (
          refl,
          (λ r. mapped_then rules.ending_clash_to rules.ending_clash_from rules.ending_clash_raw rules.ending_clash_back r made),
          (
            refl,
            (λ r. mapped_then rules.ending_pred_to rules.ending_pred_from rules.ending_pred_raw rules.ending_pred_back r made
                ∙ both_then (number (sizes by_blank)) (λ n. number_and_more) r (λ v rest. made (rules.ending_pred_to v) rest)
                ∙ after_same ((number (sizes by_blank)).read r) _ _ (λ n q. ap (λ z. after_read z (λ v rest. got (Pred n.0 v.0 v.1) rest)) (number_and_more_is q))),
            (
              refl,
              (λ r. mapped_then rules.ending_zero_to rules.ending_zero_from rules.ending_zero_raw rules.ending_zero_back r made),
              (
                refl,
                (λ r. mapped_then rules.ending_gcd_to rules.ending_gcd_from rules.ending_gcd_raw rules.ending_gcd_back r made),
                tt,
              ),
            ),
          ),
        ),
      ),
    ) bytes

-- How the rule of a derived line and the ending of a block are read.
use Rattle.std.specs.Prelude.{ℕ, ℤ, Bool, true, false, nat_eq, List, [], ◌∷◌}
use Rattle.ae_codes.specs.Codes.{Read, got, Code}
use Rattle.ae_codes.specs.Closers.{by_blank, by_line, in_line, sizes}
use Rattle.ae_codes.specs.Numbers.{number}
use Rattle.ae_codes.specs.Rows.{Row, rows}
use Rattle.ae_core.specs.declared.proofs.EqLine.{EqLine}
use Rattle.ae_core.specs.declared.proofs.EqLine.TheVariants.{EqHyp, EqRefl, EqSym, EqTrans, EqCong, EqAc, EqLin, EqField, EqFields, LeHyp, LtHyp, LeSum, LtSum, LeRound}
use Rattle.ae_core.specs.declared.proofs.Ending.{Ending}
use Rattle.ae_core.specs.declared.proofs.Ending.TheVariants.{Neq, Const, Clash, Pred, Zero, Gcd}
use Rattle.ae_core.specs.declared.proofs.Scaled.{Scaled}
use Rattle.ae_core.specs.declared.terms.Term.{Term}
use Rattle.ae_prooftext.specs.Clauses.{above_line, number_in_line}
use Rattle.ae_prooftext.specs.Rules as rules
use Rattle.ae_prooftext.specs.Rules.{ScaledEnd, scaled, scaled_shaped, sure_scaled}
use Rattle.ae_choices.specs.Choices.{Arms}
use Rattle.ae_readers.specs.Readers.{after_read, behind_read, integer_at, row_read}

-- ---- numbers to the end of the line
unfoldable pub number_rows : Code (Row ℕ)
number_rows = rows 10 above_line (number (sizes in_line)) 0 number_in_line

-- a blank before each
abbrev pub numbers_read : List ℕ → Read (List ℕ)
numbers_read bytes = behind_read 10 number_rows bytes

-- a value, and more behind it where a blank closed it
abbrev pub headed_by : {H X : Type 0} → Bool → H → Read (List X) → List ℕ → Read ((x : H) × List X)
headed_by true x r rest = after_read r (λ xs end. got (x, xs) end)
headed_by false x r rest = got (x, []) rest

abbrev pub number_and_more_read : List ℕ → Read ((n : ℕ) × List ℕ)
number_and_more_read bytes = after_read ((number (sizes in_line)).read bytes) (λ v rest. headed_by (nat_eq v.1 32) v.0 (row_read number_rows rest) rest)

-- ---- a factor, then factors and the numbers of lines
abbrev pub scaled_read : List ℕ → Read ScaledEnd
scaled_read bytes =
    after_read ((integer_at by_blank).read bytes) (λ z r.
    after_read ((number (sizes in_line)).read r) (λ n rest. got (record { factor = z.0; line = n.0 }, n.1) rest))

unfoldable pub scaled_rows : Code (Row Scaled)
scaled_rows = rows 10 above_line scaled sure_scaled scaled_shaped

abbrev pub sum_read : List ℕ → Read ((d : ℤ) × List Scaled)
sum_read bytes = after_read ((integer_at in_line).read bytes) (λ v rest. headed_by (nat_eq v.1 32) v.0 (row_read scaled_rows rest) rest)

-- ---- the rules of a line with these two terms
module _ (s t : Term) where
  abbrev pub eq_field_arms : Arms EqLine
  eq_field_arms =
      (rules.eq_field_word, λ bytes. got (EqField s t) bytes)
      ∷ (rules.eq_fields_word, λ bytes. after_read (numbers_read bytes) (λ ks rest. got (EqFields s t ks) rest))
      ∷ []

  abbrev pub eq_listed_arms : Arms EqLine
  eq_listed_arms =
      (rules.eq_cong_word, λ bytes. after_read (numbers_read bytes) (λ ks rest. got (EqCong s t ks) rest))
      ∷ (rules.eq_ac_word, λ bytes. got (EqAc s t) bytes)
      ∷ (rules.eq_lin_word, λ bytes. after_read (sum_read bytes) (λ v rest. got (EqLin s t v.0 v.1) rest))
      ∷ eq_field_arms

  abbrev pub eq_arms : Arms EqLine
  eq_arms =
      (rules.hyp_word, λ bytes. after_read ((number (sizes by_line)).read bytes) (λ n rest. got (EqHyp s t n.0) rest))
      ∷ (rules.eq_refl_word, λ bytes. got (EqRefl s t) bytes)
      ∷ (rules.eq_sym_word, λ bytes. after_read ((number (sizes by_line)).read bytes) (λ n rest. got (EqSym s t n.0) rest))
      ∷ (rules.eq_trans_word, λ bytes. after_read ((number (sizes by_blank)).read bytes) (λ n r. after_read ((number (sizes by_line)).read r) (λ m rest. got (EqTrans s t n.0 m.0) rest)))
      ∷ eq_listed_arms

  abbrev pub le_arms : Arms EqLine
  le_arms =
      (rules.hyp_word, λ bytes. after_read ((number (sizes by_line)).read bytes) (λ n rest. got (LeHyp s t n.0) rest))
      ∷ (rules.sum_word, λ bytes. after_read (sum_read bytes) (λ v rest. got (LeSum s t v.0 v.1) rest))
      ∷ (rules.le_round_word, λ bytes. after_read ((number (sizes by_line)).read bytes) (λ n rest. got (LeRound s t n.0) rest))
      ∷ []

  abbrev pub lt_arms : Arms EqLine
  lt_arms =
      (rules.hyp_word, λ bytes. after_read ((number (sizes by_line)).read bytes) (λ n rest. got (LtHyp s t n.0) rest))
      ∷ (rules.sum_word, λ bytes. after_read (sum_read bytes) (λ v rest. got (LtSum s t v.0 v.1) rest))
      ∷ []

abbrev pub eq_all : List (List ℕ)
eq_all = rules.hyp_word ∷ rules.eq_words

abbrev pub le_all : List (List ℕ)
le_all = rules.hyp_word ∷ rules.le_words

abbrev pub lt_all : List (List ℕ)
lt_all = rules.hyp_word ∷ rules.lt_words

-- ---- endings
abbrev pub ending_late_arms : Arms Ending
ending_late_arms =
    (rules.ending_pred_word, λ bytes. after_read ((number (sizes by_blank)).read bytes) (λ n r. after_read (number_and_more_read r) (λ v rest. got (Pred n.0 v.0 v.1) rest)))
    ∷ (rules.ending_zero_word, λ bytes. after_read ((number (sizes by_line)).read bytes) (λ n rest. got (Zero n.0) rest))
    ∷ (rules.ending_gcd_word, λ bytes. after_read ((number (sizes by_line)).read bytes) (λ n rest. got (Gcd n.0) rest))
    ∷ []

abbrev pub ending_arms : Arms Ending
ending_arms =
    (rules.ending_neq_word, λ bytes. after_read ((number (sizes by_blank)).read bytes) (λ n r. after_read ((number (sizes by_line)).read r) (λ m rest. got (Neq n.0 m.0) rest)))
    ∷ (rules.ending_const_word, λ bytes. after_read ((number (sizes by_line)).read bytes) (λ n rest. got (Const n.0) rest))
    ∷ (rules.ending_clash_word, λ bytes. after_read ((number (sizes by_line)).read bytes) (λ n rest. got (Clash n.0) rest))
    ∷ ending_late_arms

abbrev pub ending_all : List (List ℕ)
ending_all = rules.ending_neq_word ∷ rules.ending_words

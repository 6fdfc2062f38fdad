-- The sections of a state as the grammar reads them, and the whole.
use Rattle.std.proofs.Common.{ℕ, ◌+◌, true, false, List, [], ◌∷◌, ◌≡◌, refl, ap, ◌∙◌}
use Rattle.ae_codes.specs.Closers.{by_line}
use Rattle.ae_codes.specs.Codes.{Read, got, stops}
use Rattle.ae_codes.specs.Rows.{alone}
use Rattle.ae_core.specs.declared.problems.Signature.{Signature}
use Rattle.ae_formulareader.proofs.FormulaReading.{word_is}
use Rattle.ae_prooftext.specs.Clauses as clauses
use Rattle.ae_prooftext.specs.Grammar.{is_real, term_code}
use Rattle.ae_readers.specs.Readers.{after_read, fixed_read}
use Rattle.ae_readers.proofs.Combinators.{after_after, after_same, mapped_is}
use Rattle.ae_stategrammar.specs.Sections.{NoneOf}
use Rattle.ae_stategrammar.specs.States.{end_line, point_starts, end_behind, points, Points, value_closed, value_in_line, value_rest, name_rest, Rules, rule, rule_starts, points_behind, rules, rules_behind, Values, values, values_behind}
use Rattle.ae_stategrammar.specs.States.{term_closed, term_in_line, Names, names, names_behind, lit_closed, lit_in_line, raw_lit, lit_code, lit_starts, Literals, literals, state_to, state_from, raw_state, state}
use Rattle.ae_stategrammar.specs.Points.{point}
use Rattle.ae_statereader.specs.Items.{exact_read, point_item, value_item, literal_read, literal_item, name_item, rule_item}
use Rattle.ae_statereader.specs.Lines.{AnyLine, HasNumber, starts}
use Rattle.ae_statereader.specs.States.{state_read}
use Rattle.ae_statereader.proofs.NumberedReading.{word_then, line_read, from_line, numbered_on, numbered_off, numbered_none, lines_are}
use Rattle.ae_statereader.proofs.PointReading.{point_is}
use Rattle.ae_statereader.proofs.SectionReading.{section_none, section_on, section_off, ended_is}
use Rattle.ae_termreader.proofs.SortReading.{both_then}
use Rattle.ae_valuetext.specs.Values as texts

abbrev behind_point : (NoneOf (114 ∷ 118 ∷ 110 ∷ 108 ∷ []) 112)
behind_point = (refl, (refl, (refl, (refl, tt))))

abbrev behind_rule : (NoneOf (118 ∷ 110 ∷ 108 ∷ []) 114)
behind_rule = (refl, (refl, (refl, tt)))

abbrev behind_value : (NoneOf (110 ∷ 108 ∷ []) 118)
behind_value = (refl, (refl, tt))

abbrev behind_name : (NoneOf (108 ∷ []) 110)
behind_name = (refl, tt)

-- ---- points
abbrev pub points_read : ℕ → List ℕ → Read Points
points_read n bytes = points.read bytes

abbrev pub end_read : List ℕ → Read (Unit {0})
end_read bytes = fixed_read (101 ∷ 110 ∷ 100 ∷ 10 ∷ []) bytes

end_is : (bytes : List ℕ) → end_line.read bytes ≡ end_read bytes
end_is bytes = word_is (101 ∷ 110 ∷ 100 ∷ 10 ∷ []) bytes

pub points_on : (n : ℕ) (bytes : List ℕ) → AnyLine n → starts 112 bytes ≡ true → points_read n bytes ≡ after_read (point_item n bytes) (λ a m. after_read (points_read (n + 1) m) (λ v e. got (a ∷ v.0, v.1) e))
points_on n bytes l e =
    section_on 112 point end_line (NoneOf (114 ∷ 118 ∷ 110 ∷ 108 ∷ [])) behind_point point_starts end_behind n bytes l e
    ∙ ap (λ r. after_read r (λ a m. after_read (points.read m) (λ v e. got (a ∷ v.0, v.1) e))) (point_is bytes)

pub points_off : (n : ℕ) (bytes : List ℕ) → starts 112 bytes ≡ false → points_read n bytes ≡ after_read (end_read bytes) (λ b e. got ([], b) e)
points_off n bytes e =
    section_off 112 point end_line (NoneOf (114 ∷ 118 ∷ 110 ∷ 108 ∷ [])) behind_point point_starts end_behind (end_is []) n bytes e
    ∙ ap (λ r. after_read r (λ b e. got ([], b) e)) (end_is bytes)

points_none : points.read [] ≡ stops []
points_none = section_none 112 point end_line (NoneOf (114 ∷ 118 ∷ 110 ∷ 108 ∷ [])) behind_point point_starts end_behind

-- ---- lines that hold a term, a value or a literal
pub value_in_line_is : (bytes : List ℕ) → value_in_line.read bytes ≡ after_read ((texts.value by_line).read bytes) (λ v rest. got v.0 rest)
unfolding value_in_line
value_in_line_is bytes = ended_is (texts.value by_line) 10 value_closed bytes

value_line_is : (n : ℕ) (bytes : List ℕ) → line_read (118 ∷ value_rest) value_in_line n bytes ≡ value_item n bytes
value_line_is n bytes = after_same (fixed_read (118 ∷ value_rest) bytes) _ _ (λ u r. after_same (exact_read n r) _ _ (λ k q. value_in_line_is q))

module _ (sig : Signature) where
  pub name_line_is : (n : ℕ) (bytes : List ℕ) → line_read (110 ∷ name_rest) (term_in_line sig) n bytes ≡ name_item sig n bytes
  unfolding term_in_line
  name_line_is n bytes =
      after_same (fixed_read (110 ∷ name_rest) bytes) _ _ (λ u r. after_same (exact_read n r) _ _ (λ k q. ended_is (term_code sig [] by_line) 10 (term_closed sig) q))

  pub lit_in_line_is : (bytes : List ℕ) → (lit_in_line sig).read bytes ≡ after_read ((clauses.literal sig (is_real sig) by_line).read bytes) (λ v rest. got v.0 rest)
  unfolding lit_in_line
  lit_in_line_is bytes = ended_is (clauses.literal sig (is_real sig) by_line) 10 (lit_closed sig) bytes

  pub literal_line_is : (bytes : List ℕ) → (lit_code sig).read bytes ≡ literal_read sig bytes
  unfolding lit_code
  literal_line_is bytes =
      mapped_is (λ v. v.1) (λ x. (tt, x)) (raw_lit sig) (λ v f. refl) bytes
      ∙ both_then (alone {A = Unit {0}} tt (108 ∷ 105 ∷ 116 ∷ 32 ∷ [])) (λ u. lit_in_line sig) bytes (λ v rest. got v.1 rest)
      ∙ word_then (108 ∷ 105 ∷ 116 ∷ 32 ∷ []) bytes (λ u r. after_read ((lit_in_line sig).read r) (λ x rest. got x rest))
      ∙ after_same (fixed_read (108 ∷ 105 ∷ 116 ∷ 32 ∷ []) bytes) _ _ (λ u r.
      ap (λ z. after_read z (λ x rest. got x rest)) (lit_in_line_is r) ∙ after_after ((clauses.literal sig (is_real sig) by_line).read r) (λ v rest. got v.0 rest) (λ x rest. got x rest))

  -- ---- rules
  abbrev pub rules_read : ℕ → List ℕ → Read (Rules sig)
  rules_read n bytes = (rules sig).read bytes

  pub rules_on : (n : ℕ) (bytes : List ℕ) → AnyLine n → starts 114 bytes ≡ true → rules_read n bytes ≡ after_read (rule_item sig n bytes) (λ a m. after_read (rules_read (n + 1) m) (λ v e. got (a ∷ v.0, v.1) e))
  rules_on n bytes l e = section_on 114 (rule sig) points (NoneOf (118 ∷ 110 ∷ 108 ∷ [])) behind_rule (rule_starts sig) (points_behind sig) n bytes l e

  pub rules_off : (n : ℕ) (bytes : List ℕ) → starts 114 bytes ≡ false → rules_read n bytes ≡ after_read (points_read n bytes) (λ b e. got ([], b) e)
  rules_off n bytes e = section_off 114 (rule sig) points (NoneOf (118 ∷ 110 ∷ 108 ∷ [])) behind_rule (rule_starts sig) (points_behind sig) points_none n bytes e

  rules_none : (rules sig).read [] ≡ stops []
  rules_none = section_none 114 (rule sig) points (NoneOf (118 ∷ 110 ∷ 108 ∷ [])) behind_rule (rule_starts sig) (points_behind sig)

  -- ---- values
  abbrev pub values_read : ℕ → List ℕ → Read (Values sig)
  values_read n bytes = from_line 118 value_rest value_in_line (rules sig) (NoneOf (110 ∷ 108 ∷ [])) behind_value (rules_behind sig) n bytes

  pub values_are : (bytes : List ℕ) → (values sig).read bytes ≡ values_read 0 bytes
  values_are bytes = lines_are 118 value_rest value_in_line (rules sig) (NoneOf (110 ∷ 108 ∷ [])) behind_value (rules_behind sig) bytes

  pub values_on : (n : ℕ) (bytes : List ℕ) → HasNumber n → starts 118 bytes ≡ true → values_read n bytes ≡ after_read (value_item n bytes) (λ a m. after_read (values_read (n + 1) m) (λ v e. got (a ∷ v.0, v.1) e))
  values_on n bytes l e =
      numbered_on 118 value_rest value_in_line (rules sig) (NoneOf (110 ∷ 108 ∷ [])) behind_value (rules_behind sig) n bytes l e
      ∙ ap (λ r. after_read r (λ a m. after_read (values_read (n + 1) m) (λ v e. got (a ∷ v.0, v.1) e))) (value_line_is n bytes)

  pub values_off : (n : ℕ) (bytes : List ℕ) → starts 118 bytes ≡ false → values_read n bytes ≡ after_read (rules_read n bytes) (λ b e. got ([], b) e)
  values_off n bytes e = numbered_off 118 value_rest value_in_line (rules sig) (NoneOf (110 ∷ 108 ∷ [])) behind_value (rules_behind sig) rules_none n bytes e

  values_none : (values sig).read [] ≡ stops []
  values_none = numbered_none 118 value_rest value_in_line (rules sig) (NoneOf (110 ∷ 108 ∷ [])) behind_value (rules_behind sig) rules_none

  -- ---- names
  abbrev pub names_read : ℕ → List ℕ → Read (Names sig)
  names_read n bytes = from_line 110 name_rest (term_in_line sig) (values sig) (NoneOf (108 ∷ [])) behind_name (values_behind sig) n bytes

  pub names_are : (bytes : List ℕ) → (names sig).read bytes ≡ names_read 0 bytes
  names_are bytes = lines_are 110 name_rest (term_in_line sig) (values sig) (NoneOf (108 ∷ [])) behind_name (values_behind sig) bytes

  pub names_on : (n : ℕ) (bytes : List ℕ) → HasNumber n → starts 110 bytes ≡ true → names_read n bytes ≡ after_read (name_item sig n bytes) (λ a m. after_read (names_read (n + 1) m) (λ v e. got (a ∷ v.0, v.1) e))
  names_on n bytes l e =
      numbered_on 110 name_rest (term_in_line sig) (values sig) (NoneOf (108 ∷ [])) behind_name (values_behind sig) n bytes l e
      ∙ ap (λ r. after_read r (λ a m. after_read (names_read (n + 1) m) (λ v e. got (a ∷ v.0, v.1) e))) (name_line_is n bytes)

  pub names_off : (n : ℕ) (bytes : List ℕ) → starts 110 bytes ≡ false → names_read n bytes ≡ after_read ((values sig).read bytes) (λ b e. got ([], b) e)
  names_off n bytes e = numbered_off 110 name_rest (term_in_line sig) (values sig) (NoneOf (108 ∷ [])) behind_name (values_behind sig) values_none n bytes e

  names_none : (names sig).read [] ≡ stops []
  names_none = numbered_none 110 name_rest (term_in_line sig) (values sig) (NoneOf (108 ∷ [])) behind_name (values_behind sig) values_none

  -- ---- literals
  abbrev pub literals_read : ℕ → List ℕ → Read (Literals sig)
  literals_read n bytes = (literals sig).read bytes

  pub literals_on : (n : ℕ) (bytes : List ℕ) → AnyLine n → starts 108 bytes ≡ true → literals_read n bytes ≡ after_read (literal_item sig n bytes) (λ a m. after_read (literals_read (n + 1) m) (λ v e. got (a ∷ v.0, v.1) e))
  literals_on n bytes l e =
      section_on 108 (lit_code sig) (names sig) (NoneOf []) tt (lit_starts sig) (names_behind sig) n bytes l e
      ∙ ap (λ r. after_read r (λ a m. after_read ((literals sig).read m) (λ v e. got (a ∷ v.0, v.1) e))) (literal_line_is bytes)

  pub literals_off : (n : ℕ) (bytes : List ℕ) → starts 108 bytes ≡ false → literals_read n bytes ≡ after_read ((names sig).read bytes) (λ b e. got ([], b) e)
  literals_off n bytes e = section_off 108 (lit_code sig) (names sig) (NoneOf []) tt (lit_starts sig) (names_behind sig) names_none n bytes e

  -- ---- the whole
  pub state_is : (bytes : List ℕ) → (state sig).read bytes ≡ state_read sig bytes
  unfolding state
  state_is bytes =
      mapped_is (state_to sig) (state_from sig) (raw_state sig) (λ v f. refl) bytes
      ∙ both_then (alone {A = Unit {0}} tt (115 ∷ 116 ∷ 97 ∷ 116 ∷ 101 ∷ 32 ∷ 49 ∷ 10 ∷ [])) (λ u. literals sig) bytes (λ v rest. got (state_to sig v) rest)
      ∙ word_then (115 ∷ 116 ∷ 97 ∷ 116 ∷ 101 ∷ 32 ∷ 49 ∷ 10 ∷ []) bytes (λ u r. after_read ((literals sig).read r) (λ v rest. got (state_to sig (u, v)) rest))

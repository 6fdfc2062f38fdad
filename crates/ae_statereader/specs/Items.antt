-- How a line of each kind is read, word by word.
use Rattle.std.specs.Prelude.{ℕ, ℤ, pos, Bool, true, false, nat_eq, List, [], ◌∷◌}
use Rattle.ae_codes.specs.Closers.{by_blank, by_line, sizes}
use Rattle.ae_codes.specs.Codes.{Read, got, stops, too_wide}
use Rattle.ae_codes.specs.Numbers.{Closed, number, read_digits, no_digit}
use Rattle.ae_core.specs.declared.formulas.Lit.{Lit}
use Rattle.ae_core.specs.declared.problems.Signature.{Signature}
use Rattle.ae_core.specs.declared.terms.Term.{Term}
use Rattle.ae_formulareader.specs.Literals.{literal_code}
use Rattle.ae_journal.specs.declared.systems.PointAt.{PointAt}
use Rattle.ae_journal.specs.declared.systems.RuleEntry.{RuleEntry}
use Rattle.ae_num.specs.declared.forms.Value.{Value}
use Rattle.ae_prooftext.specs.Grammar.{term_code}
use Rattle.ae_readers.specs.Denominators.{below_digits}
use Rattle.ae_readers.specs.Readers.{after_read, fixed_read, greatest, greatest_size, low_of, or_stroke, sign_of, wide_or}
use Rattle.ae_stategrammar.specs.States.{rule}
use Rattle.ae_valuereader.specs.declared.spans.Span.{Span}
use Rattle.ae_valuereader.specs.Spans.{span_read}
use Rattle.ae_valuetext.specs.Values.{value}

-- ---- the number of a line: it alone, and a blank
abbrev pub exact_span : ℕ → Span
exact_span n = record { low = n; high = n; last = 32; may_end = true; greatest = greatest_size }

unfoldable pub exact_read : ℕ → List ℕ → Read Closed
exact_read n bytes = span_read (exact_span n) bytes

-- ---- points: a fraction in lowest terms to the end of the line
abbrev pub Fraction : Type 0
Fraction = (top : ℤ) × ℤ

-- the number below the stroke; the end of the line is wrong before it
abbrev pub below_read : Bool → Bool → Closed → List ℕ → Read Fraction
below_read true signed v rest = after_read (below_digits v.0 by_line rest no_digit) (λ d end. got (sign_of signed v.0, pos d.0) end)
below_read false signed v rest = stops (v.1 ∷ rest)

abbrev pub top_read : Bool → List ℕ → Read Fraction
top_read signed bytes = after_read (read_digits (low_of signed) greatest (or_stroke true by_line) bytes no_digit) (λ v rest. below_read (nat_eq v.1 47) signed v rest)

abbrev pub signed_by : Bool → ℕ → List ℕ → Read Fraction
signed_by true x xs = top_read true xs
signed_by false x xs = top_read false (x ∷ xs)

abbrev pub signed_read : List ℕ → Read Fraction
signed_read [] = stops []
signed_read (x ∷ xs) = signed_by (nat_eq x 45) x xs

-- a number outside the limits is told first
abbrev pub fraction_read : List ℕ → Read Fraction
fraction_read bytes = wide_or (too_wide bytes) bytes (signed_read bytes)

abbrev pub point_read : List ℕ → Read PointAt
point_read bytes =
    after_read (fixed_read (112 ∷ 111 ∷ 105 ∷ 110 ∷ 116 ∷ 32 ∷ []) bytes) (λ u r.
    after_read ((number (sizes by_blank)).read r) (λ n q.
    after_read (fraction_read q) (λ f rest. got (record { name = n.0; top = f.0; bottom = f.1 }) rest)))

abbrev pub point_item : ℕ → List ℕ → Read PointAt
point_item n bytes = point_read bytes

-- ---- values, by the numbers of their names
abbrev pub value_item : ℕ → List ℕ → Read Value
value_item n bytes =
    after_read (fixed_read (118 ∷ 97 ∷ 108 ∷ 117 ∷ 101 ∷ 32 ∷ []) bytes) (λ u r.
    after_read (exact_read n r) (λ k q.
    after_read ((value by_line).read q) (λ v rest. got v.0 rest)))

module _ (sig : Signature) where
  abbrev pub literal_read : List ℕ → Read Lit
  literal_read bytes =
      after_read (fixed_read (108 ∷ 105 ∷ 116 ∷ 32 ∷ []) bytes) (λ u r.
      after_read ((literal_code sig by_line).read r) (λ v rest. got v.0 rest))

  abbrev pub literal_item : ℕ → List ℕ → Read Lit
  literal_item n bytes = literal_read bytes

  -- terms, by the numbers of their names
  abbrev pub name_item : ℕ → List ℕ → Read Term
  name_item n bytes =
      after_read (fixed_read (110 ∷ 97 ∷ 109 ∷ 101 ∷ 32 ∷ []) bytes) (λ u r.
      after_read (exact_read n r) (λ k q.
      after_read ((term_code sig [] by_line).read q) (λ v rest. got v.0 rest)))

  abbrev pub rule_item : ℕ → List ℕ → Read RuleEntry
  rule_item n bytes = (rule sig).read bytes

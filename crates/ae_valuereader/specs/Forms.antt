-- How a linear form is read, number by number.
use Rattle.std.specs.Prelude.{ℕ, ℤ, ◌-◌, Bool, true, false, cond, nat_eq, nat_lt, unsigned_abs, pos, List, [], ◌∷◌}
use Rattle.ae_codes.specs.Closers.{by_blank}
use Rattle.ae_codes.specs.Codes.{Read, got, wide_digits}
use Rattle.ae_codes.specs.Integers.{IntegerEnd}
use Rattle.ae_codes.specs.Machines.{run}
use Rattle.ae_codes.specs.Numbers.{Closed, Digits, no_digit, digit_step, lies, read_digits}
use Rattle.ae_codes.specs.Rising.{top}
use Rattle.ae_num.specs.declared.forms.Lin.{Lin}
use Rattle.ae_num.specs.declared.forms.Part.{Part}
use Rattle.ae_readers.specs.Denominators.{below_digits}
use Rattle.ae_readers.specs.Readers.{after_read, greatest, low_of, or_stroke, wide_or, fixed_read}
use Rattle.ae_valuereader.specs.declared.spans.Span.{Span}
use Rattle.ae_valuereader.specs.Signs.{signed_read}
use Rattle.ae_valuereader.specs.Spans.{span_read}
use Rattle.ae_valuetext.specs.Lins.{const_ends, first_at}
use Rattle.ae_valuetext.specs.Parts.{is_lowest, some_parts}

-- from 1 on, up to a blank
abbrev pub positive_digits : List ℕ → Read Closed
positive_digits bytes = read_digits (low_of true) greatest (or_stroke false by_blank) bytes no_digit

abbrev pub den_read : List ℕ → Read ℕ
den_read bytes = wide_or (wide_digits bytes) bytes (after_read (positive_digits bytes) (λ v rest. got v.0 rest))

-- the constant over a denominator
abbrev pub const_digits : ℕ → Bool → List ℕ → Digits → Read Closed
const_digits den negated bytes s = run (digit_step (lies (low_of negated) greatest) (lies (low_of negated) greatest) (const_ends den)) bytes s

abbrev pub const_read : ℕ → List ℕ → Read IntegerEnd
const_read den bytes = signed_read (λ b r. const_digits den b r no_digit) bytes

-- a factor: before the greatest name it has no divisor above 1 in common with what stands before
abbrev pub factor_digits : ℕ → ℕ → List ℕ → Read Closed
factor_digits low divisor bytes = cond (nat_lt low top) (positive_digits bytes) (below_digits divisor by_blank bytes no_digit)

unfoldable pub factor_read : ℕ → ℕ → List ℕ → Read IntegerEnd
factor_read low divisor bytes = signed_read (λ b r. factor_digits low divisor r) bytes

-- the names that may stand behind it: the bracket closes one where no divisor is left, and the greatest one is the last
abbrev pub key_span : ℕ → Bool → Span
key_span low whole = record { low = low; high = cond whole top (top - 1); last = 41; may_end = whole; greatest = top - 1 }

unfoldable pub key_read : ℕ → ℕ → ℤ → List ℕ → Read Closed
key_read low divisor factor bytes = span_read (key_span low (is_lowest divisor (unsigned_abs factor ∷ []))) bytes

abbrev pub PartEnd : Type 0
PartEnd = (p : Part) × ℕ

abbrev pub part_read : ℕ → ℕ → List ℕ → Read PartEnd
part_read low divisor bytes =
    after_read (factor_read low divisor bytes) (λ f r.
    after_read (key_read low divisor f.0 r) (λ v rest. got (record { key = v.0; factor = f.0 }, v.1) rest))

-- what stands behind the constant: nothing, or factors with their names
abbrev pub rest_read : Bool → ℕ → ℕ → List ℕ → Read (List Part)
rest_read true den n bytes = (some_parts den (first_at n)).read bytes
rest_read false den n bytes = got [] bytes

abbrev pub body_read : List ℕ → Read Lin
body_read bytes =
    after_read (den_read bytes) (λ d r.
    after_read (const_read d r) (λ z q.
    after_read (rest_read (nat_eq z.1 32) d (unsigned_abs z.0) q) (λ ps rest. got (record { den = pos d; parts = ps; constant = z.0 }) rest)))

abbrev pub form_read : List ℕ → Read Lin
form_read bytes = after_read (fixed_read (40 ∷ 108 ∷ 105 ∷ 110 ∷ 32 ∷ []) bytes) (λ u r. after_read (body_read r) (λ l rest. got l rest))

-- Numbers between two bounds, digit by digit: a digit is wrong where no further digits lead to one of them.
use Rattle.std.specs.Prelude.{ℕ, zero, suc, ◌+◌, ◌*◌, ◌-◌, ◌/◌, ◌&&◌, ◌||◌, Bool, false, nat_eq, nat_le, nat_lt, List}
use Rattle.ae_codes.specs.Codes.{Read, is_digit, wide_digits}
use Rattle.ae_codes.specs.Machines.{run}
use Rattle.ae_codes.specs.Numbers.{Closed, Digits, no_digit, digit_step, lies}
use Rattle.ae_readers.specs.Readers.{wide_or}
use Rattle.ae_valuereader.specs.declared.spans.Span.{Span}

-- a number between the bounds is n, or n with fewer than so many further digits
unfoldable pub spans : ℕ → ℕ → ℕ → ℕ → Bool
spans zero low high n = false
spans (suc k) low high n = lies low high n || spans k (low / 10) (high / 10) n

-- the digits are a number of the span or go on to one
abbrev pub goes : Span → ℕ → Bool
goes s n = lies s.low s.high n || (nat_lt 0 n && spans 40 s.low s.high n)

-- so do the digits of n with one more
abbrev pub goes_by : Span → ℕ → ℕ → Bool
goes_by s n x = (nat_lt 0 n && is_digit x) && goes s (n * 10 + (x - 48))

abbrev pub may_close : Span → ℕ → ℕ → Bool
may_close s n x = (nat_eq x s.last && s.may_end) || (nat_eq x 32 && nat_le n s.greatest)

abbrev pub span_digits : Span → List ℕ → Digits → Read Closed
span_digits s bytes d = run (digit_step (lies s.low s.high) (goes s) (may_close s)) bytes d

-- a number beyond 127 bits is told first
abbrev pub span_read : Span → List ℕ → Read Closed
span_read s bytes = wide_or (wide_digits bytes) bytes (span_digits s bytes no_digit)

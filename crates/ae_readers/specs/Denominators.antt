-- What may stand below a stroke, digit by digit: the words of ae_codes' Fractions, kept shut.
use Rattle.std.specs.Prelude.{ℕ, ◌+◌, ◌*◌, ◌-◌, ◌&&◌, Bool, IsTrue, not, nat_lt, nat_le, List}
use mathlib.Core.Path.{refl}
use Rattle.ae_codes.specs.Codes.{Code, Read, is_digit, limit}
use Rattle.ae_codes.specs.Closers.{Close, close_end, closers}
use Rattle.ae_codes.specs.Fractions.{lowest, lowest_bound, reach, lives, passing_by, some_below, common}
use Rattle.ae_codes.specs.Machines.{machine, run}
use Rattle.ae_codes.specs.Numbers.{Closed, Digits, digit_step, number_machine, and_both}

-- the number, or it with fewer than so many further digits, may stand below `top`
unfoldable pub can_reach : ℕ → ℕ → ℕ → Bool
can_reach top = reach (lowest top) (lowest_bound top)

-- the digits go on to one that may
unfoldable pub can_live : ℕ → ℕ → Bool
can_live top = lives (lowest top) (lowest_bound top)

-- a byte goes on with digits of this value
abbrev pub may_go : ℕ → ℕ → ℕ → Bool
may_go top n x = (nat_lt 0 n && is_digit x) && can_live top (n * 10 + (x - 48))

abbrev pub below_digits : ℕ → Close → List ℕ → Digits → Read Closed
below_digits top k bytes s = run (digit_step (lowest top) (can_live top) (λ n x. closers k.one k.two x)) bytes s

pub one_is_lowest : (top : ℕ) → IsTrue (lowest top 1)
one_is_lowest top = and_both (nat_le 1 1 && nat_le 1 limit) (not (some_below 2 (common top 1))) refl refl

-- the numbers from 1 to the limit with no factor above 1 in common with `top`, and the byte that closes them
abbrev pub below_at : ℕ → Close → Code Closed
below_at top k =
    machine (number_machine (passing_by (lowest top) (lowest_bound top) (λ n x. closers k.one k.two x) (λ n x d. k.digits x d) (1, one_is_lowest top) (λ n g. close_end k)))

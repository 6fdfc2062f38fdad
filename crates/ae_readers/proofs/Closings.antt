-- The bytes of each closing.
use Rattle.std.specs.Prelude.{ℕ, ◌≡◌}
use mathlib.Core.Path.{refl}
use Rattle.ae_codes.specs.Closers.{by_blank, by_bracket, by_line, square, round, in_line}
use Rattle.ae_readers.specs.Readers.{close_of}
use Rattle.ae_readers.specs.declared.closing.Closing.{Closing}
use Rattle.ae_readers.specs.declared.closing.Closing.TheVariants as closing

abbrev pub first_byte : Closing → ℕ
first_byte closing.Blank = 32
first_byte closing.Bracket = 41
first_byte closing.Line = 10
first_byte closing.Square = 32
first_byte closing.Round = 32
first_byte closing.InLine = 32

abbrev pub second_byte : Closing → ℕ
second_byte closing.Blank = 32
second_byte closing.Bracket = 41
second_byte closing.Line = 10
second_byte closing.Square = 93
second_byte closing.Round = 41
second_byte closing.InLine = 10

pub one_of : (c : Closing) → (close_of c).one ≡ first_byte c
unfolding by_blank by_bracket by_line square round in_line
one_of closing.Blank = refl
one_of closing.Bracket = refl
one_of closing.Line = refl
one_of closing.Square = refl
one_of closing.Round = refl
one_of closing.InLine = refl

pub two_of : (c : Closing) → (close_of c).two ≡ second_byte c
unfolding by_blank by_bracket by_line square round in_line
two_of closing.Blank = refl
two_of closing.Bracket = refl
two_of closing.Line = refl
two_of closing.Square = refl
two_of closing.Round = refl
two_of closing.InLine = refl

-- What a reader answers: a value and the place behind its text, or a fault. `ReadsExactly` says it over the code of a kind of text; `Reads` says the same of what a
-- code reads, in the form that a reader built of others proves.
use Rattle.std.specs.Prelude.{ℕ, ℤ, pos, suc, ◌⊎◌, not, ◌++◌, ◌≤◌, ◌<◌, Bool, ◌||◌, ◌&&◌, true, false, cond, nat_eq, nat_lt, max, IsTrue, List, [], ◌∷◌, ◌≡◌, drop, length, Result, Ok, Err}
use Rattle.ae_codes.specs.Codes.{Code, Read, got, stops, wide, wide_digits, StopsAfter, TooWide, is_digit, limit}
use mathlib.Core.Logic.{inl, inr}
use mathlib.Core.Path.{refl, ap, ◌∙◌}
use native.Mathlib.Omega.{arith}
use Rattle.std.proofs.lemmas.Bool.{ne_eqb}
use Rattle.std.specs.Str.{bytes_eq}
use Rattle.ae_codes.specs.Names.{WordEnd, closing}
use Rattle.ae_codes.specs.Rows.{Row, row_list}
use Rattle.ae_codes.specs.Integers.{IntegerEnd, integer, negate}
use Rattle.ae_codes.specs.Machines.{machine}
use Rattle.ae_codes.specs.Numbers.{Closed, read_digits, read_number, no_digit, number_machine, from_to, digit_low}
use Rattle.ae_codes.specs.Closers.{Close, closers, close_end, by_blank, by_bracket, by_line, square, round, in_line}
use Rattle.ae_codes.specs.Tables.{begins}
use Rattle.ae_readers.specs.declared.closing.Closing.{Closing}
use Rattle.ae_readers.specs.declared.closing.Closing.TheVariants as closings
use Rattle.ae_readers.specs.declared.fault.Fault.{Fault}
use Rattle.ae_readers.specs.declared.fault.Fault.TheVariants.{At, WideNumber, Memory}

-- the bytes are no text of the code: the first that no text continues stands at the fault's place, or a numeral outside the limits before any wrong byte. Want of
-- memory says nothing
abbrev pub FaultOf : {A : Type 0} → Code A → List ℕ → List ℕ → Fault → Type 0
FaultOf c text bytes (At p) = (front : List ℕ) × StopsAfter c bytes front (drop p text)
FaultOf c text bytes (WideNumber p) = TooWide c.Fits c.text bytes (drop p text)
FaultOf c text bytes Memory = Unit {0}

-- at the place stands the text of the value, and ends before the place behind it; or there is a fault
unfoldable pub ReadsExactly : {A : Type 0} → Code A → List ℕ → ℕ → Result (A × ℕ) Fault → Type 0
ReadsExactly c text at (Ok v) = (drop at text ≡ c.text v.0 ++ drop v.1 text) × c.Fits v.0
ReadsExactly c text at (Err f) = FaultOf c text (drop at text) f

-- the fault is what is read at its place
abbrev pub FaultIs : {A : Type 0} → List ℕ → Fault → Read A → Type 0
FaultIs text (At p) r = r ≡ stops (drop p text)
FaultIs text (WideNumber p) r = r ≡ wide (drop p text)
FaultIs text Memory r = Unit {0}

-- the answer is what is read: places are those of the text
abbrev pub Reads : {A : Type 0} → List ℕ → Result (A × ℕ) Fault → Read A → Type 0
Reads text (Ok v) r = r ≡ got v.0 (drop v.1 text)
Reads text (Err f) r = FaultIs text f r

-- what begins in the text has its fault there, or at its end
abbrev pub FaultWithin : List ℕ → ℕ → Fault → Type 0
FaultWithin text at (At p) = at ≤ length text → p ≤ length text
FaultWithin text at (WideNumber p) = Unit {0}
FaultWithin text at Memory = Unit {0}

-- what is read takes a byte or more, and ends in the text
abbrev pub Ahead : {A : Type 0} → List ℕ → ℕ → Result (A × ℕ) Fault → Type 0
Ahead text at (Ok v) = (at < v.1) × (v.1 ≤ length text)
Ahead text at (Err f) = FaultWithin text at f

-- a reader that takes no memory never wants any
abbrev pub AsksNoMemory : {A : Type 0} → Result (A × ℕ) Fault → Type 0
AsksNoMemory (Ok v) = Unit {0}
AsksNoMemory (Err (At p)) = Unit {0}
AsksNoMemory (Err (WideNumber p)) = Unit {0}
AsksNoMemory (Err Memory) = ⊥

-- which bytes close
abbrev pub close_of : Closing → Close
close_of closings.Blank = by_blank
close_of closings.Bracket = by_bracket
close_of closings.Line = by_line
close_of closings.Square = square
close_of closings.Round = round
close_of closings.InLine = in_line

abbrev pub closes : Closing → ℕ → Bool
closes c = closers (close_of c).one (close_of c).two

abbrev pub closing_at : Closing → Code ℕ
closing_at c = closing (closes c) (close_end (close_of c))

-- ---- one thing after another
abbrev pub after_read : {A B : Type 0} → Read A → (A → List ℕ → Read B) → Read B
after_read (got a rest) next = next a rest
after_read (stops r) next = stops r
after_read (wide r) next = wide r

-- ---- bytes
abbrev pub closing_or : Bool → ℕ → List ℕ → Read ℕ
closing_or true x rest = got x rest
closing_or false x rest = stops (x ∷ rest)

abbrev pub closing_read : Close → List ℕ → Read ℕ
closing_read k [] = stops []
closing_read k (x ∷ xs) = closing_or (closers k.one k.two x) x xs

-- a stroke closes too, where it is said
abbrev pub or_stroke : Bool → Close → ℕ → Bool
or_stroke stroke k x = (stroke && nat_eq x 47) || closers k.one k.two x

-- ---- words
-- how many bytes the word and the text have in common
abbrev pub common : List ℕ → List ℕ → ℕ
common [] bytes = 0
common (y ∷ w) [] = 0
common (y ∷ w) (x ∷ xs) = cond (nat_eq x y) (suc (common w xs)) 0

-- the most that the text has in common with one of the words
abbrev pub most : ℕ → List (List ℕ) → List ℕ → ℕ
most far [] bytes = far
most far (w ∷ ws) bytes = most (max far (common w bytes)) ws bytes

abbrev pub fixed_or : Bool → List ℕ → List ℕ → Read (Unit {0})
fixed_or true w bytes = got tt (drop (length w) bytes)
fixed_or false w bytes = stops (drop (most 0 (w ∷ []) bytes) bytes)

abbrev pub fixed_read : List ℕ → List ℕ → Read (Unit {0})
fixed_read w bytes = fixed_or (begins w bytes) w bytes

-- what stands behind the one of the words that the bytes begin with; `all` are the words that may stand there
abbrev pub chosen : {A : Type 0} → (List ℕ → List ℕ → Read A) → List (List ℕ) → List (List ℕ) → List ℕ → Read A
chosen arms all [] bytes = stops (drop (most 0 all bytes) bytes)
chosen arms all (w ∷ ws) bytes = cond (begins w bytes) (arms w (drop (length w) bytes)) (chosen arms all ws bytes)

-- ---- numbers of 64 bits: one beyond 127 bits is told first
abbrev pub greatest_size : ℕ
greatest_size = 18446744073709551615

abbrev pub size_read : (ℕ → Bool) → List ℕ → Read Closed
size_read ends bytes = read_number 0 greatest_size ends bytes

-- ---- whole numbers with a sign: a wide one is told at the sign
abbrev pub integer_at : Close → Code IntegerEnd
integer_at k = integer (closers k.one k.two) k.digits (close_end k)

abbrev pub wide_or : {A : Type 0} → Bool → List ℕ → Read A → Read A
wide_or true bytes r = wide bytes
wide_or false bytes r = r

abbrev pub greatest : ℕ
greatest = 170141183460469231731687303715884105727

abbrev pub positive_read : (ℕ → Bool) → List ℕ → Read IntegerEnd
positive_read ends bytes = wide_or (wide_digits bytes) bytes (after_read (read_digits 0 greatest ends bytes no_digit) (λ v rest. got (pos v.0, v.1) rest))

abbrev pub negative_read : (ℕ → Bool) → List ℕ → List ℕ → Read IntegerEnd
negative_read ends bytes behind = wide_or (wide_digits behind) bytes (after_read (read_digits 1 greatest ends behind no_digit) (λ v rest. got (negate v.0, v.1) rest))

abbrev pub integer_read : (ℕ → Bool) → List ℕ → Read IntegerEnd
integer_read ends [] = stops []
integer_read ends (x ∷ xs) = cond (nat_eq x 45) (negative_read ends (x ∷ xs) xs) (positive_read ends (x ∷ xs))

-- a size with its sign, and the least size that may stand behind it
abbrev pub sign_of : Bool → ℕ → ℤ
sign_of true n = negate n
sign_of false n = pos n

abbrev pub low_of : Bool → ℕ
low_of true = 1
low_of false = 0

pub low_small : (signed : Bool) → low_of signed ≤ 1
low_small true = omega arith
low_small false = omega arith

pub low_wide : (signed : Bool) → low_of signed ≤ limit
low_wide true = omega arith
low_wide false = omega arith

pub stroke_apart : (stroke : Bool) (k : Close) (x : ℕ) → is_digit x ≡ true → or_stroke stroke k x ≡ false
stroke_apart true k x d = let lo = digit_low x d in let e = ne_eqb x 47 (λ q. omega arith) in ap (λ b. b || closers k.one k.two x) e ∙ k.digits x d
stroke_apart false k x d = k.digits x d

pub stroke_end : (stroke : Bool) (k : Close) → (e : ℕ) × IsTrue (or_stroke stroke k e)
stroke_end true k = (47, refl)
stroke_end false k = close_end k

-- the digits of a number of 127 bits, behind a sign or without one, with the byte that closes them
abbrev pub long_at : Bool → Bool → Close → Code Closed
long_at signed stroke k =
    machine (number_machine (from_to (low_of signed) limit (or_stroke stroke k) (low_small signed) (low_wide signed) (omega arith) (stroke_apart stroke k) (stroke_end stroke k)))

-- ---- lists
-- values parted by blanks, up to the byte that closes the last one
abbrev pub row_read : {X : Type 0} → Code (Row X) → List ℕ → Read (List X)
row_read c bytes = after_read (c.read bytes) (λ r rest. got (row_list r) rest)

-- more stands behind a value that a blank closes
abbrev pub more_read : {X : Type 0} → Bool → X → Read (List X) → List ℕ → Read (List X)
more_read true x r rest = after_read r (λ xs end. got (x ∷ xs) end)
more_read false x r rest = got (x ∷ []) rest

-- values that stand before others
abbrev pub before : {X : Type 0} → List X → Read (List X) → Read (List X)
before xs r = after_read r (λ ys rest. got (xs ++ ys) rest)

abbrev pub end_or : {X : Type 0} → Bool → List ℕ → Read (List X) → Read (List X)
end_or true rest r = got [] rest
end_or false rest r = r

-- the closing byte alone, or values
abbrev pub list_read : {X : Type 0} → ℕ → Code (Row X) → List ℕ → Read (List X)
list_read last c [] = stops []
list_read last c (x ∷ xs) = end_or (nat_eq x last) xs (row_read c (x ∷ xs))

-- the closing byte alone, or values behind a blank
abbrev pub behind_read : {X : Type 0} → ℕ → Code (Row X) → List ℕ → Read (List X)
behind_read last c [] = stops []
behind_read last c (x ∷ xs) = end_or (nat_eq x last) xs (after_read (fixed_read (32 ∷ []) (x ∷ xs)) (λ u rest. row_read c rest))

-- ---- one after another, until something else comes
abbrev pub step_read : {A B : Type 0} → A ⊎ B → Read ((xs : List A) × B) → List ℕ → Read ((xs : List A) × B)
step_read (inl a) r rest = after_read r (λ v end. got (a ∷ v.0, v.1) end)
step_read (inr b) r rest = got ([], b) rest

abbrev pub steps_before : {A B : Type 0} → List A → Read ((xs : List A) × B) → Read ((xs : List A) × B)
steps_before xs r = after_read r (λ v end. got (xs ++ v.0, v.1) end)

-- ---- names of a table
-- the bytes before the first that closes
abbrev pub word_part : (ℕ → Bool) → List ℕ → List ℕ
word_part ends [] = []
word_part ends (x ∷ xs) = cond (ends x) [] (x ∷ word_part ends xs)

-- the first place of a word in a list; its length where it doesn't stand there
abbrev pub place_of : List (List ℕ) → List ℕ → ℕ
place_of [] w = 0
place_of (t ∷ ts) w = cond (bytes_eq t w) 0 (suc (place_of ts w))

abbrev pub no_end : (ℕ → Bool) → List ℕ → Bool
no_end ends [] = true
no_end ends (x ∷ xs) = not (ends x) && no_end ends xs

-- the most that a word of the table that may stand there has in common with the bytes
abbrev pub most_of : ℕ → (List ℕ → Bool) → List (List ℕ) → List ℕ → ℕ
most_of far may [] bytes = far
most_of far may (w ∷ ws) bytes = most_of (cond (may w) (max far (common w bytes)) far) may ws bytes

-- a name by its first place in the table, and the byte that closes it
abbrev pub found_or : Bool → ℕ → ℕ → List ℕ → List ℕ → Read (ℕ × ℕ)
found_or true place x rest wrong = got (place, x) rest
found_or false place x rest wrong = stops wrong

abbrev pub named_by : (List ℕ → Bool) → List (List ℕ) → List ℕ → List ℕ → List ℕ → Read (ℕ × ℕ)
named_by fine table w [] wrong = stops wrong
named_by fine table w (x ∷ rest) wrong = found_or (fine w && nat_lt (place_of table w) (length table)) (place_of table w) x rest wrong

-- the bytes from the first on that no name of the table continues
abbrev pub name_wrong : (List ℕ → Bool) → (ℕ → Bool) → List (List ℕ) → List ℕ → List ℕ
name_wrong fine ends table bytes = drop (most_of 0 (λ w. fine w && no_end ends w) table bytes) bytes

abbrev pub named_read : (List ℕ → Bool) → (ℕ → Bool) → List (List ℕ) → List ℕ → Read (ℕ × ℕ)
named_read fine ends table bytes = named_by fine table (word_part ends bytes) (drop (length (word_part ends bytes)) bytes) (name_wrong fine ends table bytes)

-- what the grammar reads, by its place
abbrev pub name_read : List (List ℕ) → Read WordEnd → Read (ℕ × ℕ)
name_read table r = after_read r (λ v rest. got (place_of table v.0, v.1) rest)

-- How a numeral and a term are read, byte by byte. What stands inside is read by the grammar's own code.
use Rattle.std.specs.Prelude.{ℕ, ℤ, pos, Bool, true, false, ◌||◌, nat_eq, List, [], ◌∷◌, get_or}
use Rattle.ae_codes.specs.Codes.{Read, got, stops, Code, is_digit, too_wide}
use Rattle.ae_codes.specs.Closers.{Close, closers, sizes, by_blank, by_bracket, round}
use Rattle.ae_codes.specs.Numbers.{Closed, number, read_digits, no_digit}
use Rattle.ae_codes.specs.Rows.{Row, rows}
use Rattle.ae_core.specs.declared.problems.Signature.{Signature}
use Rattle.ae_core.specs.declared.terms.Head.{Head}
use Rattle.ae_core.specs.declared.terms.Head.TheVariants as head
use Rattle.ae_core.specs.declared.terms.Sort.{Sort}
use Rattle.ae_core.specs.declared.terms.Term.{Term}
use Rattle.ae_core.specs.declared.terms.Term.TheVariants as term
use Rattle.ae_prooftext.specs.Grammar.{is_real, sort_code}
use Rattle.ae_prooftext.specs.SortTexts.{above_round, fine}
use Rattle.ae_prooftext.specs.TermTexts as terms
use Rattle.ae_prooftext.specs.TermTexts.{TermEnd, Arguments, above_square, bracket_table, lone_table, head_fine, first_real, terms_shaped, term_is_shaped}
use Rattle.ae_prooftext.specs.WordLaws.{at_real}
use Rattle.ae_prooftext.specs.Words.{bracket_heads, lone_heads, takes_sorts}
use Rattle.ae_readers.specs.Denominators.{below_digits}
use Rattle.ae_readers.specs.Readers.{after_read, closing_read, fixed_read, named_read, row_read, behind_read, greatest, low_of, or_stroke, sign_of, wide_or}
use Rattle.ae_termreader.specs.Sorts.{sorts_read}

-- ---- numerals: the digits behind the sign, a stroke, and the digits below it
abbrev pub num_behind : Bool → (ℕ → ℤ) → Closed → Close → List ℕ → Read TermEnd
num_behind true sign v k rest = after_read (below_digits v.0 k rest no_digit) (λ d end. got (term.Num (sign v.0) (pos d.0) true, d.1) end)
num_behind false sign v k rest = got (term.Num (sign v.0) (pos 1) false, v.1) rest

abbrev pub num_read : (ℕ → ℤ) → ℕ → Close → List ℕ → Read TermEnd
num_read sign low k bytes = after_read (read_digits low greatest (or_stroke true k) bytes no_digit) (λ v rest. num_behind (nat_eq v.1 47) sign v k rest)

abbrev pub num_by : Bool → Close → ℕ → List ℕ → Read TermEnd
num_by true k x xs = num_read (sign_of true) (low_of true) k xs
num_by false k x xs = num_read (sign_of false) (low_of false) k (x ∷ xs)

abbrev pub signed_num : Close → List ℕ → Read TermEnd
signed_num k [] = stops []
signed_num k (x ∷ xs) = num_by (nat_eq x 45) k x xs

abbrev pub numeral_read : Close → List ℕ → Read TermEnd
numeral_read k bytes = wide_or (too_wide bytes) bytes (signed_num k bytes)

-- ---- terms that hold none
abbrev pub bound_read : Close → List ℕ → Read TermEnd
bound_read k bytes = after_read ((number (sizes k)).read bytes) (λ v rest. got (term.Bound v.0, v.1) rest)

abbrev pub lone_read : Signature → Close → List ℕ → Read TermEnd
lone_read sig k bytes = after_read (named_read fine (closers k.one k.two) (lone_table sig) bytes) (λ v rest. got (term.Apply (get_or (lone_heads sig) v.0 head.Void) [] [], v.1) rest)

abbrev pub fresh_read : Signature → List ℕ → Read Term
fresh_read sig bytes =
    after_read (fixed_read (33 ∷ 32 ∷ []) bytes) (λ u r.
    after_read ((number (sizes by_blank)).read r) (λ n q.
    after_read ((sort_code sig by_bracket).read q) (λ s rest. got (term.Fresh n.0 s.0) rest)))

-- ---- terms in terms
abbrev pub head_at : Signature → ℕ → Head
head_at sig place = get_or (bracket_heads sig) place head.Void

module _ (sig : Signature) (env : List Sort) where
  unfoldable pub round_terms : Code (Row Term)
  round_terms = rows 41 above_round (terms.term sig (is_real sig env) round) (term.Bound 0) (terms_shaped sig (is_real sig env) (terms.term sig (is_real sig env)) (term_is_shaped sig (is_real sig env)))

  -- the arguments behind a head: sorts in square brackets and arguments, each behind a blank, or arguments alone
  abbrev pub arguments_read : Bool → List ℕ → Read Arguments
  arguments_read true bytes =
      after_read (fixed_read (91 ∷ []) bytes) (λ u r.
      after_read (sorts_read sig r) (λ ss q.
      after_read (behind_read 41 round_terms q) (λ ts rest. got (ss, ts) rest)))
  arguments_read false bytes = after_read (row_read round_terms bytes) (λ ts rest. got ([], ts) rest)

  abbrev pub applied_read : List ℕ → Read Term
  applied_read bytes =
      after_read (named_read head_fine (closers by_blank.one by_blank.two) (bracket_table sig) bytes) (λ w r.
      after_read (arguments_read (takes_sorts sig (head_at sig w.0)) r) (λ a rest. got (term.Apply (at_real (first_real sig (is_real sig env) a.1) (head_at sig w.0)) a.0 a.1) rest))

  abbrev pub bracket_by : Bool → List ℕ → Read Term
  bracket_by true bytes = fresh_read sig bytes
  bracket_by false bytes = applied_read bytes

  abbrev pub inner_read : List ℕ → Read Term
  inner_read [] = stops []
  inner_read (x ∷ xs) = bracket_by (nat_eq x 33) (x ∷ xs)

  abbrev pub bracket_read : Close → List ℕ → Read TermEnd
  bracket_read k bytes = after_read (inner_read bytes) (λ t r. after_read (closing_read k r) (λ e rest. got (t, e) rest))

  abbrev pub term_by : Bool → Bool → Bool → Close → ℕ → List ℕ → Read TermEnd
  term_by true h f k x xs = bracket_read k xs
  term_by false true f k x xs = bound_read k xs
  term_by false false true k x xs = numeral_read k (x ∷ xs)
  term_by false false false k x xs = lone_read sig k (x ∷ xs)

  abbrev pub term_turn : Close → List ℕ → Read TermEnd
  term_turn k [] = stops []
  term_turn k (x ∷ xs) = term_by (nat_eq x 40) (nat_eq x 35) (is_digit x || nat_eq x 45) k x xs

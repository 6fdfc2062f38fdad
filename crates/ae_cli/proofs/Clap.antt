-- What clap's clauses come to for the program's options.
use Rattle.std.proofs.Common.{◌≡◌, ◌≢◌, ◌∙◌, ◌&&◌, ◌^◌, ℕ, Bool, true, false, cond, refl, sym, ap, ap₂, subst, List, [], ◌∷◌, Option, Some, None, inl, inr}
use Rattle.std.specs.Prelude.{Result, Ok, Err, nat_lt}
use Rattle.std.specs.List.{list_all}
use Rattle.std.specs.Char.{digit_value}
use Rattle.std.specs.Str.Parse.{AllDigits, ExplainsUnsignedError, HasUnsignedDigitsIfOk, ParsesUnsigned, digits_value, without_leading_plus}
use Rattle.std.proofs.lemmas.Bool.{and_parts, lt-ltb, ltb-true}
use Rattle.std.specs.declared.num.ParseIntError.{ParseIntError}
use Rattle.clap.proofs.WalkLemmas.{one_text-rows}
use Rattle.clap.specs.Matches.{one_text}
use Rattle.clap.specs.declared.parser.matches.Found.{Found}
use Rattle.ae_base.specs.Options.{◌>>=◌, when}
use Rattle.clap.specs.ValueTests.{is_numeral}
use Rattle.clap.specs.Words.{App, FailsBy, HasMatchesOf, IsAmong, Kinds, HasKind, Text, TriesOne, fault_of, found_of, is_simple, is_simple_and_free, kind_of, matches_of, one_of, rows_of}
use Rattle.clap.specs.declared.error.Error.{Error}
use Rattle.clap.specs.declared.error.kind.ErrorKind.TheVariants.{OutOfMemory}
use Rattle.clap.specs.declared.parser.matches.ArgMatches.{ArgMatches}
use Rattle.ae_cli.specs.declared.options.Mode.{Mode}
use Rattle.ae_cli.specs.declared.options.Mode.TheVariants.{Prove, Check, Demo}
use Rattle.ae_cli.specs.Program.{joined_options, mode_of, number_in, number_or, program}

program_is_free : is_simple_and_free program ≡ true
program_is_free = refl

program_is_simple : is_simple program ≡ true
program_is_simple = refl

pub fails_by : {T : Type 0} (a : App) (words : List Text) (r : Result T Error) → a ≡ program → (is_simple_and_free a ≡ true → FailsBy (fault_of a words) r) → FailsBy (fault_of program words) r
fails_by a words r is h = subst (λ b. FailsBy (fault_of b words) r) is (h (subst (λ b. is_simple_and_free b ≡ true) (sym is) program_is_free))

pub rows_read : (a : App) (words : List Text) (m : ArgMatches) → a ≡ program → HasMatchesOf a words m → rows_of (found_of m) ≡ matches_of program words
rows_read a words m is h = (h (subst (λ b. is_simple b ≡ true) (sym is) program_is_simple)).0 ∙ ap (λ b. matches_of b words) is

pub some_fault : (kinds : Kinds) (e : Error) → HasKind kinds e → kind_of e ≢ OutOfMemory → kinds ≢ []
some_fault kinds e (inl memory) other = λ none. other memory
some_fault kinds e (inr among) other = λ none. subst (IsAmong (kind_of e)) none among

-- ---- numbers
numeral_test : (ds : List ℕ) → AllDigits 10 ds → list_all (λ d. nat_lt (digit_value d) 10) ds ≡ true
numeral_test [] h = refl
numeral_test (d ∷ ds) h = ap₂ (λ a b. a && b) (lt-ltb (digit_value d) 10 h.0) (numeral_test ds h.1)

numeral_from : (ds : List ℕ) → list_all (λ d. nat_lt (digit_value d) 10) ds ≡ true → AllDigits 10 ds
numeral_from [] e = tt
numeral_from (d ∷ ds) e = let p = and_parts (nat_lt (digit_value d) 10) (list_all (λ x. nat_lt (digit_value x) 10) ds) e in (ltb-true (digit_value d) 10 p.0, numeral_from ds p.1)

-- the number that is answered for what was tried
abbrev pub answer_of : {E : Type 0} → ℕ → Result (Option ℕ) E → Option ℕ
answer_of default (Ok (Some n)) = Some n
answer_of default (Ok None) = Some default
answer_of default (Err e) = None

abbrev pub mode_answer : {E : Type 0} → Bool → Result (Option ℕ) E → Option Mode
mode_answer check (Ok (Some n)) = cond check None (Some (Demo n))
mode_answer check (Ok None) = Some (cond check Check Prove)
mode_answer check (Err e) = None

module _ {E : Type 0} (bits : ℕ) (G : List ℕ → Result ℕ E → Type 0) (only : (t : Text) (r : Result ℕ E) → G t r → ParsesUnsigned bits 10 t r) where
  got_number : (t : Text) (n : ℕ) → ParsesUnsigned {E = E} bits 10 t (Ok n) → number_in bits t ≡ Some n
  got_number t n p =
      let digits = without_leading_plus t in
      ap₂ (λ a b. when (a && b) (digits_value 10 digits)) (ap₂ (λ a b. a && b) (lt-ltb 0 _ p.0.0.0) (numeral_test digits p.0.0.1)) (lt-ltb (digits_value 10 digits) (2 ^ bits) p.0.1)
      ∙ ap Some (sym p.1)

  no_number : (t : Text) (e : E) → ParsesUnsigned bits 10 t (Err e) → number_in bits t ≡ None
  no_number t e p = go (is_numeral digits && nat_lt (digits_value 10 digits) (2 ^ bits)) refl
    where
      digits : List ℕ
      digits = without_leading_plus t

      go : (b : Bool) → (is_numeral (without_leading_plus t) && nat_lt (digits_value 10 (without_leading_plus t)) (2 ^ bits)) ≡ b → when b (digits_value 10 (without_leading_plus t)) ≡ None
      go true h =
          let a = and_parts _ _ h in
          let n = and_parts _ _ a.0 in
          absurd (p ((ltb-true 0 _ n.0, numeral_from (without_leading_plus t) n.1), ltb-true _ _ a.1))
      go false h = refl

  pub tried : (default : ℕ) (o : Option Text) (r : Result (Option ℕ) E) → (o ≡ None → r ≡ Ok None) → ((t : Text) → o ≡ Some t → TriesOne G t r) → answer_of default r ≡ number_or bits default o
  tried default None r none some = ap (answer_of default) (none refl)
  tried default (Some t) r none some = go r (some t refl)
    where
      go : (s : Result (Option ℕ) E) → TriesOne G t s → answer_of default s ≡ number_in bits t
      go (Ok (Some n)) h = sym (got_number t n (only t (Ok n) h))
      go (Ok None) h = absurd h
      go (Err e) h = sym (no_number t e (only t (Err e) h))

module _ {E : Type 0} (G : List ℕ → Result ℕ E → Type 0) (only : (t : Text) (r : Result ℕ E) → G t r → ParsesUnsigned 32 10 t r) where
  -- the mode that is answered for what was tried
  pub mode_tried : (check : Bool) (o : Option Text) (r : Result (Option ℕ) E) → (o ≡ None → r ≡ Ok None) → ((t : Text) → o ≡ Some t → TriesOne G t r) → mode_answer check r ≡ mode_of check o
  mode_tried check None r none some = ap (mode_answer check) (none refl)
  mode_tried check (Some t) r none some = go r (some t refl)
    where
      go : (s : Result (Option ℕ) E) → TriesOne G t s → mode_answer check s ≡ mode_of check (Some t)
      go (Ok (Some n)) h = ap (λ o. o >>= λ goals. cond check None (Some (Demo goals))) (sym (got_number 32 G only t n (only t (Ok n) h)))
      go (Ok None) h = absurd h
      go (Err e) h = ap (λ o. o >>= λ goals. cond check None (Some (Demo goals))) (sym (no_number 32 G only t e (only t (Err e) h)))

-- as the numbers of Rust are parsed
abbrev pub Gives : ℕ → List ℕ → Result ℕ ParseIntError → Type 0
Gives bits t r = ParsesUnsigned bits 10 t r × ExplainsUnsignedError 10 t r × HasUnsignedDigitsIfOk t r

pub number_tried : (bits default : ℕ) (f : Found) (id : Text) (r : Result (Option ℕ) ParseIntError) → (one_text f id ≡ None → r ≡ Ok None)
    → ((t : Text) → one_text f id ≡ Some t → TriesOne (Gives bits) t r) → answer_of default r ≡ number_or bits default (one_of id (rows_of f))
number_tried bits default f id r none some = tried bits (Gives bits) (λ t x h. h.0) default (one_text f id) r none some ∙ ap (number_or bits default) (one_text-rows f id)

pub goals_tried : (check : Bool) (f : Found) (id : Text) (r : Result (Option ℕ) ParseIntError) → (one_text f id ≡ None → r ≡ Ok None)
    → ((t : Text) → one_text f id ≡ Some t → TriesOne (Gives 32) t r) → mode_answer check r ≡ mode_of check (one_of id (rows_of f))
goals_tried check f id r none some = mode_tried (Gives 32) (λ t x h. h.0) check (one_text f id) r none some ∙ ap (mode_of check) (one_text-rows f id)

-- ---- what is stated together
pub no_which : (a b c : Option ℕ) (d : Option Mode) (x y : ℕ) → a ≡ Some x → b ≡ Some y → c ≡ None → None ≡ joined_options a b c d
no_which a b c d x y p q r = sym (ap₂ (λ u v. joined_options u v c d) p q ∙ ap (λ w. joined_options (Some x) (Some y) w d) r)

pub no_mode : (a b c : Option ℕ) (d : Option Mode) (x y z : ℕ) → a ≡ Some x → b ≡ Some y → c ≡ Some z → d ≡ None → None ≡ joined_options a b c d
no_mode a b c d x y z p q r s = sym (ap₂ (λ u v. joined_options u v c d) p q ∙ ap₂ (λ w m. joined_options (Some x) (Some y) w m) r s)

pub all_said : (a b c : Option ℕ) (d : Option Mode) (x y z : ℕ) (m : Mode) → a ≡ Some x → b ≡ Some y → c ≡ Some z → d ≡ Some m
    → Some (record { limits = record { steps = x; generations = y }; which = z; mode = m }) ≡ joined_options a b c d
all_said a b c d x y z m p q r s = sym (ap₂ (λ u v. joined_options u v c d) p q ∙ ap₂ (λ w k. joined_options (Some x) (Some y) w k) r s)

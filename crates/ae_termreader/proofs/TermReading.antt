-- Numerals and terms as the grammar reads them.
use Rattle.std.proofs.Common.{ℕ, suc, ℤ, pos, ◌⊎◌, Bool, true, false, ◌||◌, cond, nat_eq, List, [], ◌∷◌, ◌++◌, ◌≡◌, ◌≢◌, map, length, drop, get_or, Some, ◌≤◌, refl, sym, ap, ◌∙◌, arith}
use mathlib.Core.Logic.{inl, inr}
use Rattle.std.specs.List.{find}
use Rattle.std.specs.Str.{bytes_eq}
use Rattle.std.proofs.lemmas.Bool.{eqb-true, eq-eqb, ne_eqb}
use Rattle.ae_base.specs.Options.{or_else}
use Rattle.ae_codes.specs.Codes.{Read, got, Code, both, one, is_digit, limit, too_wide, is_bracket}
use Rattle.ae_codes.specs.Closers.{Close, closers, close_end, sizes, by_blank, by_bracket, round, square}
use Rattle.ae_codes.specs.Integers.{negate}
use Rattle.ae_codes.specs.Machines.{machine}
use Rattle.ae_codes.specs.Names.{closing}
use Rattle.ae_codes.specs.Numbers.{Closed, number, number_machine, read_digits, no_digit, zero_small, one_small}
use Rattle.ae_codes.specs.Fractions.{denominators, passing, passing_by}
use Rattle.ae_codes.specs.Numerals as numerals
use Rattle.ae_codes.specs.Numerals.{Below, whole, over, Plain, Signed, closed_of, is_minus}
use Rattle.ae_codes.specs.Plans.{Inner, Plan, fixed, known, inside, sequence, choice, sends, coded_shaped, coded_reads}
use Rattle.ae_codes.specs.Nested.{Shaped, agree_same}
use Rattle.ae_codes.specs.Rows.{Row, rows, row_list, alone, empty, ItemShape, agree_rows}
use Rattle.ae_codes.specs.Listings.{following, some}
use Rattle.ae_core.specs.declared.problems.Signature.{Signature}
use Rattle.ae_core.specs.declared.terms.Head.{Head}
use Rattle.ae_core.specs.declared.terms.Head.TheVariants as head
use Rattle.ae_core.specs.declared.terms.Sort.{Sort, Int}
use Rattle.ae_core.specs.declared.terms.Term.{Term, Term-F, roll-Term}
use Rattle.ae_core.specs.declared.terms.Term.TheOpen as layer
use Rattle.ae_core.specs.declared.terms.Term.TheVariants as term
use Rattle.ae_core.specs.declared.terms.Term.TheVariants.{rolls-Bound, rolls-Num, rolls-Fresh, rolls-Apply}
use Rattle.ae_prooftext.specs.Grammar.{is_real}
use Rattle.ae_prooftext.specs.Numbers.{Numeral, num_of, last_of, numeral_to, numeral_end}
use Rattle.ae_prooftext.specs.SortTexts.{above_round, fine, blank, blank_end}
use Rattle.ae_prooftext.specs.TermTexts as terms
use Rattle.ae_prooftext.specs.TermTexts.{TermEnd, TermValue, above_square, Arguments, LeafValue, FreshValue, AppliedValue, bracket_table, lone_table, head_fine, first_real, term_to, term_from, is_hash, is_figure, is_mark, plus_first, true_first}
use Rattle.ae_prooftext.specs.WordLaws.{at_real}
use Rattle.ae_prooftext.specs.Words.{bracket_heads, lone_heads, head_word, head_of, lone_head_of, named, takes_sorts}
use Rattle.ae_readers.specs.Denominators.{below_digits, can_live}
use Rattle.ae_readers.specs.Readers.{after_read, closing_read, fixed_read, named_read, place_of, row_read, more_read, list_read, behind_read, end_or, or_stroke, wide_or, before, FaultIs}
use Rattle.ae_readers.proofs.Combinators.{after_after, after_same, mapped_is, one_is, one_none, on_side, checked_is}
use Rattle.ae_readers.proofs.NameReading.{name_is, closing_is}
use Rattle.ae_readers.proofs.RowReading.{row_turn, goes_on, ends_here, faulty, listing_is, following_is, some_is}
use Rattle.ae_readers.proofs.WordReading.{alone_is}
use Rattle.ae_readers.specs.declared.fault.Fault.{Fault}
use Rattle.ae_termreader.specs.Terms.{num_behind, num_read, num_by, signed_num, numeral_read, round_terms, bound_read, lone_read, fresh_read, arguments_read, head_at, applied_read, inner_read, bracket_by, bracket_read, term_by, term_turn}
use Rattle.ae_termreader.specs.Sorts.{sorts_read, square_sorts}
use Rattle.ae_termreader.proofs.SortReading.{both_then, mapped_then, byte_then, blank_is}

-- ---- rows read alike, whatever is known of their values
pub same_rows : {X : Type 0} (last : ℕ) (other : nat_eq last 32 ≡ false) (item : Code ((x : X) × ℕ)) (x0 : X) (h h' : Shaped (ItemShape last) (x0, last) item) (bytes : List ℕ)
    → row_read (rows last other item x0 h) bytes ≡ row_read (rows last other item x0 h') bytes
same_rows last other item x0 h h' bytes =
    let n = suc (length bytes) in
    ap (λ r. after_read r (λ r rest. got (row_list r) rest)) (agree_rows last other item item x0 h h' n (agree_same item n) bytes (omega arith))

pub same_list : {X : Type 0} (last : ℕ) (other : nat_eq last 32 ≡ false) (item : Code ((x : X) × ℕ)) (x0 : X) (h h' : Shaped (ItemShape last) (x0, last) item) (bytes : List ℕ)
    → list_read last (rows last other item x0 h) bytes ≡ list_read last (rows last other item x0 h') bytes
same_list last other item x0 h h' [] = refl
same_list last other item x0 h h' (x ∷ xs) = ap (end_or (nat_eq x last) xs) (same_rows last other item x0 h h' (x ∷ xs))

pub same_behind : {X : Type 0} (last : ℕ) (other : nat_eq last 32 ≡ false) (item : Code ((x : X) × ℕ)) (x0 : X) (h h' : Shaped (ItemShape last) (x0, last) item) (bytes : List ℕ)
    → behind_read last (rows last other item x0 h) bytes ≡ behind_read last (rows last other item x0 h') bytes
same_behind last other item x0 h h' [] = refl
same_behind last other item x0 h h' (x ∷ xs) = ap (end_or (nat_eq x last) xs) (after_same (fixed_read (32 ∷ []) (x ∷ xs)) _ _ (λ u rest. same_rows last other item x0 h h' rest))

-- what a plan reads hangs on the codes inside alone
pub same_plan : {I : Type 0} {T : I → Type 0} {A : Type 0} (Shape : (i : I) → T i → List ℕ → Type 0) (sure : (i : I) → T i) (p : Plan Shape sure A) (c : (i : I) → Code (T i)) (h k : Inner Shape sure c) (bytes : List ℕ)
    → (p.make c h).read bytes ≡ (p.make c k).read bytes
same_plan Shape sure p c h k bytes = let n = suc (length bytes) in p.agrees c c h k n (λ i. agree_same (c i) n) bytes (omega arith)

-- ---- what a word names, by its place
pub named_at : {A : Type 0} (word : A → List ℕ) (other : A) (xs : List A) (w : List ℕ) → named word other xs w ≡ get_or xs (place_of (map word xs) w) other
named_at word other [] w = refl
named_at {A} word other (x ∷ xs) w = go (bytes_eq (word x) w) (named_at word other xs w)
  where
    go : (b : Bool) → or_else (find (λ a. bytes_eq (word a) w) xs) other ≡ get_or xs (place_of (map word xs) w) other
        → or_else (cond b (Some x) (find (λ a. bytes_eq (word a) w) xs)) other ≡ get_or (x ∷ xs) (cond b 0 (suc (place_of (map word xs) w))) other
    go true h = refl
    go false h = h

-- ---- numerals
abbrev num_layer : Numeral → Term-F Term
num_layer n = layer.Num n.top n.bottom n.real

module _ (k : Close) where
  abbrev ends : ℕ → Bool
  ends = closers k.one k.two

  -- a numeral with the sign that stands before it
  abbrev valued : (ℕ → ℤ) → Plain → List ℕ → Read TermEnd
  valued sign v rest = got (roll-Term (num_layer (num_of (sign v.0.0) v.1)), last_of v.0.1 v.1) rest

  below_is : (sign : ℕ → ℤ) (v : Closed) (b : Bool) (rest : List ℕ)
      → after_read ((numerals.below ends k.digits (close_end k) b v.0).read rest) (λ d end. valued sign (v, d) end) ≡ num_behind b sign v k rest
  unfolding numerals.below empty machine number_machine denominators passing passing_by can_live
  below_is sign v true rest = mapped_then over (closed_of (close_end k).0) (machine (number_machine (denominators v.0 ends k.digits (close_end k)))) (λ a f. refl) rest (λ d end. valued sign (v, d) end)
      ∙ after_same (below_digits v.0 k rest no_digit) _ _ (λ d end. λ i. got (rolls-Num (sign v.0) (pos d.0) true i, d.1) end)
  below_is sign v false rest = λ i. got (rolls-Num (sign v.0) (pos 1) false i, v.1) rest

  plain_is : (sign : ℕ → ℤ) (low : ℕ) (small : low ≤ 1) (bytes : List ℕ)
      → after_read ((numerals.plain ends k.digits (close_end k) low small).read bytes) (valued sign) ≡ num_read sign low k bytes
  unfolding numerals.plain machine number_machine
  plain_is sign low small bytes =
      both_then (machine (number_machine (numerals.tops ends k.digits (close_end k) low small))) (λ v. numerals.below ends k.digits (close_end k) (nat_eq v.1 47) v.0) bytes (valued sign)
      ∙ after_same (read_digits low limit (or_stroke true k) bytes no_digit) _ _ (λ v rest. below_is sign v (nat_eq v.1 47) rest)

  abbrev numeral_made : Signed → List ℕ → Read TermEnd
  numeral_made v rest = got (roll-Term (num_layer (numeral_to v)), numeral_end v) rest

  signed_by : (b : Bool) (x : ℕ) (xs : List ℕ) → nat_eq x 45 ≡ b
      → after_read (on_side b ((numerals.negative ends k.digits (close_end k)).read (x ∷ xs)) ((numerals.plain ends k.digits (close_end k) 0 zero_small).read (x ∷ xs))) numeral_made ≡ num_by b k x xs
  signed_by true x xs e =
      let s = eqb-true x 45 e in
      after_after ((numerals.negative ends k.digits (close_end k)).read (x ∷ xs)) _ _
      ∙ ap (λ z. after_read ((numerals.negative ends k.digits (close_end k)).read (z ∷ xs)) (λ v rest. numeral_made (inl v) rest)) s
      ∙ both_then (alone {A = Unit {0}} tt (45 ∷ [])) (λ u. numerals.plain ends k.digits (close_end k) 1 one_small) (45 ∷ xs) (λ v rest. numeral_made (inl v) rest)
      ∙ byte_then 45 xs (λ u r. after_read ((numerals.plain ends k.digits (close_end k) 1 one_small).read r) (λ v rest. numeral_made (inl (u, v)) rest))
      ∙ plain_is negate 1 one_small xs
  signed_by false x xs e = after_after ((numerals.plain ends k.digits (close_end k) 0 zero_small).read (x ∷ xs)) _ _ ∙ plain_is pos 0 zero_small (x ∷ xs)

  signed_is : (bytes : List ℕ) → after_read ((numerals.signed ends k.digits (close_end k)).read bytes) numeral_made ≡ signed_num k bytes
  unfolding numerals.signed
  signed_is [] = ap (λ r. after_read r numeral_made) (one_none is_minus (numerals.negative ends k.digits (close_end k)) (numerals.plain ends k.digits (close_end k) 0 zero_small) (numerals.minus_begins ends k.digits (close_end k)) (numerals.plain_begins ends k.digits (close_end k)))
  signed_is (x ∷ xs) = ap (λ r. after_read r numeral_made) (one_is is_minus (numerals.negative ends k.digits (close_end k)) (numerals.plain ends k.digits (close_end k) 0 zero_small) (numerals.minus_begins ends k.digits (close_end k)) (numerals.plain_begins ends k.digits (close_end k)) x xs)
      ∙ signed_by (nat_eq x 45) x xs refl

  wide_through : (b : Bool) (bytes : List ℕ) (r : Read Signed) → after_read (wide_or b bytes r) numeral_made ≡ wide_or b bytes (after_read r numeral_made)
  wide_through true bytes r = refl
  wide_through false bytes r = refl

  pub numeral_is : (bytes : List ℕ) → after_read ((numerals.numeral ends k.digits (close_end k)).read bytes) numeral_made ≡ numeral_read k bytes
  unfolding numerals.numeral
  numeral_is bytes =
      ap (λ r. after_read r numeral_made) (checked_is too_wide (numerals.signed ends k.digits (close_end k)) (numerals.narrow ends k.digits (close_end k)) (λ bytes h. h) (numerals.starts ends k.digits (close_end k)) bytes)
      ∙ wide_through (too_wide bytes) bytes ((numerals.signed ends k.digits (close_end k)).read bytes)
      ∙ ap (wide_or (too_wide bytes) bytes) (signed_is bytes)

-- ---- terms
module _ (sig : Signature) (env : List Sort) where
  abbrev real : Term → Bool
  real = is_real sig env

  abbrev term_at : Close → Code TermEnd
  term_at = terms.term sig real

  abbrev shaped_at : terms.TermInner sig real term_at
  shaped_at = terms.term_is_shaped sig real

  abbrev made : TermValue → List ℕ → Read TermEnd
  made v rest = got (term_to sig real v) rest

  -- a fresh constant
  fresh_is : (bytes : List ℕ) (F : Term → List ℕ → Read TermEnd)
      → after_read ((terms.fresh_code sig).read bytes) (λ v rest. F (term.Fresh v.1.0.0 v.1.1.0) rest) ≡ after_read (fresh_read sig bytes) F
  fresh_is bytes F =
      both_then (alone {A = Unit {0}} tt (33 ∷ 32 ∷ [])) (λ u. both (number (sizes by_blank)) (λ n. terms.sort_in sig by_bracket)) bytes (λ v rest. F (term.Fresh v.1.0.0 v.1.1.0) rest)
      ∙ ap (λ r. after_read r (λ u r. after_read ((both (number (sizes by_blank)) (λ n. terms.sort_in sig by_bracket)).read r) (λ v rest. F (term.Fresh v.0.0 v.1.0) rest))) (alone_is tt (33 ∷ 32 ∷ []) bytes)
      ∙ after_after (fixed_read (33 ∷ 32 ∷ []) bytes) (λ u rest. got tt rest) _
      ∙ after_same (fixed_read (33 ∷ 32 ∷ []) bytes) _ _ (λ u r.
      both_then (number (sizes by_blank)) (λ n. terms.sort_in sig by_bracket) r (λ v rest. F (term.Fresh v.0.0 v.1.0) rest)
      ∙ after_same ((number (sizes by_blank)).read r) _ _ (λ n q. sym (after_after ((terms.sort_in sig by_bracket).read q) _ F))
      ∙ sym (after_after ((number (sizes by_blank)).read r) _ F))
      ∙ sym (after_after (fixed_read (33 ∷ 32 ∷ []) bytes) _ F)

-- ---- arguments, in a layer over any codes of terms
module _ (sig : Signature) {I : Type 0} {T : I → Type 0} (Shape : (i : I) → T i → List ℕ → Type 0) (sure : (i : I) → T i) (p : Plan Shape sure TermEnd) (x0 : Term)
    (sh : (c : (i : I) → Code (T i)) (h : Inner Shape sure c) → Shaped (ItemShape 41) (x0, 41) (p.make c h)) (c : (i : I) → Code (T i)) (h : Inner Shape sure c) where
  abbrev arg_rows : Code (Row Term)
  arg_rows = rows 41 above_round (p.make c h) x0 (sh c h)

  abbrev pub arguments_by : Bool → List ℕ → Read Arguments
  arguments_by true bytes =
      after_read (fixed_read (91 ∷ []) bytes) (λ u r.
      after_read (sorts_read sig r) (λ ss q.
      after_read (behind_read 41 arg_rows q) (λ ts rest. got (ss, ts) rest)))
  arguments_by false bytes = after_read (row_read arg_rows bytes) (λ ts rest. got ([], ts) rest)

  pub sort_list_is : (bytes : List ℕ) → ((terms.sort_list sig Shape sure).make c h).read bytes ≡ sorts_read sig bytes
  unfolding known square_sorts
  sort_list_is bytes =
      listing_is Shape sure 93 above_square (terms.sort_plan sig Shape sure) Int (terms.sort_plan_shaped sig Shape sure) c h (terms.sort_plan_begins sig Shape sure) bytes
      ∙ same_list 93 above_square (terms.sort_in sig square) Int (terms.sort_plan_shaped sig Shape sure c h) (terms.sorts_shaped sig) bytes

  abbrev sort_list_code : Code (List Sort)
  sort_list_code = (terms.sort_list sig Shape sure).make c h

  abbrev behind_code : Code (List Term)
  behind_code = (following Shape sure 41 above_round p x0 sh).make c h

  abbrev some_code_of : Code (List Term)
  some_code_of = (some Shape sure 41 above_round p x0 sh).make c h

  pub arguments_are : (b : Bool) (bytes : List ℕ) → ((terms.arguments sig Shape sure p x0 sh b).make c h).read bytes ≡ arguments_by b bytes
  unfolding terms.arguments sends sequence fixed
  arguments_are true bytes =
      mapped_is (λ v. v.1) (λ a. (tt, a)) (both (alone {A = Unit {0}} tt (91 ∷ [])) (λ u. both sort_list_code (λ ss. behind_code))) (λ a f. refl) bytes
      ∙ both_then (alone {A = Unit {0}} tt (91 ∷ [])) (λ u. both sort_list_code (λ ss. behind_code)) bytes (λ v rest. got v.1 rest)
      ∙ ap (λ r. after_read r (λ u r. after_read ((both sort_list_code (λ ss. behind_code)).read r) (λ v rest. got v rest))) (alone_is tt (91 ∷ []) bytes)
      ∙ after_after (fixed_read (91 ∷ []) bytes) (λ u rest. got tt rest) _
      ∙ after_same (fixed_read (91 ∷ []) bytes) _ _ (λ u r.
      both_then sort_list_code (λ ss. behind_code) r (λ v rest. got v rest)
      ∙ ap (λ z. after_read z (λ ss q. after_read (behind_code.read q) (λ ts rest. got (ss, ts) rest))) (sort_list_is r)
      ∙ after_same (sorts_read sig r) _ _ (λ ss q. ap (λ z. after_read z (λ ts rest. got (ss, ts) rest)) (following_is Shape sure 41 above_round p x0 sh c h q)))
  arguments_are false bytes =
      mapped_is (terms.no_sorts_to sig Shape sure p x0 sh) (terms.no_sorts_from sig Shape sure p x0 sh) some_code_of (λ a f. refl) bytes
      ∙ ap (λ r. after_read r (λ ts rest. got ([], ts) rest)) (some_is Shape sure 41 above_round p x0 sh c h bytes)

module _ (sig : Signature) (env : List Sort) where
  abbrev layer_real : Term → Bool
  layer_real = is_real sig env

  abbrev codes_at : Close → Code TermEnd
  codes_at = terms.term sig layer_real

  abbrev shapes_at : terms.TermInner sig layer_real codes_at
  shapes_at = terms.term_is_shaped sig layer_real

  abbrev term_made : TermValue → List ℕ → Read TermEnd
  term_made v rest = got (terms.term_to sig layer_real v) rest

  abbrev args_code : Bool → Code Arguments
  args_code b = (terms.term_arguments sig layer_real b).make codes_at shapes_at

  same_arguments : (b : Bool) (bytes : List ℕ) → arguments_by sig terms.term_shape terms.term_sure (terms.term_inside sig layer_real) (term.Bound 0) (terms.inside_shaped sig layer_real) codes_at shapes_at b bytes ≡ arguments_read sig env b bytes
  unfolding round_terms inside
  same_arguments true bytes = after_same (fixed_read (91 ∷ []) bytes) _ _ (λ u r. after_same (sorts_read sig r) _ _ (λ ss q. ap (λ z. after_read z (λ ts rest. got (ss, ts) rest))
      (same_behind 41 above_round (codes_at round) (term.Bound 0) (terms.inside_shaped sig layer_real codes_at shapes_at) (terms.terms_shaped sig layer_real codes_at shapes_at) q)))
  same_arguments false bytes = ap (λ z. after_read z (λ ts rest. got ([], ts) rest)) (same_rows 41 above_round (codes_at round) (term.Bound 0) (terms.inside_shaped sig layer_real codes_at shapes_at) (terms.terms_shaped sig layer_real codes_at shapes_at) bytes)

  args_is : (b : Bool) (bytes : List ℕ) → (args_code b).read bytes ≡ arguments_read sig env b bytes
  args_is b bytes = arguments_are sig terms.term_shape terms.term_sure (terms.term_inside sig layer_real) (term.Bound 0) (terms.inside_shaped sig layer_real) codes_at shapes_at b bytes ∙ same_arguments b bytes

  abbrev applied_code : Code AppliedValue
  applied_code = both (terms.head_names sig) (λ w. args_code (takes_sorts sig (head_of sig w.0)))

  head_is : (w : List ℕ) → head_of sig w ≡ head_at sig (place_of (bracket_table sig) w)
  unfolding head_of
  head_is w = named_at (head_word sig) head.Void (bracket_heads sig) w

  lone_is : (w : List ℕ) → lone_head_of sig w ≡ get_or (lone_heads sig) (place_of (lone_table sig) w) head.Void
  unfolding lone_head_of
  lone_is w = named_at (head_word sig) head.Void (lone_heads sig) w

  abbrev apply_to : Head → Arguments → Term
  apply_to H a = term.Apply (at_real (first_real sig layer_real a.1) H) a.0 a.1

  applied_is : (bytes : List ℕ) (F : Term → List ℕ → Read TermEnd) → after_read (applied_code.read bytes) (λ v rest. F (apply_to (head_of sig v.0.0) v.1) rest) ≡ after_read (applied_read sig env bytes) F
  applied_is bytes F =
      both_then (terms.head_names sig) (λ w. args_code (takes_sorts sig (head_of sig w.0))) bytes (λ v rest. F (apply_to (head_of sig v.0.0) v.1) rest)
      ∙ after_same ((terms.head_names sig).read bytes) _ _ (λ w r.
      ap (λ z. after_read z (λ a rest. F (apply_to (head_of sig w.0) a) rest)) (args_is (takes_sorts sig (head_of sig w.0)) r)
      ∙ ap (λ H. after_read (arguments_read sig env (takes_sorts sig H) r) (λ a rest. F (apply_to H a) rest)) (head_is w.0))
      ∙ sym (after_after ((terms.head_names sig).read bytes) (λ v rest. got (place_of (bracket_table sig) v.0, v.1) rest) _)
      ∙ ap (λ z. after_read z (λ w r. after_read (arguments_read sig env (takes_sorts sig (head_at sig w.0)) r) (λ a rest. F (apply_to (head_at sig w.0) a) rest)))
      (name_is head_fine (bracket_table sig) blank blank_end (terms.plus_first sig) bytes ∙ ap (λ f. named_read head_fine f (bracket_table sig) bytes) blank_is)
      ∙ after_same (named_read head_fine (closers by_blank.one by_blank.two) (bracket_table sig) bytes) _ _ (λ w r. sym (after_after (arguments_read sig env (takes_sorts sig (head_at sig w.0)) r) _ F))
      ∙ sym (after_after (named_read head_fine (closers by_blank.one by_blank.two) (bracket_table sig) bytes) _ F)

  module _ (k : Close) where
    abbrev F_closed : Term → List ℕ → Read TermEnd
    F_closed t r = after_read (closing_read k r) (λ e rest. got (t, e) rest)

    abbrev inside_code : Code (FreshValue ⊎ AppliedValue)
    inside_code = (terms.in_brackets sig layer_real).make codes_at shapes_at

    abbrev term_in : FreshValue ⊎ AppliedValue → Term
    term_in (inl v) = term.Fresh v.1.0.0 v.1.1.0
    term_in (inr v) = apply_to (head_of sig v.0.0) v.1

    inside_by : (b : Bool) (x : ℕ) (xs : List ℕ) → nat_eq x 33 ≡ b
        → after_read (on_side b ((terms.fresh_code sig).read (x ∷ xs)) (applied_code.read (x ∷ xs))) (λ v r. F_closed (term_in v) r) ≡ after_read (bracket_by sig env b (x ∷ xs)) F_closed
    inside_by true x xs e = after_after ((terms.fresh_code sig).read (x ∷ xs)) _ _ ∙ fresh_is sig env (x ∷ xs) F_closed
    inside_by false x xs e = after_after (applied_code.read (x ∷ xs)) _ _ ∙ applied_is (x ∷ xs) F_closed

    inside_is : (bytes : List ℕ) → after_read (inside_code.read bytes) (λ v r. F_closed (term_in v) r) ≡ after_read (inner_read sig env bytes) F_closed
    unfolding choice sequence fixed
    inside_is [] = ap (λ r. after_read r (λ v r. F_closed (term_in v) r)) (one_none is_mark (terms.fresh_code sig) applied_code (terms.fresh_begins sig layer_real codes_at shapes_at) (terms.applied_begins sig layer_real codes_at shapes_at))
    inside_is (x ∷ xs) = ap (λ r. after_read r (λ v r. F_closed (term_in v) r)) (one_is is_mark (terms.fresh_code sig) applied_code (terms.fresh_begins sig layer_real codes_at shapes_at) (terms.applied_begins sig layer_real codes_at shapes_at) x xs)
        ∙ inside_by (nat_eq x 33) x xs refl

    abbrev closing_code : Code ℕ
    closing_code = closing (closers k.one k.two) (close_end k)

    abbrev bracket_code : Code ((u : Unit {0}) × ((b : FreshValue ⊎ AppliedValue) × ℕ))
    bracket_code = both (alone {A = Unit {0}} tt (40 ∷ [])) (λ u. both inside_code (λ b. closing_code))

    bracket_made : (b : FreshValue ⊎ AppliedValue) (e : ℕ) (rest : List ℕ) → term_made (inl (tt, (b, e))) rest ≡ got (term_in b, e) rest
    bracket_made (inl v) e rest = λ i. got (rolls-Fresh v.1.0.0 v.1.1.0 i, e) rest
    bracket_made (inr v) e rest = λ i. got (rolls-Apply (at_real (first_real sig layer_real v.1.1) (head_of sig v.0.0)) v.1.0 v.1.1 i, e) rest

    bracket_is : (xs : List ℕ) → after_read (bracket_code.read (40 ∷ xs)) (λ v rest. term_made (inl v) rest) ≡ bracket_read sig env k xs
    bracket_is xs =
        both_then (alone {A = Unit {0}} tt (40 ∷ [])) (λ u. both inside_code (λ b. closing_code)) (40 ∷ xs) (λ v rest. term_made (inl v) rest)
        ∙ byte_then 40 xs (λ u r. after_read ((both inside_code (λ b. closing_code)).read r) (λ v rest. term_made (inl (u, v)) rest))
        ∙ both_then inside_code (λ b. closing_code) xs (λ v rest. term_made (inl (tt, v)) rest)
        ∙ after_same (inside_code.read xs) _ _ (λ b r. ap (λ z. after_read z (λ e rest. term_made (inl (tt, (b, e))) rest)) (closing_is k (close_end k) r) ∙ after_same (closing_read k r) _ _ (λ e rest. bracket_made b e rest))
        ∙ inside_is xs

    -- what stands alone
    abbrev leaf_made : LeafValue → List ℕ → Read TermEnd
    leaf_made v rest = term_made (inr v) rest

    hash_is : (xs : List ℕ) → after_read ((terms.bounds sig k).read (35 ∷ xs)) (λ v rest. leaf_made (inl v) rest) ≡ bound_read k xs
    hash_is xs =
        both_then (alone {A = Unit {0}} tt (35 ∷ [])) (λ u. number (sizes k)) (35 ∷ xs) (λ v rest. leaf_made (inl v) rest)
        ∙ byte_then 35 xs (λ u r. after_read ((number (sizes k)).read r) (λ v rest. leaf_made (inl (u, v)) rest))
        ∙ after_same ((number (sizes k)).read xs) _ _ (λ v rest. λ i. got (rolls-Bound v.0 i, v.1) rest)

    alone_name : (bytes : List ℕ) → after_read ((terms.plain_names sig k).read bytes) (λ v rest. leaf_made (inr (inr v)) rest) ≡ lone_read sig k bytes
    alone_name bytes =
        after_same ((terms.plain_names sig k).read bytes) _ _ (λ v rest. λ i. got ((rolls-Apply (lone_head_of sig v.0) [] [] ∙ ap (λ H. term.Apply H [] []) (lone_is v.0)) i, v.1) rest)
        ∙ sym (after_after ((terms.plain_names sig k).read bytes) (λ v rest. got (place_of (lone_table sig) v.0, v.1) rest) (λ v rest. got (term.Apply (get_or (lone_heads sig) v.0 head.Void) [] [], v.1) rest))
        ∙ ap (λ r. after_read r (λ v rest. got (term.Apply (get_or (lone_heads sig) v.0 head.Void) [] [], v.1) rest)) (name_is fine (lone_table sig) (closers k.one k.two) (close_end k) (terms.true_first sig k) bytes)

    abbrev leaf_by : Bool → Bool → ℕ → List ℕ → Read TermEnd
    leaf_by h f x xs = term_by sig env false h f k x xs

    figure_side : (f : Bool) (x : ℕ) (xs : List ℕ) → after_read (on_side f ((numerals.numeral (closers k.one k.two) k.digits (close_end k)).read (x ∷ xs)) ((terms.plain_names sig k).read (x ∷ xs))) (λ v rest. leaf_made (inr v) rest) ≡ leaf_by false f x xs
    figure_side true x xs = after_after ((numerals.numeral (closers k.one k.two) k.digits (close_end k)).read (x ∷ xs)) _ _ ∙ numeral_is k (x ∷ xs)
    figure_side false x xs = after_after ((terms.plain_names sig k).read (x ∷ xs)) _ _ ∙ alone_name (x ∷ xs)

    inner_leaf : (x : ℕ) (xs : List ℕ) → after_read ((terms.inner_leaves sig k).read (x ∷ xs)) (λ v rest. leaf_made (inr v) rest) ≡ leaf_by false (is_digit x || nat_eq x 45) x xs
    inner_leaf x xs = ap (λ r. after_read r (λ v rest. leaf_made (inr v) rest)) (one_is is_figure (numerals.numeral (closers k.one k.two) k.digits (close_end k)) (terms.plain_names sig k) (terms.figures_begin sig k) (terms.names_begin sig k) x xs)
        ∙ figure_side (is_figure x) x xs

    hash_side : (h : Bool) (x : ℕ) (xs : List ℕ) → nat_eq x 35 ≡ h → after_read (on_side h ((terms.bounds sig k).read (x ∷ xs)) ((terms.inner_leaves sig k).read (x ∷ xs))) leaf_made ≡ leaf_by h (is_digit x || nat_eq x 45) x xs
    hash_side true x xs e = let s = eqb-true x 35 e in
        after_after ((terms.bounds sig k).read (x ∷ xs)) _ _ ∙ ap (λ z. after_read ((terms.bounds sig k).read (z ∷ xs)) (λ v rest. leaf_made (inl v) rest)) s ∙ hash_is xs
    hash_side false x xs e = after_after ((terms.inner_leaves sig k).read (x ∷ xs)) _ _ ∙ inner_leaf x xs

    leaf_is : (x : ℕ) (xs : List ℕ) → after_read ((terms.leaves sig k).read (x ∷ xs)) leaf_made ≡ leaf_by (nat_eq x 35) (is_digit x || nat_eq x 45) x xs
    leaf_is x xs = ap (λ r. after_read r leaf_made) (one_is is_hash (terms.bounds sig k) (terms.inner_leaves sig k) (terms.bounds_begin sig k) (terms.inner_begin sig k) x xs) ∙ hash_side (nat_eq x 35) x xs refl

    bracket_side : (b : Bool) (x : ℕ) (xs : List ℕ) → nat_eq x 40 ≡ b → after_read (on_side b (bracket_code.read (x ∷ xs)) ((terms.leaves sig k).read (x ∷ xs))) term_made ≡ term_by sig env b (nat_eq x 35) (is_digit x || nat_eq x 45) k x xs
    bracket_side true x xs e = let s = eqb-true x 40 e in
        after_after (bracket_code.read (x ∷ xs)) _ _ ∙ ap (λ z. after_read (bracket_code.read (z ∷ xs)) (λ v rest. term_made (inl v) rest)) s ∙ bracket_is xs
    bracket_side false x xs e = after_after ((terms.leaves sig k).read (x ∷ xs)) _ _ ∙ leaf_is x xs

    abbrev raw_code : Code TermValue
    raw_code = (terms.raw_term sig layer_real k).make codes_at shapes_at

    raw_is : (bytes : List ℕ) → after_read (raw_code.read bytes) term_made ≡ term_turn sig env k bytes
    unfolding choice sequence fixed
    raw_is [] = ap (λ r. after_read r term_made) (one_none is_bracket bracket_code (terms.leaves sig k) (terms.bracket_begins sig layer_real k codes_at shapes_at) (terms.leaf_begins sig layer_real k codes_at shapes_at))
    raw_is (x ∷ xs) = ap (λ r. after_read r term_made) (one_is is_bracket bracket_code (terms.leaves sig k) (terms.bracket_begins sig layer_real k codes_at shapes_at) (terms.leaf_begins sig layer_real k codes_at shapes_at) x xs)
        ∙ bracket_side (nat_eq x 40) x xs refl

    pub term_is : (bytes : List ℕ) → (terms.term sig (is_real sig env) k).read bytes ≡ term_turn sig env k bytes
    unfolding terms.term sends
    term_is bytes =
        coded_reads {T = λ k. TermEnd} terms.term_shape terms.term_sure (terms.term_layers sig layer_real) k bytes
        ∙ same_plan {T = λ k. TermEnd} terms.term_shape terms.term_sure (terms.term_plan sig layer_real k) codes_at (coded_shaped {T = λ k. TermEnd} terms.term_shape terms.term_sure (terms.term_layers sig layer_real)) shapes_at bytes
        ∙ mapped_is (terms.term_to sig layer_real) (terms.term_from sig layer_real) raw_code (terms.term_back sig layer_real k codes_at shapes_at) bytes
        ∙ raw_is bytes

  -- ---- rows of terms in round brackets
  pub round_turn : (bytes : List ℕ) → row_read (round_terms sig env) bytes ≡ after_read ((terms.term sig (is_real sig env) round).read bytes) (λ v rest. more_read (nat_eq v.1 32) v.0 (row_read (round_terms sig env) rest) rest)
  unfolding round_terms
  round_turn bytes = row_turn 41 above_round (codes_at round) (term.Bound 0) (terms.terms_shaped sig layer_real codes_at shapes_at) bytes

-- as far as a loop over terms has come
module _ (sig : Signature) (env : List Sort) (text : List ℕ) (from at : ℕ) (xs : List Term)
    (so_far : row_read (round_terms sig env) (drop from text) ≡ before xs (row_read (round_terms sig env) (drop at text))) where
  abbrev item_code : Code TermEnd
  item_code = terms.term sig (is_real sig env) round

  pub terms_go_on : (v : TermEnd) (next : ℕ) (ys : List Term) → item_code.read (drop at text) ≡ got v (drop next text) → v.1 ≡ 32 → ys ≡ xs ++ v.0 ∷ []
      → row_read (round_terms sig env) (drop from text) ≡ before ys (row_read (round_terms sig env) (drop next text))
  terms_go_on v next ys e q p =
      goes_on (round_terms sig env) item_code (round_turn sig env) text from at xs so_far v next e (eq-eqb v.1 32 q) ∙ ap (λ z. before z (row_read (round_terms sig env) (drop next text))) (sym p)

  pub terms_end : (v : TermEnd) (next : ℕ) (ys : List Term) → item_code.read (drop at text) ≡ got v (drop next text) → v.1 ≢ 32 → ys ≡ xs ++ v.0 ∷ []
      → row_read (round_terms sig env) (drop from text) ≡ got ys (drop next text)
  terms_end v next ys e q p = ends_here (round_terms sig env) item_code (round_turn sig env) text from at xs so_far v next e (ne_eqb v.1 32 q) ∙ ap (λ z. got z (drop next text)) (sym p)

  pub terms_faulty : (f : Fault) → FaultIs text f (item_code.read (drop at text)) → FaultIs text f (row_read (round_terms sig env) (drop from text))
  terms_faulty f e = faulty (round_terms sig env) item_code (round_turn sig env) text from at xs so_far f e

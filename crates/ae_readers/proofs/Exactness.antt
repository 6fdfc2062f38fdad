-- What is read of a code is exactly its texts.
use Rattle.std.specs.Prelude.{ℕ, suc, List, [], ◌∷◌, ◌≡◌, ◌⊎◌, Bool, true, false, cond, get_or, drop, Result, Ok, Err}
use mathlib.Core.Logic.{inl, inr}
use mathlib.Core.Path.{refl, sym, ap, subst, ◌∙◌}
use Rattle.ae_codes.specs.Codes.{Code, Read, got, stops, wide, takes, stops_after, wides, words, limit}
use Rattle.ae_codes.specs.Closers.{Close, close_end}
use Rattle.ae_codes.specs.Names.{Listed, WordEnd, names}
use Rattle.ae_codes.specs.Numbers.{Closed, no_digit, number_machine, read_digits}
use Rattle.ae_codes.specs.Machines.{machine}
use Rattle.ae_codes.specs.Fractions.{passing_by}
use Rattle.ae_codes.specs.Rows.{alone}
use Rattle.ae_readers.specs.Readers.{Reads, ReadsExactly, after_read, closing_at, closing_read, close_of, closes, fixed_read, long_at, low_of, or_stroke, name_read, named_read, place_of}
use Rattle.ae_readers.specs.Denominators.{below_at, below_digits, can_live}
use Rattle.ae_readers.specs.Names.{SomeName, form_of, names_at, word_at}
use Rattle.ae_readers.specs.declared.names.Form.{Form}
use Rattle.ae_readers.specs.declared.closing.Closing.{Closing}
use Rattle.ae_readers.specs.declared.fault.Fault.{Fault}
use Rattle.ae_readers.specs.declared.fault.Fault.TheVariants.{At, WideNumber, Memory}
use Rattle.std.specs.Str.{bytes_eq}
use Rattle.std.proofs.lemmas.Slice.Eq.{bytes_eq-Decides}
use Rattle.ae_readers.proofs.NameReading.{closing_is, name_is}
use Rattle.ae_readers.proofs.WordReading.{alone_is}

pub same_read : {A : Type 0} (text : List ℕ) (result : Result (A × ℕ) Fault) (r r' : Read A) → r' ≡ r → Reads text result r → Reads text result r'
same_read text result r r' e h = subst (λ z. Reads text result z) (sym e) h

pub reads_exactly : {A : Type 0} (c : Code A) (text : List ℕ) (at : ℕ) (result : Result (A × ℕ) Fault) → Reads text result (c.read (drop at text)) → ReadsExactly c text at result
unfolding ReadsExactly
reads_exactly c text at (Ok v) h = takes c (drop at text) v.0 (drop v.1 text) h
reads_exactly c text at (Err (At p)) h = stops_after c (drop at text) (drop p text) h
reads_exactly c text at (Err (WideNumber p)) h = wides c (drop at text) (drop p text) h
reads_exactly c text at (Err Memory) h = tt

-- where the code reads what the reader is said to read
pub exactly_by : {A : Type 0} (c : Code A) (r : List ℕ → Read A) → ((bytes : List ℕ) → c.read bytes ≡ r bytes)
    → (text : List ℕ) (at : ℕ) (result : Result (A × ℕ) Fault) → Reads text result (r (drop at text)) → ReadsExactly c text at result
exactly_by c r e text at result h = reads_exactly c text at result (same_read text result (r (drop at text)) (c.read (drop at text)) (e (drop at text)) h)

pub closing_exactly : (k : Closing) (text : List ℕ) (at : ℕ) (result : Result (ℕ × ℕ) Fault) → Reads text result (closing_read (close_of k) (drop at text)) → ReadsExactly (closing_at k) text at result
closing_exactly k text at result h = exactly_by (closing_at k) (closing_read (close_of k)) (closing_is (close_of k) (close_end (close_of k))) text at result h

unit_got : (r : Read (Unit {0})) → after_read r (λ u rest. got tt rest) ≡ r
unit_got (got u rest) = refl
unit_got (stops r) = refl
unit_got (wide r) = refl

pub fixed_exactly : (w : List ℕ) (text : List ℕ) (at : ℕ) (result : Result (Unit {0} × ℕ) Fault) → Reads text result (fixed_read w (drop at text)) → ReadsExactly (alone {A = Unit {0}} tt w) text at result
fixed_exactly w text at result h = exactly_by (alone {A = Unit {0}} tt w) (fixed_read w) (λ bytes. alone_is tt w bytes ∙ unit_got (fixed_read w bytes)) text at result h

-- ---- numbers
pub long_exactly : (signed stroke : Bool) (k : Close) (text : List ℕ) (at : ℕ) (result : Result (Closed × ℕ) Fault)
    → Reads text result (read_digits (low_of signed) limit (or_stroke stroke k) (drop at text) no_digit) → ReadsExactly (long_at signed stroke k) text at result
unfolding machine number_machine
long_exactly signed stroke k text at result h =
    exactly_by (long_at signed stroke k) (λ bytes. read_digits (low_of signed) limit (or_stroke stroke k) bytes no_digit) (λ bytes. refl) text at result h

pub below_exactly : (top : ℕ) (k : Close) (text : List ℕ) (at : ℕ) (result : Result (Closed × ℕ) Fault)
    → Reads text result (below_digits top k (drop at text) no_digit) → ReadsExactly (below_at top k) text at result
unfolding machine number_machine passing_by can_live
below_exactly top k text at result h = exactly_by (below_at top k) (λ bytes. below_digits top k bytes no_digit) (λ bytes. refl) text at result h

-- ---- names
place_step : (b : Bool) (t : List ℕ) (ts : List (List ℕ)) (w : List ℕ) → bytes_eq t w ≡ b → (w ≡ t) ⊎ Listed ts w → (Listed ts w → get_or ts (place_of ts w) [] ≡ w) → get_or (t ∷ ts) (cond b 0 (suc (place_of ts w))) [] ≡ w
place_step true t ts w e i ih = (bytes_eq-Decides t w).0 e
place_step false t ts w e (inl q) ih = let z : bytes_eq t w ≡ true = (bytes_eq-Decides t w).1 (sym q) in absurd cc
place_step false t ts w e (inr i) ih = ih i

-- a word of the table stands at its place
pub word_back : (ts : List (List ℕ)) (w : List ℕ) → Listed ts w → get_or ts (place_of ts w) [] ≡ w
word_back [] w i = absurd i
word_back (t ∷ ts) w i = place_step (bytes_eq t w) t ts w refl i (word_back ts w)

word_read : (table : List (List ℕ)) (text : List ℕ) (result : Result ((ℕ × ℕ) × ℕ) Fault) (r : Read WordEnd) → ((v : WordEnd) (rest : List ℕ) → r ≡ got v rest → Listed table v.0)
    → Reads text result (name_read table r) → Reads text (word_at table result) r
word_read table text (Ok v) (got u rest) l h =
    let word : place_of table u.0 ≡ v.0.0 = cc in
    let end : u.1 ≡ v.0.1 = cc in
    let behind : rest ≡ drop v.1 text = cc in
    λ i. got ((sym (word_back table u.0 (l u rest refl)) ∙ ap (λ z. get_or table z []) word) i, end i) (behind i)
word_read table text (Ok v) (stops r) l h = absurd cc
word_read table text (Ok v) (wide r) l h = absurd cc
word_read table text (Err (At p)) (got u rest) l h = absurd cc
word_read table text (Err (At p)) (stops r) l h = let s : r ≡ drop p text = cc in ap stops s
word_read table text (Err (At p)) (wide r) l h = absurd cc
word_read table text (Err (WideNumber p)) (got u rest) l h = absurd cc
word_read table text (Err (WideNumber p)) (stops r) l h = absurd cc
word_read table text (Err (WideNumber p)) (wide r) l h = let s : r ≡ drop p text = cc in ap wide s
word_read table text (Err Memory) r l h = tt

pub name_exactly : (f : Form) (k : Closing) (table : List (List ℕ)) (some : SomeName f k table) (text : List ℕ) (at : ℕ) (result : Result ((ℕ × ℕ) × ℕ) Fault)
    → Reads text result (named_read (form_of f) (closes k) table (drop at text)) → ReadsExactly (names_at f k table some) text at (word_at table result)
unfolding names words
name_exactly f k table some text at result h =
    let c = names_at f k table some in
    reads_exactly c text at (word_at table result)
    (word_read table text result (c.read (drop at text)) (λ v rest e. (takes c (drop at text) v rest e).1.listed)
    (subst (λ z. Reads text result z) (sym (name_is (form_of f) table (closes k) (close_end (close_of k)) some (drop at text))) h))

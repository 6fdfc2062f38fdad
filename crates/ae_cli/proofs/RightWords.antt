-- Right words: clap takes them, and its matches state what they say.
use Rattle.std.proofs.Common.{◌≡◌, ◌≢◌, ◌∙◌, ◌<◌, ◌&&◌, ◌||◌, ◌==◌, ◌^◌, ℕ, Bool, true, false, zero, suc, cond, refl, sym, ap, ap₂, subst, arith, List, [], ◌∷◌, ◌++◌, map, drop, Option, Some, None, codes, inl, inr, append_assoc, append-nil, is_some}
use Rattle.std.specs.Prelude.{if◌then◌else◌, fold, find, nat_lt, option_and_then, slice_get, Result, Ok, Err, IfOk, IfErr, MatchResult}
use Rattle.std.specs.List.{AllByRecursion}
use Rattle.std.specs.Option.{option_map_or}
use Rattle.std.specs.Str.{bytes_eq}
use Rattle.std.specs.Str.Parse.{IsNumeral, digits_value, without_leading_plus}
use Rattle.std.proofs.lemmas.Bool.{ne_eqb, and_parts, or_parts, lt-ltb}
use Rattle.std.proofs.lemmas.List.{map-append}
use Rattle.std.proofs.lemmas.List.Sums.{fold-append}
use Rattle.std.proofs.lemmas.Str.Parse.{digit_from_value}
use Rattle.ae_base.specs.Options.{◌>>=◌, when}
use Rattle.clap.proofs.ValueTestLemmas.{Accepts-accepts}
use Rattle.clap.specs.ValueTests.{accepts}
use Rattle.clap.specs.Lexer.{long_of, long_of_rest, short_of, short_of_rest, strip_byte}
use Rattle.clap.specs.Faults.{bundle_fault, check_fault, defaults_fault, entered_fault, fault_of, flag_word_fault, given_default_fault, settle_fault, step_fault, turn_fault, use_fault, values_fault, walk_fault, word_fault}
use Rattle.clap.specs.Kinds.{Kinds, or_else}
use Rattle.clap.specs.Simple.{App, Shape, built, entered, filled, help_rule, matches_of}
use Rattle.clap.specs.Walk.{Held, Row, Rule, Step, Text, Walk, after_step, at_row, default_rows, finished, first_of, has_row, is_empty, long_or_other, more_values, nothing_held, one_of, option, plain_word, reacted, reading_by, row_text, settled, settled_rows, short_or_plain, trailing, used, walk, walk_from, walked, with_default, with_values, word_met}
use Rattle.clap.specs.declared.builder.value_parser.Reading.{Reading}
use Rattle.clap.specs.declared.builder.value_parser.Reading.TheVariants.{AsWritten}
use Rattle.clap.specs.declared.builder.value_parser.ValueParser.TheVariants.{Unsigned}
use Rattle.clap.specs.declared.parser.matches.ValueSource.TheVariants.{CommandLine, DefaultValue}
use Rattle.ae_cli.specs.declared.options.CliFail.{CliFail}
use Rattle.ae_cli.specs.declared.options.CliFail.TheVariants.{Usage}
use Rattle.ae_cli.specs.declared.options.Options.{Options}
use Rattle.ae_cli.specs.declared.options.Mode.TheVariants.{Prove, Demo}
use Rattle.ae_cli.specs.Program.{AreRefused, States, flag, is_yes, joined_options, mode_of, named, number_in, number_or, numbered, pick_named, pick_or_first, program, stated}
use Rattle.ae_cli.specs.Words.{Use, steps_bound, gen_bound, pick, check, demo, name_of, value_of, pick_name, IsWritten, alone, apart, joined, AreWritten, IsNumberIn, IsInRange, AllDifferent, topic_of, modes, steps_in, generations_in, picks_in, mode_in, said, options_of, AreRight}

-- ---- the command as clap builds it
abbrev app : App
app = built program

abbrev shape : Shape
shape = app.top

abbrev rules : List Rule
rules = shape.rules

abbrev rule_for : Use → Rule
rule_for (steps_bound number) = filled (numbered (codes "steps-bound") 1 1000000)
rule_for (gen_bound number) = filled (numbered (codes "gen-bound") 0 20)
rule_for (pick which) = filled (named (codes "pick"))
rule_for check = filled (flag (codes "check"))
rule_for (demo number) = filled (numbered (codes "demo") 1 10000)

-- the values that a use gives, and those that its row has
abbrev given : Use → List Text
given (steps_bound number) = number ∷ []
given (gen_bound number) = number ∷ []
given (pick which) = pick_name which ∷ []
given check = []
given (demo number) = number ∷ []

abbrev shown : Use → List Text
shown check = codes "true" ∷ []
shown (steps_bound number) = number ∷ []
shown (gen_bound number) = number ∷ []
shown (pick which) = pick_name which ∷ []
shown (demo number) = number ∷ []

abbrev made_row : Text → Reading → List Text → Row
made_row id how values = record { id = id; values = values; count = None; source = Some CommandLine; reading = how }

abbrev row_for : Use → Row
row_for u = made_row (name_of u) AsWritten (shown u)

-- ---- rows
absent : (id : Text) (change : Row → List Row) (missing rs : List Row) → has_row id rs ≡ false → at_row id change missing rs ≡ rs ++ missing
absent id change missing [] h = refl
absent id change missing (r ∷ rs) h =
    let p = or_parts (bytes_eq r.id id) (has_row id rs) h in
    ap (λ b. if b then change r ++ rs else r ∷ at_row id change missing rs) p.0 ∙ ap (λ z. r ∷ z) (absent id change missing rs p.1)

new_row : (id : Text) (how : Reading) (values : List Text) (rs : List Row) → has_row id rs ≡ false
    → with_values id how CommandLine values (at_row id (λ r. []) [] rs) ≡ rs ++ made_row id how values ∷ []
new_row id how values rs h =
    ap (λ z. with_values id how CommandLine values z) (absent id (λ r. []) [] rs h ∙ append-nil rs) ∙ absent id (more_values CommandLine values) (made_row id how values ∷ []) rs h

used_row : (u : Use) (rs : List Row) → has_row (name_of u) rs ≡ false → used (rule_for u) (given u) rs ≡ rs ++ row_for u ∷ []
used_row (steps_bound number) rs h = new_row (codes "steps-bound") AsWritten (number ∷ []) rs h
used_row (gen_bound number) rs h = new_row (codes "gen-bound") AsWritten (number ∷ []) rs h
used_row (pick which) rs h = new_row (codes "pick") AsWritten (pick_name which ∷ []) rs h
used_row check rs h = new_row (codes "check") AsWritten (codes "true" ∷ []) rs h
used_row (demo number) rs h = new_row (codes "demo") AsWritten (number ∷ []) rs h

-- ---- values
no_plus : (ds : List ℕ) → IsNumeral 10 ds → without_leading_plus ds ≡ ds
no_plus [] h = refl
no_plus (d ∷ ds) h =
    let plus : (d == 43) ≡ false = ne_eqb _ _ (λ e. omega (arith, digit_from_value d h.1.0)) in
    ap (λ (b : Bool). drop (cond b 1 0) (d ∷ ds)) plus

accepted : (least most : ℕ) (t : Text) → most < 2 ^ 64 → IsNumberIn least most t → values_fault (filled (numbered [] least most)) (t ∷ []) ≡ []
accepted least most t m h = rw (Accepts-accepts false (Unsigned least most) t (rw (no_plus t h.digits) (h.digits, omega (arith, h.at_most), h.at_least, h.at_most))) refl

use_fine : (u : Use) (rs : List Row) → IsInRange u → has_row (name_of u) rs ≡ false → use_fault false (rule_for u) (given u) rs ≡ []
use_fine (steps_bound t) rs r h = rw (h, accepted 1 1000000 t (omega arith) r) refl
use_fine (gen_bound t) rs r h = rw (h, accepted 0 20 t (omega arith) r) refl
use_fine (pick which) rs r h = rw h refl
use_fine check rs r h = rw h refl
use_fine (demo t) rs r h = rw (h, accepted 1 10000 t (omega arith) r) refl

-- a value begins with no hyphen
pub record BeginsPlain (v : Text) : Type 0 where
  pub first : ℕ
  pub more : List ℕ
  pub is : v ≡ first ∷ more
  pub plain : (first == 45) ≡ false

numeral_plain : (t : Text) → IsNumeral 10 t → BeginsPlain t
numeral_plain [] h = let bad : 0 < 0 = h.0 in absurd (omega arith)
numeral_plain (d ∷ ds) h = record { first = d; more = ds; is = refl; plain = ne_eqb _ _ (λ e. omega (arith, digit_from_value d h.1.0)) }

pick_plain : (n : ℕ) → BeginsPlain (pick_name n)
pick_plain zero = record { first = 102; more = _; is = refl; plain = refl }
pick_plain (suc zero) = record { first = 108; more = _; is = refl; plain = refl }
pick_plain (suc (suc n)) = record { first = 109; more = _; is = refl; plain = refl }

value_plain : (u : Use) (v : Text) → value_of u ≡ Some v → IsInRange u → BeginsPlain v
value_plain (steps_bound t) v e r = let same : t ≡ v = cc in subst BeginsPlain same (numeral_plain t r.digits)
value_plain (gen_bound t) v e r = let same : t ≡ v = cc in subst BeginsPlain same (numeral_plain t r.digits)
value_plain (pick n) v e r = let same : pick_name n ≡ v = cc in subst BeginsPlain same (pick_plain n)
value_plain check v e r = cc
value_plain (demo t) v e r = let same : t ≡ v = cc in subst BeginsPlain same (numeral_plain t r.digits)

value_given : (u : Use) (v : Text) → value_of u ≡ Some v → v ∷ [] ≡ given u
value_given (steps_bound t) v e = let same : t ≡ v = cc in ap (λ z. z ∷ []) (sym same)
value_given (gen_bound t) v e = let same : t ≡ v = cc in ap (λ z. z ∷ []) (sym same)
value_given (pick n) v e = let same : pick_name n ≡ v = cc in ap (λ z. z ∷ []) (sym same)
value_given check v e = cc
value_given (demo t) v e = let same : t ≡ v = cc in ap (λ z. z ∷ []) (sym same)

-- ---- one more use
-- what is held comes to the rows of these uses, and nothing of it is refused
pub record Stands (us : List Use) (h : Held) : Type 0 where
  pub rows : settled_rows rules h.pending h.rows ≡ map row_for us
  pub fine : settle_fault rules false h ≡ []

abbrev IsNew : List Use → Use → Type 0
IsNew us u = has_row (name_of u) (map row_for us) ≡ false

pub record Goes (us : List Use) (h : Held) (words : List Text) : Type 0 where
  pub next : Held
  pub stands : Stands us next
  pub walks : fold (walked rules []) (walk_from h) words ≡ walk_from next
  pub fine : walk_fault shape [] (walk_from h) words ≡ []

abbrev grown : (us : List Use) (u : Use) (h : Held) → Stands us h → IsNew us u → used (rule_for u) (given u) (settled_rows rules h.pending h.rows) ≡ map row_for (us ++ u ∷ [])
grown us u h s n = ap (used (rule_for u) (given u)) s.rows ∙ used_row u (map row_for us) n ∙ sym (map-append row_for us (u ∷ []))

fine_use : (us : List Use) (u : Use) (h : Held) → Stands us h → IsNew us u → IsInRange u → use_fault false (rule_for u) (given u) (settled_rows rules h.pending h.rows) ≡ []
fine_use us u h s n r = ap (use_fault false (rule_for u) (given u)) s.rows ∙ use_fine u (map row_for us) r n

both_none : (a b : Kinds) → a ≡ [] → b ≡ [] → or_else (or_else (or_else a b) []) [] ≡ []
both_none a b p q = ap₂ (λ x y. or_else (or_else (or_else x y) []) []) p q

-- `--name=value`
joined_walks : (u : Use) (v : Text) (h : Held) → value_of u ≡ Some v
    → fold (walked rules []) (walk_from h) ((codes "--" ++ name_of u ++ codes "=" ++ v) ∷ []) ≡ walk_from (reacted rules (rule_for u) (v ∷ []) h)
unfolding walked
joined_walks (steps_bound t) v h e = refl
joined_walks (gen_bound t) v h e = refl
joined_walks (pick n) v h e = refl
joined_walks check v h e = cc
joined_walks (demo t) v h e = refl

joined_fault : (u : Use) (v : Text) (h : Held) → value_of u ≡ Some v
    → walk_fault shape [] (walk_from h) ((codes "--" ++ name_of u ++ codes "=" ++ v) ∷ [])
    ≡ or_else (or_else (or_else (settle_fault rules false h) (use_fault false (rule_for u) (v ∷ []) (settled_rows rules h.pending h.rows))) []) []
unfolding walked walk_fault
joined_fault (steps_bound t) v h e = refl
joined_fault (gen_bound t) v h e = refl
joined_fault (pick n) v h e = refl
joined_fault check v h e = cc
joined_fault (demo t) v h e = refl

joined_goes : (us : List Use) (u : Use) (v : Text) (h : Held) → Stands us h → IsNew us u → IsInRange u → value_of u ≡ Some v
    → Goes (us ++ u ∷ []) h ((codes "--" ++ name_of u ++ codes "=" ++ v) ∷ [])
joined_goes us u v h s n r e = record {
  next = reacted rules (rule_for u) (v ∷ []) h;
  stands = record {
    rows = ap (λ vs. used (rule_for u) vs (settled_rows rules h.pending h.rows)) (value_given u v e) ∙ grown us u h s n;
    fine = refl;
  };
  walks = joined_walks u v h e;
  fine = joined_fault u v h e
      ∙ both_none _ _ s.fine (ap (λ vs. use_fault false (rule_for u) vs (settled_rows rules h.pending h.rows)) (value_given u v e) ∙ fine_use us u h s n r);
}

-- `--check`
check_walks : (h : Held) → fold (walked rules []) (walk_from h) (codes "--check" ∷ []) ≡ walk_from (reacted rules (rule_for check) [] h)
unfolding walked
check_walks h = refl

check_fault_is : (h : Held) → walk_fault shape [] (walk_from h) (codes "--check" ∷ [])
    ≡ or_else (or_else (or_else (settle_fault rules false h) (use_fault false (rule_for check) [] (settled_rows rules h.pending h.rows))) []) []
unfolding walked walk_fault
check_fault_is h = refl

check_goes : (us : List Use) (h : Held) → Stands us h → IsNew us check → Goes (us ++ check ∷ []) h (codes "--check" ∷ [])
check_goes us h s n = record {
  next = reacted rules (rule_for check) [] h;
  stands = record { rows = grown us check h s n; fine = refl };
  walks = check_walks h;
  fine = check_fault_is h ∙ both_none _ _ s.fine (fine_use us check h s n tt);
}

-- `--name value`
abbrev waits_for : Use → Held → Held
waits_for u h = record (settled rules h) { pending = Some (name_of u, []) }

abbrev has_got : Use → Text → Held → Held
has_got u v h = record (settled rules h) { pending = Some (name_of u, v ∷ []) }

abbrev waiting_walk : Use → Held → Walk
waiting_walk u h = record (walk_from (waits_for u h)) { waiting = option (name_of u) }

first_walks : (u : Use) (v : Text) (h : Held) → value_of u ≡ Some v → walked rules [] (walk_from h) (codes "--" ++ name_of u) ≡ waiting_walk u h
unfolding walked
first_walks (steps_bound t) v h e = refl
first_walks (gen_bound t) v h e = refl
first_walks (pick n) v h e = refl
first_walks check v h e = cc
first_walks (demo t) v h e = refl

first_fault : (u : Use) (v : Text) (h : Held) → value_of u ≡ Some v → turn_fault shape [] (walk_from h) (codes "--" ++ name_of u) ≡ or_else (settle_fault rules false h) []
first_fault (steps_bound t) v h e = refl
first_fault (gen_bound t) v h e = refl
first_fault (pick n) v h e = refl
first_fault check v h e = cc
first_fault (demo t) v h e = refl

no_long : (x : ℕ) (xs : List ℕ) → (x == 45) ≡ false → long_of (x ∷ xs) ≡ None
no_long x xs p = ap (λ b. option_and_then long_of_rest (option_and_then (strip_byte 45) (if b then Some xs else None))) p

no_short : (x : ℕ) (xs : List ℕ) → (x == 45) ≡ false → short_of (x ∷ xs) ≡ None
no_short x xs p = ap (λ b. option_and_then short_of_rest (if b then Some xs else None)) p

-- a word that begins with no hyphen is no flag
plain_met : (id : Text) (x : ℕ) (xs : List ℕ) (h : Held) → (x == 45) ≡ false → word_met rules [] false (option id) 1 (x ∷ xs) h ≡ plain_word rules (option id) (x ∷ xs) h
plain_met id x xs h p =
    ap (λ b. if b then (h, trailing 1) else long_or_other rules (option id) (x ∷ xs) (long_of (x ∷ xs)) h) (ap (λ b. b && bytes_eq xs (45 ∷ [])) p)
    ∙ ap (λ l. long_or_other rules (option id) (x ∷ xs) l h) (no_long x xs p)
    ∙ ap (λ s. short_or_plain rules (option id) (x ∷ xs) s h) (no_short x xs p)

plain_fault : (id : Text) (x : ℕ) (xs : List ℕ) (h : Held) → (x == 45) ≡ false → word_fault shape [] false (option id) (x ∷ xs) h ≡ []
plain_fault id x xs h p =
    ap (λ b. if b then [] else flag_word_fault rules false (long_of (x ∷ xs)) (x ∷ xs) h) (ap (λ b. b && bytes_eq xs (45 ∷ [])) p)
    ∙ ap (λ l. flag_word_fault rules false l (x ∷ xs) h) (no_long x xs p)
    ∙ ap (λ s. option_map_or (λ flags. bundle_fault rules false flags h) s []) (no_short x xs p)

abbrev stepped : (u : Use) (word : Text) (h : Held) → Held × Step → Walk
stepped u word h met = after_step rules word (waiting_walk u h) met.0 met.1

second_walks : (u : Use) (w : Text) (x : ℕ) (xs : List ℕ) (h : Held) → value_of u ≡ Some w → (x == 45) ≡ false → walked rules [] (waiting_walk u h) (x ∷ xs) ≡ walk_from (has_got u (x ∷ xs) h)
unfolding walked
second_walks (steps_bound t) w x xs h e p = ap (stepped (steps_bound t) (x ∷ xs) h) (plain_met (codes "steps-bound") x xs (waits_for (steps_bound t) h) p)
second_walks (gen_bound t) w x xs h e p = ap (stepped (gen_bound t) (x ∷ xs) h) (plain_met (codes "gen-bound") x xs (waits_for (gen_bound t) h) p)
second_walks (pick n) w x xs h e p = ap (stepped (pick n) (x ∷ xs) h) (plain_met (codes "pick") x xs (waits_for (pick n) h) p)
second_walks check w x xs h e p = cc
second_walks (demo t) w x xs h e p = ap (stepped (demo t) (x ∷ xs) h) (plain_met (codes "demo") x xs (waits_for (demo t) h) p)

abbrev step_told : Kinds → Held × Step → Kinds
step_told fault met = or_else fault (step_fault shape 1 met.0 met.1)

second_fault : (u : Use) (w : Text) (x : ℕ) (xs : List ℕ) (h : Held) → value_of u ≡ Some w → (x == 45) ≡ false → turn_fault shape [] (waiting_walk u h) (x ∷ xs) ≡ []
second_fault (steps_bound t) w x xs h e p = ap₂ step_told (plain_fault (codes "steps-bound") x xs (waits_for (steps_bound t) h) p) (plain_met (codes "steps-bound") x xs (waits_for (steps_bound t) h) p)
second_fault (gen_bound t) w x xs h e p = ap₂ step_told (plain_fault (codes "gen-bound") x xs (waits_for (gen_bound t) h) p) (plain_met (codes "gen-bound") x xs (waits_for (gen_bound t) h) p)
second_fault (pick n) w x xs h e p = ap₂ step_told (plain_fault (codes "pick") x xs (waits_for (pick n) h) p) (plain_met (codes "pick") x xs (waits_for (pick n) h) p)
second_fault check w x xs h e p = cc
second_fault (demo t) w x xs h e p = ap₂ step_told (plain_fault (codes "demo") x xs (waits_for (demo t) h) p) (plain_met (codes "demo") x xs (waits_for (demo t) h) p)

two_words : (w : Walk) (a b : Text) → walk_fault shape [] w (a ∷ b ∷ []) ≡ or_else (turn_fault shape [] w a) (or_else (turn_fault shape [] (walked rules [] w a) b) [])
unfolding walk_fault
two_words w a b = refl

has_got_rows : (u : Use) (v : Text) (h : Held) → value_of u ≡ Some v → settled_rows rules (has_got u v h).pending (has_got u v h).rows ≡ used (rule_for u) (v ∷ []) (settled_rows rules h.pending h.rows)
has_got_rows (steps_bound t) v h e = refl
has_got_rows (gen_bound t) v h e = refl
has_got_rows (pick n) v h e = refl
has_got_rows check v h e = cc
has_got_rows (demo t) v h e = refl

has_got_fault : (u : Use) (v : Text) (h : Held) → value_of u ≡ Some v → settle_fault rules false (has_got u v h) ≡ use_fault false (rule_for u) (v ∷ []) (settled_rows rules h.pending h.rows)
has_got_fault (steps_bound t) v h e = refl
has_got_fault (gen_bound t) v h e = refl
has_got_fault (pick n) v h e = refl
has_got_fault check v h e = cc
has_got_fault (demo t) v h e = refl

apart_goes : (us : List Use) (u : Use) (v : Text) (h : Held) → Stands us h → IsNew us u → IsInRange u → value_of u ≡ Some v
    → Goes (us ++ u ∷ []) h ((codes "--" ++ name_of u) ∷ v ∷ [])
apart_goes us u v h s n r e =
    let b = value_plain u v e r in
    let second : walked rules [] (waiting_walk u h) v ≡ walk_from (has_got u v h) = subst (λ z. walked rules [] (waiting_walk u h) z ≡ walk_from (has_got u z h)) (sym b.is) (second_walks u v b.first b.more h e b.plain) in
    let none : turn_fault shape [] (waiting_walk u h) v ≡ [] = subst (λ z. turn_fault shape [] (waiting_walk u h) z ≡ []) (sym b.is) (second_fault u v b.first b.more h e b.plain) in
    record {
      next = has_got u v h;
      stands = record {
        rows = has_got_rows u v h e ∙ ap (λ vs. used (rule_for u) vs (settled_rows rules h.pending h.rows)) (value_given u v e) ∙ grown us u h s n;
        fine = has_got_fault u v h e ∙ ap (λ vs. use_fault false (rule_for u) vs (settled_rows rules h.pending h.rows)) (value_given u v e) ∙ fine_use us u h s n r;
      };
      walks = ap (λ w. walked rules [] w v) (first_walks u v h e) ∙ second;
      fine = two_words (walk_from h) (codes "--" ++ name_of u) v
          ∙ ap₂ (λ a w. or_else a (or_else (turn_fault shape [] w v) [])) (first_fault u v h e) (first_walks u v h e)
          ∙ ap₂ (λ a z. or_else (or_else a []) (or_else z [])) s.fine none;
    }

only_check : (u : Use) → value_of u ≡ None → u ≡ check
only_check (steps_bound t) e = cc
only_check (gen_bound t) e = cc
only_check (pick n) e = cc
only_check check e = refl
only_check (demo t) e = cc

use_goes : (us : List Use) (u : Use) (words : List Text) (h : Held) → IsWritten u words → Stands us h → IsNew us u → IsInRange u → Goes (us ++ u ∷ []) h words
use_goes us u words h (alone e) s n r =
    let is = only_check u e in
    subst (λ w. Goes (us ++ w ∷ []) h ((codes "--" ++ name_of w) ∷ [])) (sym is) (check_goes us h s (subst (IsNew us) is n))
use_goes us u words h (apart v e) s n r = apart_goes us u v h s n r e
use_goes us u words h (joined v e) s n r = joined_goes us u v h s n r e

-- ---- all uses
names_apart : (u v : Use) → topic_of u ≢ topic_of v → bytes_eq (name_of u) (name_of v) ≡ false
names_apart (steps_bound a) (steps_bound b) d = absurd (d refl)
names_apart (steps_bound a) (gen_bound b) d = refl
names_apart (steps_bound a) (pick b) d = refl
names_apart (steps_bound a) check d = refl
names_apart (steps_bound a) (demo b) d = refl
names_apart (gen_bound a) (steps_bound b) d = refl
names_apart (gen_bound a) (gen_bound b) d = absurd (d refl)
names_apart (gen_bound a) (pick b) d = refl
names_apart (gen_bound a) check d = refl
names_apart (gen_bound a) (demo b) d = refl
names_apart (pick a) (steps_bound b) d = refl
names_apart (pick a) (gen_bound b) d = refl
names_apart (pick a) (pick b) d = absurd (d refl)
names_apart (pick a) check d = refl
names_apart (pick a) (demo b) d = refl
names_apart check (steps_bound b) d = refl
names_apart check (gen_bound b) d = refl
names_apart check (pick b) d = refl
names_apart check check d = absurd (d refl)
names_apart check (demo b) d = refl
names_apart (demo a) (steps_bound b) d = refl
names_apart (demo a) (gen_bound b) d = refl
names_apart (demo a) (pick b) d = refl
names_apart (demo a) check d = refl
names_apart (demo a) (demo b) d = absurd (d refl)

still_new : (us : List Use) (u v : Use) → IsNew us v → topic_of u ≢ topic_of v → IsNew (us ++ u ∷ []) v
still_new [] u v n d = ap (λ b. b || false) (names_apart u v d)
still_new (w ∷ us) u v n d = let p = or_parts _ _ n in ap₂ (λ a b. a || b) p.0 (still_new us u v p.1 d)

all_still_new : (us : List Use) (u : Use) (vs : List Use) → AllByRecursion (IsNew us) vs → AllByRecursion (λ v. topic_of u ≢ topic_of v) vs → AllByRecursion (IsNew (us ++ u ∷ [])) vs
all_still_new us u [] n d = tt
all_still_new us u (v ∷ vs) n d = (still_new us u v n.0 d.0, all_still_new us u vs n.1 d.1)

all_new : (us : List Use) → AllByRecursion (IsNew []) us
all_new [] = tt
all_new (u ∷ us) = (refl, all_new us)

or_else_assoc : (a b c : Kinds) → or_else a (or_else b c) ≡ or_else (or_else a b) c
or_else_assoc [] b c = refl
or_else_assoc (k ∷ a) b c = refl

fault_append : (w : Walk) (xs ys : List Text) → walk_fault shape [] w (xs ++ ys) ≡ or_else (walk_fault shape [] w xs) (walk_fault shape [] (fold (walked rules []) w xs) ys)
unfolding walk_fault
fault_append w [] ys = refl
fault_append w (x ∷ xs) ys = ap (or_else (turn_fault shape [] w x)) (fault_append (walked rules [] w x) xs ys)
    ∙ or_else_assoc (turn_fault shape [] w x) (walk_fault shape [] (walked rules [] w x) xs) (walk_fault shape [] (fold (walked rules []) (walked rules [] w x) xs) ys)

nothing_more : (us : List Use) (h : Held) → Stands us h → Goes us h []
unfolding walk_fault
nothing_more us h s = record { next = h; stands = s; walks = refl; fine = refl }

uses_go : (done us : List Use) (words : List Text) (h : Held) → AreWritten us words → Stands done h → AllByRecursion (IsNew done) us → AllByRecursion IsInRange us → AllDifferent us
    → Goes (done ++ us) h words
uses_go done [] words h w s n r d = subst (λ z. Goes z h words) (sym (append-nil done)) (subst (Goes done h) (sym w) (nothing_more done h s))
uses_go done (u ∷ us) words h w s n r d =
    let one = use_goes done u w.0 h w.3 s n.0 r.0 in
    let more = uses_go (done ++ u ∷ []) us w.1 one.next w.4 one.stands (all_still_new done u us n.1 d.0) r.1 d.1 in
    subst (Goes (done ++ u ∷ us) h) (sym w.2) (record {
      next = more.next;
      stands = subst (λ z. Stands z more.next) (append_assoc done (u ∷ []) us) more.stands;
      walks = fold-append (walked rules []) (walk_from h) w.0 w.1 ∙ ap (λ z. fold (walked rules []) z w.1) one.walks ∙ more.walks;
      fine = fault_append (walk_from h) w.0 w.1 ∙ ap₂ or_else one.fine (ap (λ z. walk_fault shape [] z w.1) one.walks ∙ more.fine);
    })

-- ---- the end of the words
idle_default : (a : Rule) (rows : List Row) → a.defaults ≡ [] → with_default rows a ≡ rows
idle_default a rows e = ap (λ ds. if has_row a.id rows then rows else default_rows a.id (reading_by a) ds rows) e ∙ go (has_row a.id rows)
  where
    go : (b : Bool) → (if b then rows else rows) ≡ rows
    go true = refl
    go false = refl

no_defaults : (a : Rule) (rest : List Rule) (rows : List Row) → a.defaults ≡ [] → defaults_fault rows (a ∷ rest) ≡ defaults_fault rows rest
unfolding defaults_fault
no_defaults a rest rows e = ap₂ (λ k r. or_else k (defaults_fault r rest)) (ap (λ ds. if has_row a.id rows || is_empty ds then [] else given_default_fault a ds) e ∙ go (has_row a.id rows)) (idle_default a rows e)
  where
    go : (b : Bool) → (if b || true then [] else given_default_fault a []) ≡ []
    go true = refl
    go false = refl

abbrev check_rule : Rule
check_rule = filled (flag (codes "check"))

check_default : (rest : List Rule) (rows : List Row) → defaults_fault rows (check_rule ∷ rest) ≡ defaults_fault (with_default rows check_rule) rest
unfolding defaults_fault
check_default rest rows = ap (λ k. or_else k (defaults_fault (with_default rows check_rule) rest)) (go (has_row (codes "check") rows))
  where
    go : (b : Bool) → (if b || false then [] else given_default_fault check_rule check_rule.defaults) ≡ []
    go true = refl
    go false = refl

no_rules : (rows : List Row) → defaults_fault rows [] ≡ []
unfolding defaults_fault
no_rules rows = refl

defaults_fine : (rows : List Row) → defaults_fault rows rules ≡ []
defaults_fine rows =
    no_defaults _ _ rows refl ∙ no_defaults _ _ rows refl ∙ no_defaults _ _ rows refl ∙ check_default _ rows
    ∙ no_defaults _ _ (with_default rows check_rule) refl ∙ no_defaults _ _ (with_default rows check_rule) refl ∙ no_rules (with_default rows check_rule)

defaults_are : (rows : List Row) → fold with_default rows rules ≡ with_default rows check_rule
defaults_are rows =
    ap (λ z. fold with_default z (filled (numbered (codes "gen-bound") 0 20) ∷ filled (named (codes "pick")) ∷ check_rule ∷ filled (numbered (codes "demo") 1 10000) ∷ filled help_rule ∷ [])) (idle_default (filled (numbered (codes "steps-bound") 1 1000000)) rows refl)
    ∙ ap (λ z. fold with_default z (filled (named (codes "pick")) ∷ check_rule ∷ filled (numbered (codes "demo") 1 10000) ∷ filled help_rule ∷ [])) (idle_default (filled (numbered (codes "gen-bound") 0 20)) rows refl)
    ∙ ap (λ z. fold with_default z (check_rule ∷ filled (numbered (codes "demo") 1 10000) ∷ filled help_rule ∷ [])) (idle_default (filled (named (codes "pick"))) rows refl)
    ∙ ap (λ z. fold with_default z (filled help_rule ∷ [])) (idle_default (filled (numbered (codes "demo") 1 10000)) (with_default rows check_rule) refl)
    ∙ idle_default (filled help_rule) (with_default rows check_rule) refl

-- what is told at the end of a walk
abbrev told : Walk → Kinds → Kinds
told w fault =
    or_else fault (or_else (entered_fault app w.stopped) (or_else (settle_fault rules false w.held) (or_else (defaults_fault (settled rules w.held).rows rules)
    (check_fault shape (finished rules w.held) (is_some (entered app w.stopped))))))

fault_is : (words : List Text) → fault_of program words ≡ told (walk rules [] nothing_held words) (walk_fault shape [] (walk_from nothing_held) words)
fault_is words = refl

told_fine : (us : List Use) (h : Held) → Stands us h → told (walk_from h) [] ≡ []
told_fine us h s = ap₂ (λ a b. or_else a (or_else b [])) s.fine (defaults_fine (settled rules h).rows)

taken : (us : List Use) (words : List Text) → Goes us nothing_held words → fault_of program words ≡ []
taken us words g = fault_is words ∙ ap₂ told g.walks g.fine ∙ told_fine us g.next g.stands

rows_are : (us : List Use) (words : List Text) → Goes us nothing_held words → matches_of program words ≡ with_default (map row_for us) check_rule
rows_are us words g = ap (λ w. finished rules w.held) g.walks ∙ defaults_are (settled rules g.next).rows ∙ ap (λ z. with_default z check_rule) g.stands.rows

-- ---- what the rows state
abbrev row_at : Text → List Row → Option Row
row_at id rows = find (λ r. bytes_eq r.id id) rows

behind_absent : (id : Text) (rs xs : List Row) → has_row id rs ≡ false → row_at id (rs ++ xs) ≡ row_at id xs
behind_absent id [] xs h = refl
behind_absent id (r ∷ rs) xs h =
    let p = or_parts (bytes_eq r.id id) (has_row id rs) h in
    ap (λ b. cond b (Some r) (row_at id (rs ++ xs))) p.0 ∙ behind_absent id rs xs p.1

before_other : (id : Text) (rs : List Row) (x : Row) → bytes_eq x.id id ≡ false → row_at id (rs ++ x ∷ []) ≡ row_at id rs
before_other id [] x e = rw e refl
before_other id (r ∷ rs) x e = ap (cond (bytes_eq r.id id) (Some r)) (before_other id rs x e)

abbrev default_row : Row
default_row = record { id = codes "check"; values = codes "false" ∷ []; count = None; source = Some DefaultValue; reading = AsWritten }

abbrev defaulted : List Row → List Row
defaulted rs = default_rows (codes "check") AsWritten (codes "false" ∷ []) rs

defaulted_is : (rs : List Row) → has_row (codes "check") rs ≡ false → defaulted rs ≡ rs ++ default_row ∷ []
defaulted_is rs e = absent (codes "check") (more_values DefaultValue (codes "false" ∷ [])) (default_row ∷ []) rs e

other_row : (id : Text) (rs : List Row) → bytes_eq (codes "check") id ≡ false → row_at id (with_default rs check_rule) ≡ row_at id rs
other_row id rs other = go (has_row (codes "check") rs) refl
  where
    go : (b : Bool) → has_row (codes "check") rs ≡ b → row_at id (if b then rs else defaulted rs) ≡ row_at id rs
    go true e = refl
    go false e = ap (row_at id) (defaulted_is rs e) ∙ before_other id rs default_row other

-- whether the output is to be checked, by the uses
abbrev has_check : List Use → Bool
has_check [] = false
has_check (steps_bound t ∷ us) = has_check us
has_check (gen_bound t ∷ us) = has_check us
has_check (pick n ∷ us) = has_check us
has_check (check ∷ us) = true
has_check (demo t ∷ us) = has_check us

check_row_is : (us : List Use) → has_row (codes "check") (map row_for us) ≡ has_check us
check_row_is [] = refl
check_row_is (steps_bound t ∷ us) = check_row_is us
check_row_is (gen_bound t ∷ us) = check_row_is us
check_row_is (pick n ∷ us) = check_row_is us
check_row_is (check ∷ us) = refl
check_row_is (demo t ∷ us) = check_row_is us

check_text : (us : List Use) → has_check us ≡ true → first_of (codes "check") (map row_for us) ≡ Some (codes "true")
check_text [] e = let bad : false ≡ true = e in cc
check_text (steps_bound t ∷ us) e = check_text us e
check_text (gen_bound t ∷ us) e = check_text us e
check_text (pick n ∷ us) e = check_text us e
check_text (check ∷ us) e = refl
check_text (demo t ∷ us) e = check_text us e

abbrev first_in : Option Row → Option Text
first_in = option_and_then (λ r. slice_get r.values 0)

check_is : (us : List Use) → is_yes (first_of (codes "check") (with_default (map row_for us) check_rule)) ≡ has_check us
check_is us = go (has_check us) refl
  where
    go : (b : Bool) → has_check us ≡ b → is_yes (first_of (codes "check") (with_default (map row_for us) check_rule)) ≡ b
    go true e =
        let same : with_default (map row_for us) check_rule ≡ map row_for us = ap (λ b. if b then map row_for us else defaulted (map row_for us)) (check_row_is us ∙ e) in
        ap (λ rs. is_yes (first_of (codes "check") rs)) same ∙ ap is_yes (check_text us e)
    go false e =
        let none = check_row_is us ∙ e in
        let same : with_default (map row_for us) check_rule ≡ map row_for us ++ default_row ∷ [] = ap (λ b. if b then map row_for us else defaulted (map row_for us)) none ∙ defaulted_is (map row_for us) none in
        ap (λ rs. is_yes (first_of (codes "check") rs)) same ∙ ap (λ r. is_yes (first_in r)) (behind_absent (codes "check") (map row_for us) (default_row ∷ []) none)

-- ---- numbers
number_read : (bits least most : ℕ) (t : Text) → most < 2 ^ bits → most < 2 ^ 64 → IsNumberIn least most t → number_in bits t ≡ Some (digits_value 10 t)
number_read bits least most t m w h =
    let test : accepts false (Unsigned least most) t ≡ true = Accepts-accepts false (Unsigned least most) t (rw (no_plus t h.digits) (h.digits, omega (arith, h.at_most), h.at_least, h.at_most)) in
    let numeral = (and_parts _ _ test).0 in
    let small : nat_lt (digits_value 10 t) (2 ^ bits) ≡ true = lt-ltb _ _ (omega (arith, h.at_most)) in
    ap₂ (λ a n. when (a && nat_lt n (2 ^ bits)) n) numeral (ap (digits_value 10) (no_plus t h.digits)) ∙ ap (λ b. when b (digits_value 10 t)) small

steps_is : (us : List Use) → AllByRecursion IsInRange us → number_or 64 20000 (one_of (codes "steps-bound") (map row_for us)) ≡ Some (said steps_in 20000 us)
steps_is [] r = refl
steps_is (steps_bound t ∷ us) r = number_read 64 1 1000000 t (omega arith) (omega arith) r.0
steps_is (gen_bound t ∷ us) r = steps_is us r.1
steps_is (pick n ∷ us) r = steps_is us r.1
steps_is (check ∷ us) r = steps_is us r.1
steps_is (demo t ∷ us) r = steps_is us r.1

generations_is : (us : List Use) → AllByRecursion IsInRange us → number_or 32 6 (one_of (codes "gen-bound") (map row_for us)) ≡ Some (said generations_in 6 us)
generations_is [] r = refl
generations_is (steps_bound t ∷ us) r = generations_is us r.1
generations_is (gen_bound t ∷ us) r = number_read 32 0 20 t (omega arith) (omega arith) r.0
generations_is (pick n ∷ us) r = generations_is us r.1
generations_is (check ∷ us) r = generations_is us r.1
generations_is (demo t ∷ us) r = generations_is us r.1

pick_is : (n : ℕ) → n < 3 → pick_named (pick_name n) ≡ Some n
pick_is zero l = refl
pick_is (suc zero) l = refl
pick_is (suc (suc zero)) l = refl
pick_is (suc (suc (suc n))) l = absurd (omega arith)

picks_are : (us : List Use) → AllByRecursion IsInRange us → pick_or_first (first_of (codes "pick") (map row_for us)) ≡ Some (said picks_in 0 us)
picks_are [] r = refl
picks_are (steps_bound t ∷ us) r = picks_are us r.1
picks_are (gen_bound t ∷ us) r = picks_are us r.1
picks_are (pick n ∷ us) r = pick_is n r.0
picks_are (check ∷ us) r = picks_are us r.1
picks_are (demo t ∷ us) r = picks_are us r.1

abbrev NoModes : List Use → Type 0
NoModes us = AllByRecursion (λ v. modes ≢ topic_of v) us

no_check : (us : List Use) → NoModes us → has_check us ≡ false
no_check [] d = refl
no_check (steps_bound t ∷ us) d = no_check us d.1
no_check (gen_bound t ∷ us) d = no_check us d.1
no_check (pick n ∷ us) d = no_check us d.1
no_check (check ∷ us) d = absurd (d.0 refl)
no_check (demo t ∷ us) d = absurd (d.0 refl)

no_demo : (us : List Use) → NoModes us → one_of (codes "demo") (map row_for us) ≡ None
no_demo [] d = refl
no_demo (steps_bound t ∷ us) d = no_demo us d.1
no_demo (gen_bound t ∷ us) d = no_demo us d.1
no_demo (pick n ∷ us) d = no_demo us d.1
no_demo (check ∷ us) d = absurd (d.0 refl)
no_demo (demo t ∷ us) d = absurd (d.0 refl)

mode_is : (us : List Use) → AllByRecursion IsInRange us → AllDifferent us → mode_of (has_check us) (one_of (codes "demo") (map row_for us)) ≡ Some (said mode_in Prove us)
mode_is [] r d = refl
mode_is (steps_bound t ∷ us) r d = mode_is us r.1 d.1
mode_is (gen_bound t ∷ us) r d = mode_is us r.1 d.1
mode_is (pick n ∷ us) r d = mode_is us r.1 d.1
mode_is (check ∷ us) r d = ap (mode_of true) (no_demo us d.0)
mode_is (demo t ∷ us) r d =
    ap (λ b. mode_of b (Some t)) (no_check us d.0)
    ∙ ap (λ o. o >>= λ goals. cond false None (Some (Demo goals))) (number_read 32 1 10000 t (omega arith) (omega arith) r.0)

abbrev one_in : Option Row → Option Text
one_in = option_and_then row_text

stated_is : (us : List Use) → AllByRecursion IsInRange us → AllDifferent us → stated (with_default (map row_for us) check_rule) ≡ Some (options_of us)
stated_is us r d =
    let a = ap (λ o. number_or 64 20000 (one_in o)) (other_row (codes "steps-bound") (map row_for us) refl) ∙ steps_is us r in
    let b = ap (λ o. number_or 32 6 (one_in o)) (other_row (codes "gen-bound") (map row_for us) refl) ∙ generations_is us r in
    let c = ap (λ o. pick_or_first (first_in o)) (other_row (codes "pick") (map row_for us) refl) ∙ picks_are us r in
    let e = ap₂ (λ x o. mode_of x (one_in o)) (check_is us) (other_row (codes "demo") (map row_for us) refl) ∙ mode_is us r d in
    ap₂ (λ x y. joined_options x y (pick_or_first (first_of (codes "pick") (with_default (map row_for us) check_rule))) (mode_of (is_yes (first_of (codes "check") (with_default (map row_for us) check_rule))) (one_of (codes "demo") (with_default (map row_for us) check_rule)))) a b
    ∙ ap₂ (λ x y. joined_options (Some (said steps_in 20000 us)) (Some (said generations_in 6 us)) x y) c e

-- clap takes right words, and they state what they say
pub right_words : (words : List Text) (o : Options) → AreRight words o → States words o
right_words words o right =
    let g = uses_go [] right.uses words nothing_held right.written (record { rows = refl; fine = refl }) (all_new right.uses) right.in_range right.different in
    record { taken = taken right.uses words g; say = ap stated (rows_are right.uses words g) ∙ stated_is right.uses right.in_range right.different ∙ ap Some (sym right.stated) }

some_is_not_none : (o : Options) → ◌≡◌ {A = Option Options} (Some o) None → ⊥
some_is_not_none o e = cc

pub refused_states_nothing : (words : List Text) (o : Options) → AreRefused words → States words o → ⊥
refused_states_nothing words o (inl fault) s = fault s.taken
refused_states_nothing words o (inr none) s = some_is_not_none o (sym s.say ∙ none)

pub one_stated : (words : List Text) (o p : Options) → States words o → States words p → o ≡ p
one_stated words o p a b = let same : Some o ≡ Some p = sym a.say ∙ b.say in cc

-- ---- what is answered
pub states : (words : List Text) (r : Result Options CliFail) → IfOk r (λ o. fault_of program words ≡ []) → IfOk r (λ o. stated (matches_of program words) ≡ Some o) → IfOk r (States words)
states words (Ok o) t s = record { taken = t; say = s }
states words (Err e) t s = tt

-- what is answered by clap's matches is what right words say
pub answered : (words : List Text) (r : Result Options CliFail) → IfOk r (States words) → IfErr r (λ e. e ≡ Usage → AreRefused words)
    → (o : Options) → AreRight words o → MatchResult r (λ given. given ≡ o) (λ e. e ≢ Usage)
answered words (Ok x) s u o h = one_stated words x o s (right_words words o h)
answered words (Err e) s u o h = λ is. refused_states_nothing words o (u is) (right_words words o h)

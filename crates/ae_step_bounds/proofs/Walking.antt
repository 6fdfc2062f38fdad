-- The walk of clap over words: where nothing is refused, rows that pass go on to pass.
use Rattle.std.specs.Prelude.{ℕ, zero, suc, ◌&&◌, Bool, true, false, not, List, [], ◌∷◌, ◌≡◌, drop, length, Option, Some, None, encode_utf8, slice_get, fold, is_some, if◌then◌else◌}
use Rattle.std.specs.List.{AllByRecursion}
use Rattle.std.specs.Option.{option_map_or}
use Rattle.std.specs.Str.{bytes_eq, chars}
use Rattle.clap.specs.Faults.{bundle_fault, bundle_step_fault, flag_word_fault, flags_fault, long_fault, option_fault, other_fault, positional_fault, react_fault, settle_fault, short_fault, step_fault, stray_fault, turn_fault, use_fault, walk_fault, word_fault}
use Rattle.clap.specs.Kinds.{Kinds, or_else}
use Rattle.clap.specs.Lexer.{long_of, short_of}
use Rattle.clap.specs.Simple.{Shape}
use Rattle.clap.specs.Walk.{Held, Names, Outcome, Rule, Step, Text, Waiting, Walk, after_flag, after_step, arg_by_id, arg_by_index, arg_by_long, arg_by_short, attached_value, bundle, bundle_met, bundle_step, flag_met, has_long, has_short, is_pending, long_met, long_or_other, option_met, option_word, plain_word, reacted, settled, short_met, short_or_plain, subcommand_met, subcommand_or_other, takes_several, takes_values, to_positional, walked, walked_from, word_met}
use Rattle.clap.specs.Walk.{done, waits, plain, refused}
use Rattle.clap.specs.Walk.{idle, option, positional}
use Rattle.clap.specs.Walk.{next, trailing, subcommand, value}
use Rattle.ae_step_bounds.proofs.Rows.{AllPass, Fits, IfFits, found, none_both, settled_pass, used_passes}

module _ (c : List Rule) (again : Bool) (fits : AllByRecursion Fits c) where
  pub settles : (h : Held) → settle_fault c again h ≡ [] → AllPass h.rows → AllPass (settled c h).rows
  settles h e p = settled_pass c again h.pending h.rows fits e p

  reacts : (a : Rule) (vs : List Text) (h : Held) → Fits a → react_fault c again a vs h ≡ [] → AllPass h.rows → AllPass (reacted c a vs h).rows
  reacts a vs h f e p =
      let parts = none_both (settle_fault c again h) (use_fault again a vs (settled c h).rows) e in
      used_passes again a vs (settled c h).rows f parts.1 (settles h parts.0 p)

  -- ---- flags
  option_passes : (a : Rule) (v : Option Text) (h : Held) → Fits a → option_fault c again a v h ≡ [] → AllPass h.rows → AllPass (option_met c a v h).0.rows
  option_passes a None h f e p = settles h e p
  option_passes a (Some v) h f e p = reacts a (v ∷ []) h f e p

  flag_passes : (a : Rule) (v : Option Text) (h : Held) (k : Kinds) → Fits a → (if is_some v then k else react_fault c again a [] h) ≡ [] → AllPass h.rows → AllPass (flag_met c a v h).0.rows
  flag_passes a None h k f e p = reacts a [] h f e p
  flag_passes a (Some v) h k f e p = p

  long_by : (b : Bool) (a : Rule) (v : Option Text) (h : Held) (k : Kinds) → Fits a → (if b then option_fault c again a v h else (if is_some v then k else react_fault c again a [] h)) ≡ [] → AllPass h.rows
      → AllPass (if b then option_met c a v h else flag_met c a v h).0.rows
  long_by true a v h k f e p = option_passes a v h f e p
  long_by false a v h k f e p = flag_passes a v h k f e p

  long_passes : (o : Option Rule) (v : Option Text) (h : Held) → IfFits o → long_fault c again o v h ≡ [] → AllPass h.rows → AllPass (long_met c o v h).0.rows
  long_passes None v h f e p = p
  long_passes (Some a) v h f e p = long_by (takes_values a) a v h _ f e p

  short_by : (b : Bool) (a : Rule) (rest : Text) (h : Held) (go : Held → Held × Outcome) (fault : Held → Kinds) → Fits a
      → ((j : Held) → fault j ≡ [] → AllPass j.rows → AllPass (go j).0.rows)
      → (if b then option_fault c again a (attached_value rest) h else or_else (react_fault c again a [] h) (fault (reacted c a [] h))) ≡ [] → AllPass h.rows
      → AllPass (if b then option_met c a (attached_value rest) h else go (reacted c a [] h)).0.rows
  short_by true a rest h go fault f on e p = option_passes a (attached_value rest) h f e p
  short_by false a rest h go fault f on e p =
      let parts = none_both (react_fault c again a [] h) (fault (reacted c a [] h)) e in
      on (reacted c a [] h) parts.1 (reacts a [] h f parts.0 p)

  short_passes : (o : Option Rule) (rest : Text) (h : Held) (go : Held → Held × Outcome) (fault : Held → Kinds) → IfFits o
      → ((j : Held) → fault j ≡ [] → AllPass j.rows → AllPass (go j).0.rows) → short_fault c again o rest h fault ≡ [] → AllPass h.rows → AllPass (short_met c o rest h go).0.rows
  short_passes None rest h go fault f on e p = p
  short_passes (Some a) rest h go fault f on e p = short_by (takes_values a) a rest h go fault f on e p

  -- the flags after the first, as they go on
  abbrev GoOn : (Text → ℕ → Outcome → Held → Held × Outcome) → (Text → ℕ → Held → Kinds) → Type 0
  GoOn go fault = (flags : Text) (skip : ℕ) (so_far : Outcome) (h : Held) → fault flags skip h ≡ [] → AllPass h.rows → AllPass (go flags skip so_far h).0.rows

  bundle_by : (o : Option ℕ) (flags : Text) (skip : ℕ) (so_far : Outcome) (h : Held) (go : Text → ℕ → Outcome → Held → Held × Outcome) (fault : Text → ℕ → Held → Kinds) → GoOn go fault
      → bundle_step_fault c again o flags skip h fault ≡ [] → AllPass h.rows → AllPass (bundle_step c o flags skip so_far h go).0.rows
  bundle_by None flags skip so_far h go fault on e p = p
  bundle_by (Some x) flags zero so_far h go fault on e p =
      let rest = drop (length (encode_utf8 x)) flags in
      short_passes (arg_by_short c x) rest h (go rest 0 done) (fault rest 0) (found (λ a. not (is_some a.index) && has_short a x) c fits) (λ j. on rest 0 done j) e p
  bundle_by (Some x) flags (suc skip) so_far h go fault on e p = on (drop (length (encode_utf8 x)) flags) skip so_far h e p

  bundle_passes : (k : ℕ) → GoOn (bundle_met c k) (flags_fault c again k)
  unfolding bundle_met flags_fault
  bundle_passes zero flags skip so_far h e p = p
  bundle_passes (suc k) flags skip so_far h e p = bundle_by (slice_get (chars flags) 0) flags skip so_far h (bundle_met c k) (flags_fault c again k) (bundle_passes k) e p

  -- ---- words
  option_same : (o : Option Rule) (id word : Text) (h : Held) → AllPass h.rows → AllPass (option_word o id word h).0.rows
  option_same None id word h p = p
  option_same (Some a) id word h p = p

  plain_same : (w : Waiting) (word : Text) (h : Held) → AllPass h.rows → AllPass (plain_word c w word h).0.rows
  plain_same idle word h p = p
  plain_same (option id) word h p = option_same (arg_by_id c id) id word h p
  plain_same positional word h p = p

  flag_same : (w : Waiting) (word : Text) (h : Held) (o : Outcome) → AllPass h.rows → AllPass (after_flag c w word h o).0.rows
  flag_same w word h done p = p
  flag_same w word h (waits id) p = p
  flag_same w word h plain p = plain_same w word h p
  flag_same w word h refused p = plain_same w word h p

  short_word_passes : (w : Waiting) (word : Text) (o : Option Text) (h : Held) → option_map_or (λ flags. bundle_fault c again flags h) o [] ≡ [] → AllPass h.rows
      → AllPass (short_or_plain c w word o h).0.rows
  short_word_passes w word None h e p = plain_same w word h p
  short_word_passes w word (Some flags) h e p =
      flag_same w word (bundle c flags h).0 (bundle c flags h).1 (bundle_passes (length flags) flags h.skip plain (record h { skip = 0 }) e p)

  flag_word_passes : (w : Waiting) (word : Text) (o : Option (Text × Option Text)) (h : Held) → flag_word_fault c again o word h ≡ [] → AllPass h.rows → AllPass (long_or_other c w word o h).0.rows
  flag_word_passes w word None h e p = short_word_passes w word (short_of word) h e p
  flag_word_passes w word (Some q) h e p =
      let met = long_met c (arg_by_long c q.0) q.1 h in
      flag_same w word met.0 met.1 (long_passes (arg_by_long c q.0) q.1 h (found (λ a. not (is_some a.index) && has_long a q.0) c fits) e p)

  dash_by : (b : Bool) (w : Waiting) (position : ℕ) (word : Text) (h : Held) → (if b then [] else flag_word_fault c again (long_of word) word h) ≡ [] → AllPass h.rows
      → AllPass (if b then (h, trailing position) else long_or_other c w word (long_of word) h).0.rows
  dash_by true w position word h e p = p
  dash_by false w position word h e p = flag_word_passes w word (long_of word) h e p

  positional_by : (b : Bool) (h : Held) → (if b then [] else settle_fault c again h) ≡ [] → AllPass h.rows → AllPass (if b then h else settled c h).rows
  positional_by true h e p = p
  positional_by false h e p = settles h e p

  taken_by : (o : Option Rule) (word : Text) (w : Walk) (h : Held) (k : Kinds) → option_map_or (λ a. positional_fault c again a h) o k ≡ [] → AllPass h.rows → AllPass (to_positional c o word w h).held.rows
  taken_by None word w h k e p = p
  taken_by (Some a) word w h k e p = positional_by (is_pending a h.pending && takes_several a) h e p

module _ (s : Shape) (names : Names) (fits : AllByRecursion Fits s.rules) where
  abbrev again : Bool
  again = s.args_override_self

  other_passes : (o : Option Text) (w : Waiting) (position : ℕ) (word : Text) (h : Held) → other_fault s o word h ≡ [] → AllPass h.rows
      → AllPass (subcommand_or_other s.rules o w position word h).0.rows
  other_passes None w position word h e p = dash_by s.rules again fits (bytes_eq word (45 ∷ 45 ∷ [])) w position word h e p
  other_passes (Some name) w position word h e p = p

  word_by : (b : Bool) (w : Waiting) (position : ℕ) (word : Text) (h : Held) → (if b then [] else other_fault s (subcommand_met names w word) word h) ≡ [] → AllPass h.rows
      → AllPass (if b then (h, value) else subcommand_or_other s.rules (subcommand_met names w word) w position word h).0.rows
  word_by true w position word h e p = p
  word_by false w position word h e p = other_passes (subcommand_met names w word) w position word h e p

  step_passes : (word : Text) (w : Walk) (h : Held) (x : Step) → step_fault s w.position h x ≡ [] → AllPass h.rows → AllPass (after_step s.rules word w h x).held.rows
  step_passes word w h (next v) e p = p
  step_passes word w h (trailing n) e p = p
  step_passes word w h (subcommand name) e p = p
  step_passes word w h value e p = taken_by s.rules again fits (arg_by_index s.rules w.position) word w h (stray_fault s) e p

  turn_by : (o : Option (Text × List Text)) (w : Walk) (word : Text)
      → (if is_some o then [] else or_else (word_fault s names w.is_trailing w.waiting word w.held)
      (step_fault s w.position (word_met s.rules names w.is_trailing w.waiting w.position word w.held).0 (word_met s.rules names w.is_trailing w.waiting w.position word w.held).1)) ≡ []
      → AllPass w.held.rows → AllPass (walked_from s.rules names o w word).held.rows
  turn_by (Some q) w word e p = p
  turn_by None w word e p =
      let met = word_met s.rules names w.is_trailing w.waiting w.position word w.held in
      let parts = none_both (word_fault s names w.is_trailing w.waiting word w.held) (step_fault s w.position met.0 met.1) e in
      step_passes word w met.0 met.1 parts.1 (word_by w.is_trailing w.waiting w.position word w.held parts.0 p)

  turn_passes : (w : Walk) (word : Text) → turn_fault s names w word ≡ [] → AllPass w.held.rows → AllPass (walked s.rules names w word).held.rows
  unfolding walked
  turn_passes w word e p = turn_by w.stopped w word e p

  pub walk_passes : (words : List Text) (w : Walk) → walk_fault s names w words ≡ [] → AllPass w.held.rows → AllPass (fold (walked s.rules names) w words).held.rows
  unfolding walk_fault
  walk_passes [] w e p = p
  walk_passes (word ∷ rest) w e p =
      let parts = none_both (turn_fault s names w word) (walk_fault s names (walked s.rules names w word) rest) e in
      walk_passes rest (walked s.rules names w word) parts.1 (turn_passes w word parts.0 p)

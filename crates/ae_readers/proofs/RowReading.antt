-- Lists and lines as codes read them, value by value.
use Rattle.std.proofs.Common.{ℕ, ◌⊎◌, Bool, true, false, nat_eq, List, [], ◌∷◌, ◌++◌, ◌≡◌, drop, refl, sym, ap, ◌∙◌, append_assoc}
use mathlib.Core.Logic.{inl, inr}
use Rattle.std.proofs.lemmas.Bool.{eqb-true}
use Rattle.ae_codes.specs.Codes.{Read, got, stops, wide, Code, Begins, both, mapped, sent, words, one}
use Rattle.ae_codes.specs.Nested.{Shaped}
use Rattle.ae_codes.specs.Rows.{Row, Tail, on, row_list, row_to, row_from, raw_row, row_back, row_reads, rows, ItemShape, item_closes, item_long, tail, on_row, on_code, empty, alone}
use Rattle.ae_codes.specs.Plans.{Inner, Plan, fixed, sequence, choice, sends, in_row, inside, coded, coded_shaped, coded_reads}
use Rattle.ae_codes.specs.Listings.{is_byte, listing, following, some, list_to, list_from, list_back, some_from, some_back, end_begins, row_begins, after_to, after_from, after_back, blank_begins}
use Rattle.ae_codes.specs.Listings.{headed, more_or}
use Rattle.ae_codes.specs.Repeats.{repeated, repeat_layers, rest_plan, more, Rest, repeat_to, repeat_from, repeat_back, of_rest}
use Rattle.ae_readers.specs.Readers.{FaultIs, after_read, fixed_read, row_read, more_read, before, end_or, list_read, behind_read, step_read, steps_before}
use Rattle.ae_readers.specs.declared.fault.Fault.{Fault}
use Rattle.ae_readers.specs.declared.fault.Fault.TheVariants.{At, WideNumber, Memory}
use Rattle.ae_readers.proofs.Combinators.{after_after, mapped_is, both_is, one_is, one_none, on_side}
use Rattle.ae_readers.proofs.WordReading.{alone_is}

-- ---- a row, value by value
module _ {X : Type 0} (last : ℕ) (other : nat_eq last 32 ≡ false) (item : Code ((x : X) × ℕ)) (x0 : X) (sh : Shaped (ItemShape last) (x0, last) item) where
  abbrev of_rows : Code (Row X)
  of_rows = rows last other item x0 sh

  abbrev with_tail : ((x : X) × ℕ) → Tail X → List ℕ → Read ((v : (x : X) × ℕ) × Tail X)
  with_tail v t end = got (v, t) end

  abbrev as_row : ((v : (x : X) × ℕ) × Tail X) → List ℕ → Read (Row X)
  as_row v end = got (row_to v) end

  abbrev as_list : Row X → List ℕ → Read (List X)
  as_list r end = got (row_list r) end

  tail_on : (v : (x : X) × ℕ) (r : Read (Row X)) → after_read (after_read (after_read (sent on (on_row of_rows) of_rows (λ a f. refl) r) (with_tail v)) as_row) as_list ≡ after_read (after_read r as_list) (λ xs end. got (v.0 ∷ xs) end)
  tail_on v (got r rest) = refl
  tail_on v (stops r) = refl
  tail_on v (wide r) = refl

  tail_by : (v : (x : X) × ℕ) (b : Bool) (rest : List ℕ) → after_read (after_read (after_read ((tail of_rows b).read rest) (with_tail v)) as_row) as_list ≡ more_read b v.0 (row_read of_rows rest) rest
  unfolding tail on_code mapped empty
  tail_by v true rest = tail_on v (of_rows.read rest)
  tail_by v false rest = refl

  values_by : (r : Read ((x : X) × ℕ)) → after_read (after_read (after_read r (λ v rest. after_read ((tail of_rows (nat_eq v.1 32)).read rest) (with_tail v))) as_row) as_list
      ≡ after_read r (λ v rest. more_read (nat_eq v.1 32) v.0 (row_read of_rows rest) rest)
  values_by (got v rest) = tail_by v (nat_eq v.1 32) rest
  values_by (stops r) = refl
  values_by (wide r) = refl

  pub row_turn : (bytes : List ℕ) → row_read of_rows bytes ≡ after_read (item.read bytes) (λ v rest. more_read (nat_eq v.1 32) v.0 (row_read of_rows rest) rest)
  row_turn bytes =
      ap (λ r. after_read r as_list) (row_reads last other item (item_closes last other item x0 sh) x0 sh.has (item_long last other item x0 sh) bytes
      ∙ mapped_is row_to (row_from last) (raw_row last other item of_rows) (row_back last other item (item_closes last other item x0 sh) of_rows) bytes
      ∙ ap (λ r. after_read r as_row) (both_is item (λ v. tail of_rows (nat_eq v.1 32)) bytes))
      ∙ values_by (item.read bytes)

-- ---- as far as a loop has come
module _ {X : Type 0} where
  pub before_none : (r : Read (List X)) → r ≡ before [] r
  before_none (got xs rest) = refl
  before_none (stops r) = refl
  before_none (wide r) = refl

  before_one : (xs : List X) (x : X) (r : Read (List X)) → before xs (after_read r (λ ys end. got (x ∷ ys) end)) ≡ before (xs ++ x ∷ []) r
  before_one xs x (got ys rest) = ap (λ z. got z rest) (sym (append_assoc xs (x ∷ []) ys))
  before_one xs x (stops r) = refl
  before_one xs x (wide r) = refl

  module _ (c : Code (Row X)) (item : Code ((x : X) × ℕ)) (turn : (bytes : List ℕ) → row_read c bytes ≡ after_read (item.read bytes) (λ v rest. more_read (nat_eq v.1 32) v.0 (row_read c rest) rest))
      (text : List ℕ) (from at : ℕ) (xs : List X) (so_far : row_read c (drop from text) ≡ before xs (row_read c (drop at text))) where
    one_value : (v : (x : X) × ℕ) (next : ℕ) (b : Bool) → item.read (drop at text) ≡ got v (drop next text) → nat_eq v.1 32 ≡ b
        → row_read c (drop from text) ≡ before xs (more_read b v.0 (row_read c (drop next text)) (drop next text))
    one_value v next b e q =
        so_far ∙ ap (before xs) (turn (drop at text) ∙ ap (λ r. after_read r (λ v rest. more_read (nat_eq v.1 32) v.0 (row_read c rest) rest)) e
        ∙ ap (λ b. more_read b v.0 (row_read c (drop next text)) (drop next text)) q)

    pub goes_on : (v : (x : X) × ℕ) (next : ℕ) → item.read (drop at text) ≡ got v (drop next text) → nat_eq v.1 32 ≡ true → row_read c (drop from text) ≡ before (xs ++ v.0 ∷ []) (row_read c (drop next text))
    goes_on v next e q = one_value v next true e q ∙ before_one xs v.0 (row_read c (drop next text))

    pub ends_here : (v : (x : X) × ℕ) (next : ℕ) → item.read (drop at text) ≡ got v (drop next text) → nat_eq v.1 32 ≡ false → row_read c (drop from text) ≡ got (xs ++ v.0 ∷ []) (drop next text)
    ends_here v next e q = one_value v next false e q

    no_value : (r : Read ((x : X) × ℕ)) → item.read (drop at text) ≡ r → row_read c (drop from text) ≡ before xs (after_read r (λ v rest. more_read (nat_eq v.1 32) v.0 (row_read c rest) rest))
    no_value r e = so_far ∙ ap (before xs) (turn (drop at text) ∙ ap (λ r. after_read r (λ v rest. more_read (nat_eq v.1 32) v.0 (row_read c rest) rest)) e)

    pub faulty : (f : Fault) → FaultIs text f (item.read (drop at text)) → FaultIs text f (row_read c (drop from text))
    faulty (At p) e = no_value (stops (drop p text)) e
    faulty (WideNumber p) e = no_value (wide (drop p text)) e
    faulty Memory e = tt

-- ---- lists in a layer
module _ {I : Type 0} {T : I → Type 0} (Shape : (i : I) → T i → List ℕ → Type 0) (sure : (i : I) → T i) {X : Type 0} (last : ℕ) (other : nat_eq last 32 ≡ false) (p : Plan Shape sure ((x : X) × ℕ)) (x0 : X)
    (sh : (c : (i : I) → Code (T i)) (h : Inner Shape sure c) → Shaped (ItemShape last) (x0, last) (p.make c h)) (c : (i : I) → Code (T i)) (h : Inner Shape sure c) where
  abbrev made_rows : Code (Row X)
  made_rows = rows last other (p.make c h) x0 (sh c h)

  abbrev as_listed : Unit {0} ⊎ Row X → List ℕ → Read (List X)
  as_listed v end = got (list_to v) end

  abbrev closing_word : Code (Unit {0})
  closing_word = alone {A = Unit {0}} tt (last ∷ [])

  last_read : (xs : List ℕ) → (alone {A = Unit {0}} tt (last ∷ [])).read (last ∷ xs) ≡ got tt xs
  unfolding alone words
  last_read xs = (alone {A = Unit {0}} tt (last ∷ [])).again tt xs refl

  listed_by : (b : Bool) (x : ℕ) (xs : List ℕ) → nat_eq x last ≡ b → after_read (on_side b ((alone {A = Unit {0}} tt (last ∷ [])).read (x ∷ xs)) (made_rows.read (x ∷ xs))) as_listed ≡ end_or b xs (row_read made_rows (x ∷ xs))
  listed_by true x xs e = let s = eqb-true x last e in ap (λ z. after_read (after_read ((alone {A = Unit {0}} tt (last ∷ [])).read (z ∷ xs)) (λ a rest. got (inl a) rest)) as_listed) s
      ∙ ap (λ r. after_read (after_read r (λ a rest. got (inl a) rest)) as_listed) (last_read xs)
  listed_by false x xs e = after_after (made_rows.read (x ∷ xs)) (λ a rest. got (inr a) rest) as_listed

  pub some_is : (bytes : List ℕ) → ((some Shape sure last other p x0 sh).make c h).read bytes ≡ row_read made_rows bytes
  unfolding some sends in_row
  some_is bytes = mapped_is row_list (some_from x0) made_rows (λ a f. some_back x0 a) bytes

  pub listing_is : (begins : (c : (i : I) → Code (T i)) (h : Inner Shape sure c) → Begins (p.make c h) (is_byte last) false) (bytes : List ℕ)
      → ((listing Shape sure last other p x0 sh begins).make c h).read bytes ≡ list_read last made_rows bytes
  unfolding listing sends choice fixed in_row
  listing_is begins [] =
      let closed = end_begins Shape sure last other p x0 sh c h in
      let valued = row_begins Shape sure last other p x0 sh begins c h in
      mapped_is list_to list_from (one (is_byte last) closing_word made_rows closed valued) (λ a f. list_back a) []
      ∙ ap (λ r. after_read r as_listed) (one_none (is_byte last) closing_word made_rows closed valued)
  listing_is begins (x ∷ xs) =
      let closed = end_begins Shape sure last other p x0 sh c h in
      let valued = row_begins Shape sure last other p x0 sh begins c h in
      mapped_is list_to list_from (one (is_byte last) closing_word made_rows closed valued) (λ a f. list_back a) (x ∷ xs)
      ∙ ap (λ r. after_read r as_listed) (one_is (is_byte last) closing_word made_rows closed valued x xs)
      ∙ listed_by (nat_eq x last) x xs refl

  abbrev Behind : Type 0
  Behind = (u : Unit {0}) × Row X

  abbrev behind_unit : Unit {0} → Row X → List ℕ → Read Behind
  behind_unit u r end = got (u, r) end

  abbrev as_behind : Unit {0} ⊎ Behind → List ℕ → Read (List X)
  as_behind v end = got (after_to Shape sure last other p x0 sh v) end

  blank_behind : (r : Read (Unit {0})) → after_read (after_read (after_read r (λ u rest. after_read (made_rows.read rest) (behind_unit u))) (λ a rest. got (inr a) rest)) as_behind ≡ after_read r (λ u rest. row_read made_rows rest)
  blank_behind (got u rest) = go (made_rows.read rest)
    where
      go : (r : Read (Row X)) → after_read (after_read (after_read r (behind_unit u)) (λ a rest. got (inr a) rest)) as_behind ≡ after_read r (λ r rest. got (row_list r) rest)
      go (got r rest) = refl
      go (stops r) = refl
      go (wide r) = refl
  blank_behind (stops r) = refl
  blank_behind (wide r) = refl

  unit_read : (r : Read (Unit {0})) → after_read r (λ u rest. got tt rest) ≡ r
  unit_read (got u rest) = refl
  unit_read (stops r) = refl
  unit_read (wide r) = refl

  behind_by : (b : Bool) (x : ℕ) (xs : List ℕ) (r : Read Behind) → nat_eq x last ≡ b → r ≡ after_read (fixed_read (32 ∷ []) (x ∷ xs)) (λ u rest. after_read (made_rows.read rest) (behind_unit u))
      → after_read (on_side b ((alone {A = Unit {0}} tt (last ∷ [])).read (x ∷ xs)) r) as_behind ≡ end_or b xs (after_read (fixed_read (32 ∷ []) (x ∷ xs)) (λ u rest. row_read made_rows rest))
  behind_by true x xs r e q = let s = eqb-true x last e in ap (λ z. after_read (after_read ((alone {A = Unit {0}} tt (last ∷ [])).read (z ∷ xs)) (λ a rest. got (inl a) rest)) as_behind) s
      ∙ ap (λ r. after_read (after_read r (λ a rest. got (inl a) rest)) as_behind) (last_read xs)
  behind_by false x xs r e q = ap (λ r. after_read (after_read r (λ a rest. got (inr a) rest)) as_behind) q ∙ blank_behind (fixed_read (32 ∷ []) (x ∷ xs))

  abbrev to_list : Unit {0} ⊎ Behind → List X
  to_list = after_to Shape sure last other p x0 sh

  abbrev from_list : List X → Unit {0} ⊎ Behind
  from_list = after_from Shape sure last other p x0 sh

  abbrev blank_word : Code (Unit {0})
  blank_word = alone {A = Unit {0}} tt (32 ∷ [])

  abbrev blank_rows : Code Behind
  blank_rows = both blank_word (λ u. made_rows)

  pub following_is : (bytes : List ℕ) → ((following Shape sure last other p x0 sh).make c h).read bytes ≡ behind_read last made_rows bytes
  unfolding following sends choice sequence fixed in_row
  following_is [] =
      let closed = end_begins Shape sure last other p x0 sh c h in
      let valued = blank_begins Shape sure last other p x0 sh c h in
      mapped_is to_list from_list (one (is_byte last) closing_word blank_rows closed valued) (λ a f. after_back Shape sure last other p x0 sh a) []
      ∙ ap (λ r. after_read r as_behind) (one_none (is_byte last) closing_word blank_rows closed valued)
  following_is (x ∷ xs) =
      let closed = end_begins Shape sure last other p x0 sh c h in
      let valued = blank_begins Shape sure last other p x0 sh c h in
      mapped_is to_list from_list (one (is_byte last) closing_word blank_rows closed valued) (λ a f. after_back Shape sure last other p x0 sh a) (x ∷ xs)
      ∙ ap (λ r. after_read r as_behind) (one_is (is_byte last) closing_word blank_rows closed valued x xs)
      ∙ behind_by (nat_eq x last) x xs (blank_rows.read (x ∷ xs)) refl
      (both_is blank_word (λ u. made_rows) (x ∷ xs)
      ∙ ap (λ r. after_read r (λ u rest. after_read (made_rows.read rest) (behind_unit u))) (alone_is tt (32 ∷ []) (x ∷ xs) ∙ unit_read (fixed_read (32 ∷ []) (x ∷ xs))))

-- ---- one after another
module _ {A B : Type 0} (step : Code (A ⊎ B)) (b0 : B) (fits0 : step.Fits (inr b0)) (P : ℕ → Type 0) (first : (x : A ⊎ B) → step.Fits x → (y : ℕ) × (ys : List ℕ) × (step.text x ≡ y ∷ ys) × P y) where
  abbrev lines : Code ((xs : List A) × B)
  lines = repeated step b0 fits0 P first

  abbrev with_rest : A ⊎ B → Rest ((xs : List A) × B) → List ℕ → Read ((x : A ⊎ B) × Rest ((xs : List A) × B))
  with_rest x v end = got (x, v) end

  abbrev as_steps : ((x : A ⊎ B) × Rest ((xs : List A) × B)) → List ℕ → Read ((xs : List A) × B)
  as_steps v end = got (repeat_to step b0 fits0 P first v) end

  abbrev rest_codes : (x : A ⊎ B) → Code (Rest ((xs : List A) × B))
  rest_codes x = (rest_plan step b0 fits0 P first x).make (coded _ _ (repeat_layers step b0 fits0 P first)) (coded_shaped _ _ (repeat_layers step b0 fits0 P first))

  more_steps : (a : A) (r : Read ((xs : List A) × B)) → after_read (after_read (after_read r (λ v end. got (more v) end)) (with_rest (inl a))) as_steps ≡ after_read r (λ v end. got (a ∷ v.0, v.1) end)
  more_steps a (got v rest) = refl
  more_steps a (stops r) = refl
  more_steps a (wide r) = refl

  rest_by : (x : A ⊎ B) (rest : List ℕ) → after_read (after_read ((rest_codes x).read rest) (with_rest x)) as_steps ≡ step_read x (lines.read rest) rest
  unfolding rest_plan sends inside fixed empty repeated
  rest_by (inl a) rest = ap (λ r. after_read (after_read r (with_rest (inl a))) as_steps) (mapped_is more (of_rest step b0 fits0 P first) lines (λ v f. refl) rest) ∙ more_steps a (lines.read rest)
  rest_by (inr b) rest = refl

  steps_by : (r : Read (A ⊎ B)) → after_read (after_read r (λ x rest. after_read ((rest_codes x).read rest) (with_rest x))) as_steps ≡ after_read r (λ x rest. step_read x (lines.read rest) rest)
  steps_by (got x rest) = rest_by x rest
  steps_by (stops r) = refl
  steps_by (wide r) = refl

  pub steps_turn : (bytes : List ℕ) → lines.read bytes ≡ after_read (step.read bytes) (λ x rest. step_read x (lines.read rest) rest)
  unfolding repeated sends sequence fixed
  steps_turn bytes =
      let inner = coded_shaped _ _ (repeat_layers step b0 fits0 P first) in
      coded_reads _ _ (repeat_layers step b0 fits0 P first) tt bytes
      ∙ mapped_is (repeat_to step b0 fits0 P first) (repeat_from step b0 fits0 P first) (both step rest_codes) (repeat_back step b0 fits0 P first (λ u. lines) inner) bytes
      ∙ ap (λ r. after_read r as_steps) (both_is step rest_codes bytes)
      ∙ steps_by (step.read bytes)

module _ {A B : Type 0} where
  pub steps_none : (r : Read ((xs : List A) × B)) → r ≡ steps_before [] r
  steps_none (got v rest) = refl
  steps_none (stops r) = refl
  steps_none (wide r) = refl

  steps_one : (xs : List A) (a : A) (r : Read ((xs : List A) × B)) → steps_before xs (after_read r (λ v end. got (a ∷ v.0, v.1) end)) ≡ steps_before (xs ++ a ∷ []) r
  steps_one xs a (got v rest) = ap (λ z. got (z, v.1) rest) (sym (append_assoc xs (a ∷ []) v.0))
  steps_one xs a (stops r) = refl
  steps_one xs a (wide r) = refl

  module _ (lines : List ℕ → Read ((xs : List A) × B)) (step : List ℕ → Read (A ⊎ B)) (turn : (bytes : List ℕ) → lines bytes ≡ after_read (step bytes) (λ x rest. step_read x (lines rest) rest))
      (text : List ℕ) (from at : ℕ) (xs : List A) (so_far : lines (drop from text) ≡ steps_before xs (lines (drop at text))) where
    after_step : (r : Read (A ⊎ B)) → step (drop at text) ≡ r → lines (drop from text) ≡ steps_before xs (after_read r (λ x rest. step_read x (lines rest) rest))
    after_step r e = so_far ∙ ap (steps_before xs) (turn (drop at text) ∙ ap (λ r. after_read r (λ x rest. step_read x (lines rest) rest)) e)

    pub steps_go_on : (a : A) (next : ℕ) → step (drop at text) ≡ got (inl a) (drop next text) → lines (drop from text) ≡ steps_before (xs ++ a ∷ []) (lines (drop next text))
    steps_go_on a next e = after_step (got (inl a) (drop next text)) e ∙ steps_one xs a (lines (drop next text))

    end_of_list : (xs : List A) → xs ++ [] ≡ xs
    end_of_list [] = refl
    end_of_list (x ∷ xs) = ap (λ z. x ∷ z) (end_of_list xs)

    pub steps_end : (b : B) (next : ℕ) → step (drop at text) ≡ got (inr b) (drop next text) → lines (drop from text) ≡ got (xs, b) (drop next text)
    steps_end b next e = after_step (got (inr b) (drop next text)) e ∙ ap (λ z. got (z, b) (drop next text)) (end_of_list xs)

    pub steps_faulty : (f : Fault) → FaultIs text f (step (drop at text)) → FaultIs text f (lines (drop from text))
    steps_faulty (At p) e = after_step (stops (drop p text)) e
    steps_faulty (WideNumber p) e = after_step (wide (drop p text)) e
    steps_faulty Memory e = tt

-- ---- a value, and more behind it where a blank closes it
module _ {H X : Type 0} (last : ℕ) (head : Code ((x : H) × ℕ)) (closes : (v : (x : H) × ℕ) → head.Fits v → (v.1 ≡ 32) ⊎ (v.1 ≡ last)) (more_values : Code (List X)) (is_some : more_values.Fits [] → ⊥) where
  abbrev pub Headed : Type 0
  Headed = (x : H) × List X

  abbrev pub headed_or : Bool → H → Read (List X) → List ℕ → Read Headed
  headed_or true x r rest = after_read r (λ xs end. got (x, xs) end)
  headed_or false x r rest = got (x, []) rest

  abbrev with_values : ((x : H) × ℕ) → List X → List ℕ → Read ((v : (x : H) × ℕ) × List X)
  with_values v xs end = got (v, xs) end

  abbrev as_headed : ((v : (x : H) × ℕ) × List X) → List ℕ → Read Headed
  as_headed v end = got (v.0.0, v.1) end

  values_behind : (v : (x : H) × ℕ) (r : Read (List X)) → after_read (after_read r (with_values v)) as_headed ≡ after_read r (λ xs end. got (v.0, xs) end)
  values_behind v (got xs rest) = refl
  values_behind v (stops r) = refl
  values_behind v (wide r) = refl

  headed_by : (v : (x : H) × ℕ) (b : Bool) (rest : List ℕ) → after_read (after_read ((more_or last head closes more_values is_some b).read rest) (with_values v)) as_headed ≡ headed_or b v.0 (more_values.read rest) rest
  unfolding more_or empty
  headed_by v true rest = values_behind v (more_values.read rest)
  headed_by v false rest = refl

  all_headed : (r : Read ((x : H) × ℕ))
      → after_read (after_read r (λ v rest. after_read ((more_or last head closes more_values is_some (nat_eq v.1 32)).read rest) (with_values v))) as_headed
      ≡ after_read r (λ v rest. headed_or (nat_eq v.1 32) v.0 (more_values.read rest) rest)
  all_headed (got v rest) = headed_by v (nat_eq v.1 32) rest
  all_headed (stops r) = refl
  all_headed (wide r) = refl

  pub headed_is : (bytes : List ℕ) → (headed last head closes more_values is_some).read bytes ≡ after_read (head.read bytes) (λ v rest. headed_or (nat_eq v.1 32) v.0 (more_values.read rest) rest)
  unfolding headed
  headed_is bytes = mapped_is _ _ _ _ bytes ∙ ap (λ r. after_read r as_headed) (both_is _ _ bytes) ∙ all_headed (head.read bytes)

-- Lists have texts where each value has one with each byte that may close it.
use Rattle.std.specs.Prelude.{ℕ, ◌≡◌, false, nat_eq, List, [], ◌∷◌, ◌++◌}
use Rattle.std.specs.List.{AllByRecursion}
use Rattle.std.proofs.Common.{refl}
use Rattle.ae_codes.specs.Codes.{Code, Begins, both, one, mapped, words}
use Rattle.ae_codes.specs.Nested.{Shaped}
use Rattle.ae_codes.specs.Plans.{Inner, Plan, fixed, known, sequence, choice, sends, in_row}
use Rattle.ae_codes.specs.Rows.{Row, list_row, list_row_list, row_fits, item_closes, item_long, EachFits, ItemShape, alone, rows}
use Rattle.ae_codes.specs.Listings.{is_byte, some, listing, following, listing_code, following_code, some_code, one_item, one_shaped, one_begins, no_shape, no_sure, no_codes, no_inner}

module _ {X : Type 0} (last : ℕ) (other : nat_eq last 32 ≡ false) (item : Code ((x : X) × ℕ)) (x0 : X) (sh : Shaped (ItemShape last) (x0, last) item) where
  -- the value has a text before a blank and before the last byte
  abbrev pub Item : X → Type 0
  Item x = item.Fits (x, 32) × item.Fits (x, last)

  abbrev Each : Row X → Type 0
  Each r = EachFits last other item (item_closes last other item x0 sh) x0 sh.has (item_long last other item x0 sh) r

  each_item : (x : X) (xs : List X) → AllByRecursion Item (x ∷ xs) → Each (list_row x xs)
  each_item x [] h = h.0.1
  each_item x (y ∷ ys) h = (h.0.0, each_item y ys h.1)

  pub row_has : (x : X) (xs : List X) → AllByRecursion Item (x ∷ xs) → (rows last other item x0 sh).Fits (list_row x xs)
  row_has x xs h = row_fits last other item (item_closes last other item x0 sh) x0 sh.has (item_long last other item x0 sh) (list_row x xs) (each_item x xs h)

module _ {I : Type 0} {T : I → Type 0} (Shape : (i : I) → T i → List ℕ → Type 0) (sure : (i : I) → T i) {X : Type 0} (last : ℕ) (other : nat_eq last 32 ≡ false) (p : Plan Shape sure ((x : X) × ℕ)) (x0 : X)
    (sh : (c : (i : I) → Code (T i)) (h : Inner Shape sure c) → Shaped (ItemShape last) (x0, last) (p.make c h)) (c : (i : I) → Code (T i)) (h : Inner Shape sure c) where
  abbrev pub PlanItem : X → Type 0
  PlanItem = Item last other (p.make c h) x0 (sh c h)

  pub some_has : (x : X) (xs : List X) → AllByRecursion PlanItem (x ∷ xs) → ((some Shape sure last other p x0 sh).make c h).Fits (x ∷ xs)
  unfolding some sends mapped in_row
  some_has x xs a = (row_has last other (p.make c h) x0 (sh c h) x xs a, list_row_list x xs)

  pub following_has : (xs : List X) → AllByRecursion PlanItem xs → ((following Shape sure last other p x0 sh).make c h).Fits xs
  unfolding following sends mapped choice one sequence both fixed alone words in_row
  following_has [] a = (refl, refl)
  following_has (x ∷ xs) a = ((refl, row_has last other (p.make c h) x0 (sh c h) x xs a), list_row_list x xs)

  pub listing_has : (begins : (c : (i : I) → Code (T i)) (h : Inner Shape sure c) → Begins (p.make c h) (is_byte last) false) (xs : List X) → AllByRecursion PlanItem xs → ((listing Shape sure last other p x0 sh begins).make c h).Fits xs
  unfolding listing sends mapped choice one fixed alone words in_row
  listing_has begins [] a = (refl, refl)
  listing_has begins (x ∷ xs) a = (row_has last other (p.make c h) x0 (sh c h) x xs a, list_row_list x xs)

-- ---- the same for codes by themselves
module _ {X : Type 0} (last : ℕ) (other : nat_eq last 32 ≡ false) (item : Code ((x : X) × ℕ)) (x0 : X) (sh : Shaped (ItemShape last) (x0, last) item) (t : X → List ℕ)
    (law : (v : (x : X) × ℕ) → item.Fits v → item.text v ≡ t v.0 ++ v.1 ∷ []) where
  pub following_fits : (xs : List X) → AllByRecursion (Item last other item x0 sh) xs → (following_code last other item x0 sh t law).Fits xs
  unfolding following_code known
  following_fits xs a = following_has {T = λ i. Unit {0}} no_shape no_sure last other (one_item last other item x0 sh t law) x0 (one_shaped last other item x0 sh t law) no_codes no_inner xs a

  pub listing_fits : (first : Begins item (is_byte last) false) (xs : List X) → AllByRecursion (Item last other item x0 sh) xs → (listing_code last other item x0 sh t law first).Fits xs
  unfolding listing_code known
  listing_fits first xs a = listing_has {T = λ i. Unit {0}} no_shape no_sure last other (one_item last other item x0 sh t law) x0 (one_shaped last other item x0 sh t law) no_codes no_inner (one_begins last other item x0 sh t law first) xs a

  pub some_fits : (x : X) (xs : List X) → AllByRecursion (Item last other item x0 sh) (x ∷ xs) → (some_code last other item x0 sh t law).Fits (x ∷ xs)
  unfolding some_code known
  some_fits x xs a = some_has {T = λ i. Unit {0}} no_shape no_sure last other (one_item last other item x0 sh t law) x0 (one_shaped last other item x0 sh t law) no_codes no_inner x xs a

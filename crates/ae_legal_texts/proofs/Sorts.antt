-- Each closed sort has a text.
use Rattle.std.specs.Prelude.{ℕ, zero, suc, ◌^◌, ◌-◌, ◌<◌, ◌≡◌, Bool, true, false, ◌&&◌, not, IsTrue, nat_eq, nat_le, nat_lt, List, [], ◌∷◌, map, length, slice_get, Option, Some, None}
use Rattle.std.specs.List.{AllByRecursion, flat_map, list_all}
use Rattle.std.proofs.Common.{refl, sym, ap, ◌∙◌, subst, arith, inl, inr}
use Rattle.std.proofs.lemmas.Bool.{and_parts, and_from, le-leb, lt-ltb}
use Rattle.std.proofs.lemmas.Option.{same_Some, none-some}
use Rattle.std.proofs.lemmas.List.Folds.{flat_map-map}
use Rattle.ae_base.specs.Options.{or_else, ◌>>=◌}
use Rattle.ae_base.proofs.Tests.{false_true}
use Rattle.ae_base.proofs.ListFacts.{cons_head, get_map}
use Rattle.ae_codes.specs.Closers.{Close, closers, round, sizes}
use Rattle.ae_codes.specs.Codes.{Code, both, one, mapped, words, takes, reads_text}
use Rattle.ae_codes.specs.Machines.{checked, machine}
use Rattle.ae_codes.specs.Names.{Listed, Clean, Proper, names, closing}
use Rattle.ae_codes.specs.Numbers.{number, number_machine}
use Rattle.ae_codes.specs.Rows.{Row, list_row, list_row_list, row_fits, item_closes, item_long, EachFits, alone, rows}
use Rattle.ae_core.specs.Inner.Induction.{by_sorts}
use Rattle.ae_core.specs.Signatures.{IsLawful, continues_name, taken_names}
use Rattle.ae_core.specs.Sorts.{is_closed_sort, type_fits}
use Rattle.ae_core.proofs.Recursion.{fold_rigid, fold_named}
use Rattle.ae_core.proofs.SortLaws.{ok_var, ok_named}
use Rattle.ae_core.specs.declared.problems.Signature.{Signature}
use Rattle.ae_core.specs.declared.problems.TypeEntry.{TypeEntry}
use Rattle.ae_core.specs.declared.terms.Sort.{Sort, Sort-F, Var, Rigid, Int, Real, Bool as BoolSort, Unit as UnitSort, Named, roll-Sort, out-Sort, roll-out-Sort}
use Rattle.ae_core.specs.declared.terms.Sort.TheOpen as layer
use Rattle.ae_core.specs.declared.terms.Sort.TheVariants.{outs-Rigid, outs-Int, outs-Real, outs-Bool, outs-Unit, outs-Named}
use Rattle.ae_prooftext.specs.Grammar.{sort_code}
use Rattle.ae_prooftext.specs.Texts.{get}
use Rattle.ae_prooftext.specs.Words.{type_names}
use Rattle.ae_prooftext.specs.SortTexts.{SortEnd, RawSort, Leaf, SomeType, some_type, here_or, place, list_dec, same_here, atoms, int_name, fine, blank, leaves, raw_by, from_layer, to_layer, end_of}
use Rattle.ae_prooftext.specs.SortTexts.{sort, sort_to, inner_sort, inner_is_shaped, inner_reads, above_round, atom}
use Rattle.ae_legal_texts.specs.Numbers.{Number, count, IsWithin, AreWithin, sort_numbers, sort_numbers_step}
use Rattle.ae_legal_texts.proofs.Places.{StandsOnce, stands_once, all_parts}
use Rattle.ae_legal_texts.proofs.Closing.{ClosesNoName, round_apart, blank_apart}
use Rattle.ae_legal_texts.proofs.Named.{IsNamed, type_named, first_range, clean_bytes, not_taken}

abbrev real_name : List ℕ
real_name = 114 ∷ 101 ∷ 97 ∷ 108 ∷ []

abbrev bool_name : List ℕ
bool_name = 98 ∷ 111 ∷ 111 ∷ 108 ∷ []

abbrev unit_name : List ℕ
unit_name = 117 ∷ 110 ∷ 105 ∷ 116 ∷ []

-- ---- places among names
pub listed_at : (ts : List (List ℕ)) (k : ℕ) (w : List ℕ) → slice_get ts k ≡ Some w → Listed ts w
listed_at [] k w g = absurd (none-some w g)
listed_at (t ∷ ts) zero w g = inl (sym (same_Some t w g))
listed_at (t ∷ ts) (suc k) w g = inr (listed_at ts k w g)

skipped : (w t : List ℕ) (n : ℕ) (d : Dec (w ≡ t)) → (w ≡ t → ⊥) → here_or d n ≡ suc n
skipped w t n (yes e) m = absurd (m e)
skipped w t n (no k) m = refl

skip : (w t : List ℕ) (ts : List (List ℕ)) → (w ≡ t → ⊥) → place (t ∷ ts) w ≡ suc (place ts w)
skip w t ts m = skipped w t (place ts w) (list_dec w t) m

pub place_at : (ts : List (List ℕ)) → StandsOnce ts → (k : ℕ) (w : List ℕ) → slice_get ts k ≡ Some w → place ts w ≡ k
place_at [] d k w g = absurd (none-some w g)
place_at (t ∷ ts) d zero w g =
    let e = same_Some t w g in
    ap (λ z. place (t ∷ ts) z) (sym e) ∙ same_here t (list_dec t t) (place ts t)
place_at (t ∷ ts) d (suc k) w g =
    skip w t ts (λ e. let z = d 0 (suc k) w (ap Some (sym e)) g in omega (arith, z))
    ∙ ap suc (place_at ts (λ i j x a b. let z = d (suc i) (suc j) x a b in omega (arith, z)) k w g)

-- ---- numbers
pub count_good : (n : ℕ) → n < 2 ^ 64 → IsTrue (nat_le 0 n && nat_le n (2 ^ 64 - 1))
count_good n l = and_from (nat_le 0 n) (nat_le n (2 ^ 64 - 1)) (le-leb 0 n (omega arith)) (le-leb n (2 ^ 64 - 1) (omega (arith, l)))

pub count_fits : (k : Close) (n e : ℕ) → n < 2 ^ 64 → IsTrue (closers k.one k.two e) → (number (sizes k)).Fits (n, e)
unfolding number checked machine number_machine
count_fits k n e l c = (count_good n l, c)

-- ---- numbers
numbers_rigid : (n : ℕ) → sort_numbers (Rigid n) ≡ count n ∷ []
unfolding sort_numbers
numbers_rigid n = fold_rigid (List Number) sort_numbers_step n

numbers_named : (h : ℕ) (ss : List Sort) → sort_numbers (Named h ss) ≡ flat_map (λ a. a) (map sort_numbers ss)
unfolding sort_numbers
numbers_named h ss = fold_named (List Number) sort_numbers_step h ss

-- ---- the names that stand alone
module _ (w : List ℕ) (n : IsNamed w) where
  no_int : w ≡ int_name → ⊥
  unfolding taken_names
  no_int e = not_taken w n (inl e)

  no_real : w ≡ real_name → ⊥
  unfolding taken_names
  no_real e = not_taken w n (inr (inl e))

  no_bool : w ≡ bool_name → ⊥
  unfolding taken_names
  no_bool e = not_taken w n (inr (inr (inl e)))

  no_unit : w ≡ unit_name → ⊥
  unfolding taken_names
  no_unit e = not_taken w n (inr (inr (inr (inl e))))

  -- a type's name stands behind the four that are given
  pub atom_place : (ts : List (List ℕ)) → StandsOnce ts → (k : ℕ) → slice_get ts k ≡ Some w → place (atoms ts) w ≡ suc (suc (suc (suc k)))
  atom_place ts d k g =
      skip w int_name (real_name ∷ bool_name ∷ unit_name ∷ ts) no_int
      ∙ ap suc (skip w real_name (bool_name ∷ unit_name ∷ ts) no_real
      ∙ ap suc (skip w bool_name (unit_name ∷ ts) no_bool
      ∙ ap suc (skip w unit_name ts no_unit ∙ ap suc (place_at ts d k w g))))

  pub fine_name : IsTrue (fine w)
  fine_name =
      let r = first_range n.first n.begins in
      let l = r.0 in
      subst (λ z. IsTrue (fine z)) (sym n.is) (and_from (nat_lt 64 n.first) (not (nat_eq n.first 93)) (lt-ltb 64 n.first (omega (arith, l))) (ap not r.2))

  pub proper_name : (table : List (List ℕ)) (ends : ℕ → Bool) → ((x : ℕ) → continues_name x ≡ true → ends x ≡ false) → Proper fine table ends w
  proper_name table ends apart = (clean_bytes fine table ends apart w n.goes_on, fine_name)

-- ---- the layers
module _ (types : List (List ℕ)) where
  real_place : place (atoms types) real_name ≡ 1
  real_place =
      skip real_name int_name (real_name ∷ bool_name ∷ unit_name ∷ types) (λ e. let z = cons_head 114 105 _ _ e in omega (arith, z))
      ∙ ap suc (same_here real_name (list_dec real_name real_name) (place (bool_name ∷ unit_name ∷ types) real_name))

  bool_place : place (atoms types) bool_name ≡ 2
  bool_place =
      skip bool_name int_name (real_name ∷ bool_name ∷ unit_name ∷ types) (λ e. let z = cons_head 98 105 _ _ e in omega (arith, z))
      ∙ ap suc (skip bool_name real_name (bool_name ∷ unit_name ∷ types) (λ e. let z = cons_head 98 114 _ _ e in omega (arith, z))
      ∙ ap suc (same_here bool_name (list_dec bool_name bool_name) (place (unit_name ∷ types) bool_name)))

  unit_place : place (atoms types) unit_name ≡ 3
  unit_place =
      skip unit_name int_name (real_name ∷ bool_name ∷ unit_name ∷ types) (λ e. let z = cons_head 117 105 _ _ e in omega (arith, z))
      ∙ ap suc (skip unit_name real_name (bool_name ∷ unit_name ∷ types) (λ e. let z = cons_head 117 114 _ _ e in omega (arith, z))
      ∙ ap suc (skip unit_name bool_name (unit_name ∷ types) (λ e. let z = cons_head 117 98 _ _ e in omega (arith, z))
      ∙ ap suc (same_here unit_name (list_dec unit_name unit_name) (place types unit_name))))

  abbrev first : Dec (SomeType types)
  first = some_type types

  abbrev raw : Close → Code RawSort
  raw k = raw_by types first k (inner_sort types first) (inner_is_shaped types first)

  -- a layer whose parts have texts has one, where it comes back
  layer_fits : (k : Close) (s : Sort) (l : Sort-F Sort) (e : ℕ) → out-Sort s ≡ l → (raw k).Fits (from_layer types l e) → to_layer types (from_layer types l e) ≡ l → end_of types (from_layer types l e) ≡ e → (sort types first k).Fits (s, e)
  unfolding mapped
  layer_fits k s l e o f b g = (
    subst (λ y. (raw k).Fits (from_layer types y e)) (sym o) f,
    ap (λ y. sort_to types (from_layer types y e)) o ∙ (λ i. (roll-Sort (b i), g i)) ∙ ap (λ y. (roll-Sort y, e)) (sym o) ∙ ap (λ z. (z, e)) (roll-out-Sort s),
  )

  leaf_by : (d : Dec (SomeType types)) (k : Close) (v : Leaf) → (leaves types k).Fits v → (raw_by types d k (inner_sort types first) (inner_is_shaped types first)).Fits (inr v)
  unfolding raw_by one mapped
  leaf_by (yes s) k v f = f
  leaf_by (no n) k v f = (f, refl)

  word_fits : (k : Close) (w : List ℕ) (e : ℕ) → Listed (atoms types) w → Proper fine (atoms types) (closers k.one k.two) w → IsTrue (closers k.one k.two e) → (leaves types k).Fits (inr (w, e))
  unfolding one names words
  word_fits k w e i p c = record { listed = i; clean = p; closed = c }

  rigid_fits : (k : Close) (n e : ℕ) → n < 2 ^ 64 → IsTrue (closers k.one k.two e) → (leaves types k).Fits (inl (tt, (n, e)))
  unfolding one both alone words
  rigid_fits k n e l c = (refl, count_fits k n e l c)

  given_clean : (k : Close) (a b c d : ℕ) → 96 < a → 96 < b → 96 < c → 96 < d → Clean fine (atoms types) (closers k.one k.two) (a ∷ b ∷ c ∷ d ∷ [])
  given_clean k a b c d p q r s = (k.letters a p, (k.letters b q, (k.letters c r, (k.letters d s, tt))))

  -- what a code reads inside brackets is what it reads elsewhere
  pub inner_fits : (v : SortEnd) → (sort types first round).Fits v → (inner_sort types first).Fits v
  inner_fits v f = (takes (inner_sort types first) ((sort types first round).text v) v [] (inner_reads types first ((sort types first round).text v) ∙ reads_text (sort types first round) v f)).1

  abbrev Item : Sort → Type 0
  Item s = (inner_sort types first).Fits (s, 32) × (inner_sort types first).Fits (s, 41)

  abbrev Each : Row Sort → Type 0
  Each r = EachFits 41 above_round (inner_sort types first) (item_closes 41 above_round (inner_sort types first) Int (inner_is_shaped types first)) Int (inner_is_shaped types first).has
      (item_long 41 above_round (inner_sort types first) Int (inner_is_shaped types first)) r

  each_item : (x : Sort) (xs : List Sort) → AllByRecursion Item (x ∷ xs) → Each (list_row x xs)
  each_item x [] h = h.0.1
  each_item x (y ∷ ys) h = (h.0.0, each_item y ys h.1)

  row_has : (x : Sort) (xs : List Sort) → AllByRecursion Item (x ∷ xs) → (rows 41 above_round (inner_sort types first) Int (inner_is_shaped types first)).Fits (list_row x xs)
  row_has x xs h = row_fits 41 above_round (inner_sort types first) (item_closes 41 above_round (inner_sort types first) Int (inner_is_shaped types first)) Int (inner_is_shaped types first).has
      (item_long 41 above_round (inner_sort types first) Int (inner_is_shaped types first)) (list_row x xs) (each_item x xs h)

  compound_by : (d : Dec (SomeType types)) (k : Close) (w : List ℕ) (x : Sort) (xs : List Sort) (e : ℕ) → Listed types w → Proper fine types blank w → AllByRecursion Item (x ∷ xs) → IsTrue (closers k.one k.two e)
      → (raw_by types d k (inner_sort types first) (inner_is_shaped types first)).Fits (inl (tt, ((w, 32), (list_row x xs, e))))
  unfolding raw_by one both names words alone closing
  compound_by (yes s) k w x xs e i p h c = (refl, (record { listed = i; clean = p; closed = refl }, (row_has x xs h, c)))
  compound_by (no n) k w x xs e i p h c = absurd (n (w, i, p))

-- ---- all sorts
module _ (sig : Signature) (lawful : IsLawful sig) where
  abbrev Has : Sort → Type 0
  Has s = is_closed_sort sig s ≡ true → AreWithin (sort_numbers s) → (k : Close) → ClosesNoName k → (e : ℕ) → IsTrue (closers k.one k.two e) → (sort_code sig k).Fits (s, e)

  pub types_once : StandsOnce (type_names sig)
  unfolding type_names
  types_once = stands_once (map (λ e. e.name) sig.types) lawful.type_names

  pub type_at : (n : ℕ) (e : TypeEntry) → slice_get sig.types n ≡ Some e → slice_get (type_names sig) n ≡ Some e.name
  unfolding type_names
  type_at n e g = get_map (λ (e : TypeEntry). e.name) sig.types n e g

  pub type_there : (h n : ℕ) → type_fits sig h n ≡ true → (e : TypeEntry) × (slice_get sig.types h ≡ Some e)
  type_there h n f = go (slice_get sig.types h) refl f
    where
      go : (o : Option TypeEntry) → slice_get sig.types h ≡ o → or_else (o >>= λ e. Some (nat_eq e.arity n)) false ≡ true → (e : TypeEntry) × (slice_get sig.types h ≡ Some e)
      go (Some e) g q = (e, g)
      go None g q = false_true q

  abbrev ts : List (List ℕ)
  ts = type_names sig

  has_var : (i : ℕ) → Has (Var i)
  has_var i o = false_true (sym (ok_var sig (λ i. false) (λ i. true) i) ∙ o)

  has_rigid : (n : ℕ) → Has (Rigid n)
  has_rigid n o w k a e c =
      layer_fits ts k (Rigid n) (layer.Rigid n) e (outs-Rigid n) (leaf_by ts (some_type ts) k (inl (tt, (n, e))) (rigid_fits ts k n e (subst AreWithin (numbers_rigid n) w).0 c)) refl refl

  has_int : Has Int
  has_int o w k a e c =
      layer_fits ts k Int layer.Int e outs-Int (leaf_by ts (some_type ts) k (inr (int_name, e))
      (word_fits ts k int_name e (inl refl) ((k.letters 105 (omega arith), (k.letters 110 (omega arith), (k.letters 116 (omega arith), tt))), refl) c))
      (ap atom (same_here int_name (list_dec int_name int_name) _)) refl

  has_real : Has Real
  has_real o w k a e c =
      layer_fits ts k Real layer.Real e outs-Real (leaf_by ts (some_type ts) k (inr (real_name, e))
      (word_fits ts k real_name e (inr (inl refl)) (given_clean ts k 114 101 97 108 (omega arith) (omega arith) (omega arith) (omega arith), refl) c))
      (ap atom (real_place ts)) refl

  has_bool : Has BoolSort
  has_bool o w k a e c =
      layer_fits ts k BoolSort layer.Bool e outs-Bool (leaf_by ts (some_type ts) k (inr (bool_name, e))
      (word_fits ts k bool_name e (inr (inr (inl refl))) (given_clean ts k 98 111 111 108 (omega arith) (omega arith) (omega arith) (omega arith), refl) c))
      (ap atom (bool_place ts)) refl

  has_unit : Has UnitSort
  has_unit o w k a e c =
      layer_fits ts k UnitSort layer.Unit e outs-Unit (leaf_by ts (some_type ts) k (inr (unit_name, e))
      (word_fits ts k unit_name e (inr (inr (inr (inl refl)))) (given_clean ts k 117 110 105 116 (omega arith) (omega arith) (omega arith) (omega arith), refl) c))
      (ap atom (unit_place ts)) refl

  parts : (ss : List Sort) → AllByRecursion Has ss → list_all (is_closed_sort sig) ss ≡ true → AllByRecursion (λ s. AreWithin (sort_numbers s)) ss → AllByRecursion (Item ts) ss
  unfolding round
  parts [] ih o w = tt
  parts (s ∷ ss) ih o w =
      let p = and_parts (is_closed_sort sig s) (list_all (is_closed_sort sig) ss) o in
      ((inner_fits ts (s, 32) (ih.0 p.0 w.0 round round_apart 32 refl), inner_fits ts (s, 41) (ih.0 p.0 w.0 round round_apart 41 refl)), parts ss ih.1 p.1 w.1)

  has_named : (h : ℕ) (ss : List Sort) → AllByRecursion Has ss → Has (Named h ss)
  has_named h ss ih o w k a e c =
      let p = and_parts (type_fits sig h (length ss)) (list_all (is_closed_sort sig) ss) (sym (ok_named sig (λ i. false) (λ i. true) h ss) ∙ o) in
      let t = type_there h (length ss) p.0 in
      let n = type_named sig lawful h t.0 t.1 in
      go ss (parts ss ih p.1 (all_parts IsWithin sort_numbers ss (subst AreWithin (numbers_named h ss ∙ flat_map-map (λ a. a) sort_numbers ss) w))) t.0 n (type_at h t.0 t.1)
    where
      go : (ss : List Sort) → AllByRecursion (Item ts) ss → (t : TypeEntry) → IsNamed t.name → slice_get ts h ≡ Some t.name → (sort_code sig k).Fits (Named h ss, e)
      go [] i t n g =
          let is : get ts h ≡ t.name = ap (λ o. or_else o []) g in
          layer_fits ts k (Named h []) (layer.Named h []) e (outs-Named h [])
          (leaf_by ts (some_type ts) k (inr (get ts h, e)) (subst (λ z. (leaves ts k).Fits (inr (z, e))) (sym is)
          (word_fits ts k t.name e (inr (inr (inr (inr (listed_at ts h t.name g))))) (proper_name t.name n (atoms ts) (closers k.one k.two) a) c)))
          (ap (λ z. atom (place (atoms ts) z)) is ∙ ap atom (atom_place t.name n ts types_once h g)) refl
      go (x ∷ xs) i t n g =
          let is : get ts h ≡ t.name = ap (λ o. or_else o []) g in
          layer_fits ts k (Named h (x ∷ xs)) (layer.Named h (x ∷ xs)) e (outs-Named h (x ∷ xs))
          (subst (λ z. (raw ts k).Fits (inl (tt, ((z, 32), (list_row x xs, e))))) (sym is) (compound_by ts (some_type ts) k t.name x xs e (listed_at ts h t.name g) (proper_name t.name n ts blank blank_apart) i c))
          (λ j. layer.Named ((ap (place ts) is ∙ place_at ts types_once h t.name g) j) (list_row_list x xs j)) refl

  pub sorts_have : (s : Sort) → Has s
  sorts_have = by_sorts Has has_var has_rigid has_int has_real has_bool has_unit has_named

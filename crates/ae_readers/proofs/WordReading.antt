-- Words as codes read them: one alone, one of a table, and what stands behind the word of a table.
use Rattle.std.proofs.Common.{ℕ, ◌≤◌, ◌⊎◌, Bool, true, false, cond, IsTrue, max, List, [], ◌∷◌, ◌≡◌, length, drop, refl, sym, ap, ◌∙◌, arith, subst}
use mathlib.Core.Logic.{inl, inr}
use Rattle.std.proofs.Math.Nat.{max-eq_right}
use Rattle.std.proofs.lemmas.Bool.{false_from_ne_true}
use Rattle.ae_codes.specs.Codes.{Read, got, stops, wide, Code, words, words_narrow}
use Rattle.ae_codes.specs.Names.{Listed}
use Rattle.ae_codes.specs.Rows.{alone}
use Rattle.ae_codes.specs.Tables.{begins, all_apart, table, tagged}
use Rattle.ae_readers.specs.Readers.{after_read, common, most, fixed_or, fixed_read, chosen}
use Rattle.ae_readers.proofs.Combinators.{mapped_is, both_is}
use Rattle.ae_readers.proofs.Commons.{begins_cut, begins_short, most_above, most_found, SomeMost}
use Rattle.ae_readers.proofs.Stopping.{stops_behind}

-- ---- one word
module _ {A : Type 0} (a0 : A) (w : List ℕ) where
  alone_narrow : (bytes q : List ℕ) → (alone a0 w).read bytes ≡ wide q → ⊥
  unfolding alone
  alone_narrow bytes q e = words_narrow _ bytes q e

  alone_goes : (bytes : List ℕ) → begins w bytes ≡ true → (alone a0 w).read bytes ≡ got a0 (drop (length w) bytes)
  unfolding alone words
  alone_goes bytes e = ap ((alone a0 w).read) (begins_cut w bytes e) ∙ (alone a0 w).again a0 (drop (length w) bytes) refl

  alone_halts : (bytes : List ℕ) → begins w bytes ≡ false → (alone a0 w).read bytes ≡ stops (drop (common w bytes) bytes)
  unfolding alone words
  alone_halts bytes e = stops_behind (alone a0 w) bytes a0 refl (λ a f. omega arith) (begins_short w bytes e) (alone_narrow bytes)

  max_zero : (n : ℕ) → n ≡ max 0 n
  max_zero n = sym (max-eq_right (omega arith))

  alone_by : (b : Bool) (bytes : List ℕ) → begins w bytes ≡ b → (alone a0 w).read bytes ≡ after_read (fixed_or b w bytes) (λ u rest. got a0 rest)
  alone_by true bytes e = alone_goes bytes e
  alone_by false bytes e = alone_halts bytes e ∙ ap (λ n. stops (drop n bytes)) (max_zero (common w bytes))

  pub alone_is : (bytes : List ℕ) → (alone a0 w).read bytes ≡ after_read (fixed_read w bytes) (λ u rest. got a0 rest)
  alone_is bytes = alone_by (begins w bytes) bytes refl

-- ---- a table
module _ (t : List ℕ) (ts : List (List ℕ)) (h : IsTrue (all_apart (t ∷ ts))) where
  table_narrow : (bytes q : List ℕ) → (table t ts h).read bytes ≡ wide q → ⊥
  unfolding table
  table_narrow bytes q e = words_narrow _ bytes q e

  pub table_goes : (w bytes : List ℕ) → Listed (t ∷ ts) w → begins w bytes ≡ true → (table t ts h).read bytes ≡ got w (drop (length w) bytes)
  unfolding table words
  table_goes w bytes i e = ap ((table t ts h).read) (begins_cut w bytes e) ∙ (table t ts h).again w (drop (length w) bytes) i

  some_most : (bytes : List ℕ) (n : ℕ) → common t bytes ≤ n → SomeMost 0 (t ∷ ts) bytes n → (u : List ℕ) × Listed (t ∷ ts) u × (common u bytes ≡ n)
  some_most bytes n l (inl e) = (t, inl refl, omega arith)
  some_most bytes n l (inr k) = k

  pub table_halts : (bytes : List ℕ) → ((w : List ℕ) → Listed (t ∷ ts) w → begins w bytes ≡ false) → (table t ts h).read bytes ≡ stops (drop (most 0 (t ∷ ts) bytes) bytes)
  unfolding table words
  table_halts bytes none =
      let k = some_most bytes (most 0 (t ∷ ts) bytes) (most_above 0 (t ∷ ts) bytes t (inl refl)) (most_found 0 (t ∷ ts) bytes) in
      stops_behind (table t ts h) bytes k.0 k.1 (λ a f. subst (λ n. common a bytes ≤ n) (sym k.2) (most_above 0 (t ∷ ts) bytes a f)) (begins_short k.0 bytes (none k.0 k.1)) (table_narrow bytes)
      ∙ ap (λ n. stops (drop n bytes)) k.2

  -- what stands behind the word of a table
  module _ {A : Type 0} (arms : List ℕ → Code A) (tag : A → List ℕ) (law : (w : List ℕ) (a : A) → Listed (t ∷ ts) w → (arms w).Fits a → tag a ≡ w) where
    abbrev arm_read : List ℕ → List ℕ → Read A
    arm_read w rest = (arms w).read rest

    abbrev with_word : (w : List ℕ) → A → List ℕ → Read ((u : List ℕ) × A)
    with_word w a end = got (w, a) end

    abbrev value_of : ((u : List ℕ) × A) → List ℕ → Read A
    value_of v end = got v.1 end

    same_arm : (w : List ℕ) (r : Read A) → after_read (after_read r (with_word w)) value_of ≡ r
    same_arm w (got a rest) = refl
    same_arm w (stops r) = refl
    same_arm w (wide r) = refl

    pub tagged_is : (bytes : List ℕ) → (tagged t ts h arms tag law).read bytes ≡ after_read (after_read ((table t ts h).read bytes) (λ w rest. after_read ((arms w).read rest) (with_word w))) value_of
    unfolding tagged
    tagged_is bytes = mapped_is _ _ _ _ bytes ∙ ap (λ r. after_read r value_of) (both_is (table t ts h) arms bytes)

    goes : (w bytes : List ℕ) → Listed (t ∷ ts) w → begins w bytes ≡ true → (tagged t ts h arms tag law).read bytes ≡ (arms w).read (drop (length w) bytes)
    goes w bytes i e =
        tagged_is bytes
        ∙ ap (λ r. after_read (after_read r (λ w rest. after_read ((arms w).read rest) (with_word w))) value_of) (table_goes w bytes i e)
        ∙ same_arm w ((arms w).read (drop (length w) bytes))

    halts : (bytes : List ℕ) → ((w : List ℕ) → Listed (t ∷ ts) w → begins w bytes ≡ false) → (tagged t ts h arms tag law).read bytes ≡ stops (drop (most 0 (t ∷ ts) bytes) bytes)
    halts bytes none =
        tagged_is bytes
        ∙ ap (λ r. after_read (after_read r (λ w rest. after_read ((arms w).read rest) (with_word w))) value_of) (table_halts bytes none)

    other : (w u : List ℕ) (ws : List (List ℕ)) (bytes : List ℕ) → begins w bytes ≡ false → begins u bytes ≡ true → (u ≡ w) ⊎ Listed ws u → Listed ws u
    other w u ws bytes e f (inl q) = let z : begins w bytes ≡ true = subst (λ y. begins y bytes ≡ true) q f in absurd cc
    other w u ws bytes e f (inr i) = i

    by_first : (b : Bool) (w : List ℕ) (ws : List (List ℕ)) (bytes : List ℕ) → begins w bytes ≡ b → (begins w bytes ≡ true → (tagged t ts h arms tag law).read bytes ≡ (arms w).read (drop (length w) bytes))
        → (begins w bytes ≡ false → (tagged t ts h arms tag law).read bytes ≡ chosen arm_read (t ∷ ts) ws bytes)
        → (tagged t ts h arms tag law).read bytes ≡ cond b ((arms w).read (drop (length w) bytes)) (chosen arm_read (t ∷ ts) ws bytes)
    by_first true w ws bytes e f g = f e
    by_first false w ws bytes e f g = g e

    -- the words that are left are all that may stand there
    from_words : (ws : List (List ℕ)) (bytes : List ℕ) → ((u : List ℕ) → Listed ws u → Listed (t ∷ ts) u) → ((u : List ℕ) → Listed (t ∷ ts) u → begins u bytes ≡ true → Listed ws u)
        → (tagged t ts h arms tag law).read bytes ≡ chosen arm_read (t ∷ ts) ws bytes
    from_words [] bytes all only = halts bytes (λ w i. false_from_ne_true (begins w bytes) (λ e. only w i e))
    from_words (w ∷ ws) bytes all only = by_first (begins w bytes) w ws bytes refl (goes w bytes (all w (inl refl)))
        (λ e. from_words ws bytes (λ u i. all u (inr i)) (λ u i f. other w u ws bytes e f (only u i f)))

    pub tagged_chosen : (bytes : List ℕ) → (tagged t ts h arms tag law).read bytes ≡ chosen (λ w rest. (arms w).read rest) (t ∷ ts) (t ∷ ts) bytes
    tagged_chosen bytes = from_words (t ∷ ts) bytes (λ u i. i) (λ u i e. i)

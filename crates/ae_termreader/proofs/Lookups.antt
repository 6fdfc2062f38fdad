-- A word of a table is found in the bucket of its hash.
use Rattle.std.proofs.Common.{ℕ, zero, suc, ◌+◌, ◌<◌, ◌≤◌, ◌-◌, Bool, true, false, cond, List, [], ◌∷◌, ◌++◌, ◌≡◌, ◌≢◌, length, drop, get_or, refl, sym, ap, ◌∙◌, subst, arith}
use native.Mathlib.Decide.{ℕ_discrete}
use Rattle.std.specs.Str.{bytes_eq}
use Rattle.std.proofs.Math.ListN.{set}
use Rattle.std.proofs.lemmas.Bool.{false_from_ne_true}
use Rattle.std.proofs.lemmas.List.{get_or-set_same, get_or-set_other, drop_more, length-set}
use Rattle.std.proofs.lemmas.Slice.Eq.{bytes_eq-Decides}
use Rattle.ae_readers.specs.Readers.{place_of}
use Rattle.ae_termreader.specs.Inner.Lookup.{slot_of, first_of, bucket_of, FindsFrom, Finds, AllEmpty}

pub lengths_apart : (w u : List ℕ) → length w ≢ length u → false ≡ bytes_eq w u
lengths_apart w u ne = sym (false_from_ne_true (bytes_eq w u) (λ e. ne (ap length ((bytes_eq-Decides w u).0 e))))

pub none_in : AllEmpty []
none_in zero = refl
none_in (suc n) = refl

pub none_more : (buckets : List (List ℕ)) → AllEmpty buckets → AllEmpty (buckets ++ [] ∷ [])
none_more [] h zero = refl
none_more [] h (suc n) = refl
none_more (b ∷ bs) h zero = h zero
none_more (b ∷ bs) h (suc n) = none_more bs (λ n. h (suc n)) n

all_dropped : (xs : List (List ℕ)) (w : List ℕ) → length xs + place_of (drop (length xs) xs) w ≡ length xs
all_dropped [] w = refl
all_dropped (x ∷ xs) w = let ih = all_dropped xs w in omega (arith, ih)

pub none_find : (words buckets : List (List ℕ)) → AllEmpty buckets → FindsFrom words buckets (length words)
none_find words buckets h w = ap (λ ns. first_of words ns w) (h (slot_of (length buckets) w)) ∙ sym (all_dropped words w)

pub found_all : (words buckets : List (List ℕ)) → FindsFrom words buckets 0 → Finds words buckets
found_all words buckets h w = h w ∙ (let e : 0 + place_of words w ≡ place_of words w = omega arith in e)

module _ (words buckets : List (List ℕ)) (n slot : ℕ) (l : n < length words) (s : slot ≡ slot_of (length buckets) (get_or words n [])) (within : slot < length buckets) (h : FindsFrom words buckets (n + 1)) where
  abbrev t : List ℕ
  t = get_or words n []

  abbrev next : List (List ℕ)
  next = set buckets slot (n ∷ get_or buckets slot [])

  cut : drop n words ≡ t ∷ drop (n + 1) words
  cut = drop_more words n [] l

  here_or : (b : Bool) (p q : ℕ) → q ≡ (n + 1) + p → cond b n q ≡ n + cond b 0 (suc p)
  here_or true p q e = omega arith
  here_or false p q e = omega (arith, e)

  at_slot : (w : List ℕ) → slot_of (length buckets) w ≡ slot → first_of words (get_or next slot []) w ≡ n + place_of (drop n words) w
  at_slot w e =
      ap (λ ns. first_of words ns w) (get_or-set_same buckets slot (n ∷ get_or buckets slot []) [] within)
      ∙ here_or (bytes_eq t w) (place_of (drop (n + 1) words) w) (first_of words (get_or buckets slot []) w) (ap (λ k. first_of words (get_or buckets k []) w) (sym e) ∙ h w)
      ∙ ap (λ ws. n + place_of ws w) (sym cut)

  other_or : (b : Bool) (p q : ℕ) → b ≡ false → q ≡ (n + 1) + p → q ≡ n + cond b 0 (suc p)
  other_or true p q f e = absurd cc
  other_or false p q f e = omega (arith, e)

  elsewhere : (w : List ℕ) → slot_of (length buckets) w ≢ slot → first_of words (get_or next (slot_of (length buckets) w) []) w ≡ n + place_of (drop n words) w
  elsewhere w ne =
      ap (λ ns. first_of words ns w) (get_or-set_other buckets slot (slot_of (length buckets) w) (n ∷ get_or buckets slot []) [] ne)
      ∙ other_or (bytes_eq t w) (place_of (drop (n + 1) words) w) (first_of words (bucket_of buckets w) w)
      (false_from_ne_true (bytes_eq t w) (λ e. ne (ap (slot_of (length buckets)) (sym ((bytes_eq-Decides t w).0 e)) ∙ sym s))) (h w)
      ∙ ap (λ ws. n + place_of ws w) (sym cut)

  by_slot : (w : List ℕ) (d : Dec (slot_of (length buckets) w ≡ slot)) → first_of words (get_or next (slot_of (length buckets) w) []) w ≡ n + place_of (drop n words) w
  by_slot w (yes e) = ap (λ k. first_of words (get_or next k []) w) e ∙ at_slot w e
  by_slot w (no ne) = elsewhere w ne

  pub one_more : (more : List (List ℕ)) → more ≡ next → length more ≡ length buckets → FindsFrom words more n
  one_more more e k w =
      ap (λ bs. first_of words (get_or bs (slot_of (length more) w) []) w) e
      ∙ ap (λ c. first_of words (get_or next (slot_of c w) []) w) k
      ∙ by_slot w (ℕ_discrete (slot_of (length buckets) w) slot)

-- the last of the first words is entered
pub entered : (words buckets more : List (List ℕ)) (end slot : ℕ) → 0 < end → end ≤ length words → slot ≡ slot_of (length buckets) (get_or words (end - 1) []) → slot < length buckets
    → FindsFrom words buckets end → more ≡ set buckets slot ((end - 1) ∷ get_or buckets slot []) → FindsFrom words more (end - 1)
entered words buckets more end slot some within s below h e =
    let l : end - 1 < length words = omega (arith, some, within) in
    let next : end ≡ end - 1 + 1 = omega (arith, some) in
    one_more words buckets (end - 1) slot l s below (subst (FindsFrom words buckets) next h) more e (ap length e ∙ length-set buckets slot ((end - 1) ∷ get_or buckets slot []))

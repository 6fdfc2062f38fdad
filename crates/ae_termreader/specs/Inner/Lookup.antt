-- Words by the remainders of their hashes: what a look-up finds.
use Rattle.std.specs.Prelude.{ℕ, ◌+◌, ◌*◌, ◌%◌, cond, List, [], ◌∷◌, ◌≡◌, length, drop, get_or}
use Rattle.std.specs.Str.{bytes_eq}
use Rattle.ae_readers.specs.Readers.{place_of}

abbrev pub hash_from : ℕ → List ℕ → ℕ
hash_from h [] = h
hash_from h (x ∷ xs) = hash_from ((h * 257 + x) % 4294967296) xs

abbrev pub slot_of : ℕ → List ℕ → ℕ
slot_of count w = hash_from 0 w % count

-- the first of the places where the word stands; the number of the words where it stands at none
abbrev pub first_of : List (List ℕ) → List ℕ → List ℕ → ℕ
first_of words [] w = length words
first_of words (n ∷ ns) w = cond (bytes_eq (get_or words n []) w) n (first_of words ns w)

abbrev pub bucket_of : List (List ℕ) → List ℕ → List ℕ
bucket_of buckets w = get_or buckets (slot_of (length buckets) w) []

-- the buckets hold the words from a place on
abbrev pub FindsFrom : List (List ℕ) → List (List ℕ) → ℕ → Type 0
FindsFrom words buckets n = (w : List ℕ) → first_of words (bucket_of buckets w) w ≡ n + place_of (drop n words) w

abbrev pub Finds : List (List ℕ) → List (List ℕ) → Type 0
Finds words buckets = (w : List ℕ) → first_of words (bucket_of buckets w) w ≡ place_of words w

abbrev pub AllEmpty : List (List ℕ) → Type 0
AllEmpty buckets = (n : ℕ) → get_or buckets n [] ≡ []

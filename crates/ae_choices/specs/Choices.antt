-- One of a few words, and what stands behind it.
use Rattle.std.specs.Prelude.{ℕ, cond, List, [], ◌∷◌, drop, length}
use Rattle.ae_codes.specs.Codes.{Read, stops}
use Rattle.ae_codes.specs.Tables.{begins}
use Rattle.ae_readers.specs.Readers.{most}

-- words, each with what is read behind it
abbrev pub Arms : Type 0 → Type 0
Arms A = List ((w : List ℕ) × (List ℕ → Read A))

abbrev pub words_of : {A : Type 0} → Arms A → List (List ℕ)
words_of [] = []
words_of (p ∷ ps) = p.0 ∷ words_of ps

-- by the one that the bytes begin with; `all` are the words that may stand there
abbrev pub picked : {A : Type 0} → List (List ℕ) → Arms A → List ℕ → Read A
picked all [] bytes = stops (drop (most 0 all bytes) bytes)
picked all (p ∷ ps) bytes = cond (begins p.0 bytes) (p.1 (drop (length p.0) bytes)) (picked all ps bytes)

-- What stands behind one of a few words: the grammar's arms by word, and the arms of a table.
use Rattle.std.proofs.Common.{ℕ, Bool, true, false, cond, IsTrue, List, [], ◌∷◌, ◌≡◌, drop, length, refl, ap, ◌∙◌}
use Rattle.ae_codes.specs.Codes.{Read, got, Code}
use Rattle.ae_codes.specs.Names.{Listed}
use Rattle.ae_codes.specs.Tables.{all_apart, begins, tagged}
use Rattle.ae_readers.specs.Readers.{AsksNoMemory, FaultIs, after_read, chosen, fixed_or, fixed_read}
use Rattle.ae_readers.specs.declared.fault.Fault.{Fault}
use Rattle.ae_readers.specs.declared.fault.Fault.TheVariants.{At, WideNumber, Memory}
use Rattle.std.specs.Prelude.{Err}
use Rattle.ae_readers.proofs.WordReading.{tagged_chosen}
use Rattle.ae_choices.specs.Choices.{Arms, picked}

-- the arms by word are those of the table
abbrev pub ArmsAgree : {A : Type 0} → (List ℕ → List ℕ → Read A) → List (List ℕ) → Arms A → Type 0
ArmsAgree arms [] [] = Unit {0}
ArmsAgree arms [] (p ∷ ps) = ⊥
ArmsAgree arms (w ∷ ws) [] = ⊥
ArmsAgree arms (w ∷ ws) (p ∷ ps) = (w ≡ p.0) × ((rest : List ℕ) → arms w rest ≡ p.1 rest) × ArmsAgree arms ws ps

module _ {A : Type 0} (arms : List ℕ → List ℕ → Read A) (all : List (List ℕ)) (bytes : List ℕ) where
  step : (b : Bool) (r r' q q' : Read A) → r ≡ r' → q ≡ q' → cond b r q ≡ cond b r' q'
  step true r r' q q' e h = e
  step false r r' q q' e h = h

  pub chosen_picked : (ws : List (List ℕ)) (ps : Arms A) → ArmsAgree arms ws ps → chosen arms all ws bytes ≡ picked all ps bytes
  chosen_picked [] [] h = refl
  chosen_picked [] (p ∷ ps) h = absurd h
  chosen_picked (w ∷ ws) [] h = absurd h
  chosen_picked (w ∷ ws) (p ∷ ps) h =
      step (begins w bytes) (arms w (drop (length w) bytes)) (p.1 (drop (length w) bytes)) (chosen arms all ws bytes) (picked all ps bytes) (h.1 (drop (length w) bytes)) (chosen_picked ws ps h.2)
      ∙ ap (λ z. cond (begins z bytes) (p.1 (drop (length z) bytes)) (picked all ps bytes)) h.0

module _ {A B : Type 0} (arms : List ℕ → List ℕ → Read A) (F : A → List ℕ → Read B) (all : List (List ℕ)) (bytes : List ℕ) where
  then_step : (b : Bool) (r q : Read A) (q' : Read B) → after_read q F ≡ q' → after_read (cond b r q) F ≡ cond b (after_read r F) q'
  then_step true r q q' e = refl
  then_step false r q q' e = e

  chosen_then : (ws : List (List ℕ)) → after_read (chosen arms all ws bytes) F ≡ chosen (λ w rest. after_read (arms w rest) F) all ws bytes
  chosen_then [] = refl
  chosen_then (w ∷ ws) = then_step (begins w bytes) (arms w (drop (length w) bytes)) (chosen arms all ws bytes) (chosen (λ w rest. after_read (arms w rest) F) all ws bytes) (chosen_then ws)

-- what is made of a tagged value, by a table whose arms make it
module _ {A B : Type 0} (t : List ℕ) (ts : List (List ℕ)) (h : IsTrue (all_apart (t ∷ ts))) (arms : List ℕ → Code A) (tag : A → List ℕ) (law : (w : List ℕ) (a : A) → Listed (t ∷ ts) w → (arms w).Fits a → tag a ≡ w)
    (F : A → List ℕ → Read B) (ps : Arms B) (agree : ArmsAgree (λ w rest. after_read ((arms w).read rest) F) (t ∷ ts) ps) where
  pub tagged_picked : (bytes : List ℕ) → after_read ((tagged t ts h arms tag law).read bytes) F ≡ picked (t ∷ ts) ps bytes
  tagged_picked bytes =
      ap (λ r. after_read r F) (tagged_chosen t ts h arms tag law bytes)
      ∙ chosen_then (λ w rest. (arms w).read rest) F (t ∷ ts) bytes (t ∷ ts)
      ∙ chosen_picked (λ w rest. after_read ((arms w).read rest) F) (t ∷ ts) bytes (t ∷ ts) ps agree

-- ---- one word
got_begins : (b : Bool) (w bytes rest : List ℕ) → fixed_or b w bytes ≡ got tt rest → b ≡ true
got_begins true w bytes rest e = refl
got_begins false w bytes rest e = absurd cc

pub fixed_begins : (w bytes rest : List ℕ) → fixed_read w bytes ≡ got tt rest → begins w bytes ≡ true
fixed_begins w bytes rest e = got_begins (begins w bytes) w bytes rest e

got_behind : (b : Bool) (w bytes rest : List ℕ) → fixed_or b w bytes ≡ got tt rest → rest ≡ drop (length w) bytes
got_behind true w bytes rest e = cc
got_behind false w bytes rest e = absurd cc

pub fixed_behind : (w bytes rest : List ℕ) → fixed_read w bytes ≡ got tt rest → rest ≡ drop (length w) bytes
fixed_behind w bytes rest e = got_behind (begins w bytes) w bytes rest e

none_begins : (b : Bool) (w text bytes : List ℕ) (f : Fault) → FaultIs text f (fixed_or b w bytes) → AsksNoMemory {A = Unit {0}} (Err f) → b ≡ false
none_begins false w text bytes f e m = refl
none_begins true w text bytes (At p) e m = absurd cc
none_begins true w text bytes (WideNumber p) e m = absurd cc
none_begins true w text bytes Memory e m = absurd m

pub fixed_lacks : (w text bytes : List ℕ) (f : Fault) → FaultIs text f (fixed_read w bytes) → AsksNoMemory {A = Unit {0}} (Err f) → begins w bytes ≡ false
fixed_lacks w text bytes f e m = none_begins (begins w bytes) w text bytes f e m

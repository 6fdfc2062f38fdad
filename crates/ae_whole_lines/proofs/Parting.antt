-- Whole lines, a line of exactly `%%` and any bytes behind it are parted at that line, where none of the lines is `%%`.
use Rattle.std.proofs.Common.{ℕ, ◌≤◌, List, [], ◌∷◌, ◌++◌, ◌≡◌, length, inl, inr, refl, sym, ap, ◌∙◌, arith, append_assoc, length-append, codes}
use Rattle.std.proofs.lemmas.List.{same_from_push}
use Rattle.ae_codes.specs.Codes.{cuts, no_cons}
use Rattle.ae_report.specs.Lines.{AreLines, none, ended}
use Rattle.ae_separator.specs.Separators.{Separates, line, last, HasNoSeparator, IsParted}
use Rattle.ae_whole_lines.specs.WholeLines.{IsInLines, whole, broken}
use Rattle.ae_whole_lines.proofs.LastBytes.{break_cut}

-- whole lines don't end with another byte than a line break
ends_otherwise : (l b : List ℕ) (x : ℕ) → AreLines l → l ≡ b ++ x ∷ [] → x ≡ 10
ends_otherwise l b x none e = absurd (no_cons b x [] (sym e))
ends_otherwise l b x (ended bs) e = sym (same_from_push bs b 10 x e).1

are_lines : (text lines : List ℕ) → IsInLines text lines → AreLines lines
are_lines text lines (whole a) = a
are_lines text lines (broken n) = ended text

-- a line `%%` in the lines of a text is one of the text
in_text : (text lines b m : List ℕ) → IsInLines text lines → AreLines b → lines ≡ b ++ 37 ∷ 37 ∷ 10 ∷ m → HasNoSeparator text → ⊥
in_text text lines b m (whole a) lb e n = n b m (line b m lb e)
in_text text lines b m (broken a) lb e n =
    let cut : text ++ 10 ∷ [] ≡ (b ++ 37 ∷ 37 ∷ 10 ∷ []) ++ m = e ∙ sym (append_assoc b (37 ∷ 37 ∷ 10 ∷ []) m) in
    elim (break_cut text (b ++ 37 ∷ 37 ∷ 10 ∷ []) m cut) [
      | inl s ↦ n b [] (last b lb (sym (same_from_push (b ++ 37 ∷ 37 ∷ []) text 10 10 (append_assoc b (37 ∷ 37 ∷ []) (10 ∷ []) ∙ s)).0))
      | inr r ↦ n b r.0 (line b r.0 lb (r.1 ∙ append_assoc b (37 ∷ 37 ∷ 10 ∷ []) r.0))
    ]

-- what begins with a line `%%` goes on behind its three bytes
goes_on : (text lines b m bytes a : List ℕ) (x : ℕ) → IsInLines text lines → AreLines b → lines ≡ b ++ x ∷ m → 37 ∷ 37 ∷ 10 ∷ a ≡ x ∷ m ++ 37 ∷ 37 ∷ 10 ∷ bytes → HasNoSeparator text → ⊥
goes_on text lines b [] bytes a x l lb e c n =
    let s : 37 ≡ x = cc in
    let t = ends_otherwise lines b x (are_lines text lines l) e in
    omega (arith, s, t)
goes_on text lines b (y ∷ []) bytes a x l lb e c n =
    let s : 37 ≡ y = cc in
    let t = ends_otherwise lines (b ++ x ∷ []) y (are_lines text lines l) (e ∙ sym (append_assoc b (x ∷ []) (y ∷ []))) in
    omega (arith, s, t)
goes_on text lines b (y ∷ z ∷ m) bytes a x l lb e c n =
    let p : x ≡ 37 = cc in
    let q : y ≡ 37 = cc in
    let r : z ≡ 10 = cc in
    in_text text lines b m l lb (e ∙ (λ i. b ++ p i ∷ q i ∷ r i ∷ m)) n

module _ (text lines bytes : List ℕ) (l : IsInLines text lines) (n : HasNoSeparator text) where
  first_one : (b a : List ℕ) → Separates (lines ++ (codes "%%\n" ++ bytes)) b a → length lines ≤ length b
  first_one b a (line c d lb e) = elim (cuts lines c (37 ∷ 37 ∷ 10 ∷ bytes) (37 ∷ 37 ∷ 10 ∷ d) e) [
    | inl m ↦ (let k = ap length m.1 in omega (arith, k, length-append lines m.0))
    | inr m ↦ absurd (goes_on text lines c m.1 bytes d m.0 l lb m.2 m.3 n)
  ]
  first_one b a (last c lb e) = elim (cuts lines c (37 ∷ 37 ∷ 10 ∷ bytes) (37 ∷ 37 ∷ []) e) [
    | inl m ↦ (let k = ap length m.1 in omega (arith, k, length-append lines m.0))
    | inr m ↦ (let k = ap length m.3 in absurd (omega (arith, k, length-append m.1 (37 ∷ 37 ∷ 10 ∷ bytes))))
  ]

pub parted : (text lines bytes : List ℕ) → IsInLines text lines → HasNoSeparator text → IsParted (lines ++ (codes "%%\n" ++ bytes)) lines bytes
parted text lines bytes l n = record { here = line lines bytes (are_lines text lines l) refl; first = first_one text lines bytes l n }

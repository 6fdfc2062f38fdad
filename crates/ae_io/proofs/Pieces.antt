-- A piece that is read out of the bytes.
use Rattle.std.proofs.Common.{◌≡◌, ℕ, ◌+◌, ◌-◌, ◌≤◌, ◌<◌, min, List, [], ◌++◌, length, take, drop, sym, ap, ◌∙◌, arith}
use Rattle.std.proofs.Math.Seq.{take-append_seam}
use Rattle.std.proofs.Math.ListN.{drop_of_length-le}
use Rattle.std.proofs.lemmas.List.{take-append-drop, drop-drop}
use Rattle.std.specs.List.{slice_range}

drop_more : (xs : List ℕ) (at m : ℕ) → drop (at + m) xs ≡ drop m (drop at xs)
drop_more xs at m = sym (drop-drop m at xs)

pub piece_read : (xs ys rest : List ℕ) (at m : ℕ) → ys ≡ slice_range xs at (at + m) → length ys ≡ m → drop at xs ≡ take m (ys ++ rest) ++ drop (at + m) xs
piece_read xs ys rest at m e len =
    let n : at + m - at ≡ m = omega arith in
    sym (take-append-drop m (drop at xs))
    ∙ ap (λ z. take m (drop at xs) ++ z) (sym (drop_more xs at m))
    ∙ ap (λ z. z ++ drop (at + m) xs) (ap (λ k. take k (drop at xs)) (sym n) ∙ sym e ∙ sym (take-append_seam ys rest) ∙ ap (λ k. take k (ys ++ rest)) len)

pub none_left : (xs : List ℕ) (at m piece room : ℕ) → m ≡ min (min (length xs - at) piece) room → 1 ≤ piece → 0 < room → m ≡ 0 → drop (at + m) xs ≡ []
none_left xs at m piece room e p r z = drop_of_length-le xs (omega arith)

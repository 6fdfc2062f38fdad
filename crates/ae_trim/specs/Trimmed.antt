-- The proof of the used lines of a proof, in their order, with the hints renumbered.
use Rattle.std.specs.Prelude.{ℕ, nat_eq, List, ◌≡◌, map, length, slice_get, Some}
use Rattle.std.specs.List.{position_or_len}
use Rattle.ae_core.specs.declared.proofs.ClauseLine.{ClauseLine}
use Rattle.ae_core.specs.declared.proofs.ClauseLine.TheVariants.{Rup}
use Rattle.ae_core.specs.declared.proofs.Proof.{Proof}
use Rattle.ae_trim.specs.Used.{AreUsed}

-- the place of a number in a list; the list's length where it isn't there
abbrev pub place_in : List ℕ → ℕ → ℕ
place_in ns k = position_or_len (λ n. nat_eq n k) ns

-- the line where its hints have new numbers
abbrev pub renumbered : (ℕ → ℕ) → ClauseLine → ClauseLine
renumbered number (Rup c ks) = Rup c (map number ks)
renumbered number l = l

-- the lines at these places, in this order, where hints have new numbers
pub record AreKept (number : ℕ → ℕ) (lines : List ClauseLine) (places : List ℕ) (kept : List ClauseLine) : Type 0 where
  pub count : length kept ≡ length places
  pub each : (i k : ℕ) (l : ClauseLine) → slice_get places i ≡ Some k → slice_get lines k ≡ Some l → slice_get kept i ≡ Some (renumbered number l)

-- the used lines alone; a line's new number is its place among them
pub record IsTrimmed (proof trimmed : Proof) : Type 0 where
  pub places : List ℕ
  pub are_used : AreUsed proof.lines places
  pub kept : AreKept (place_in places) proof.lines places trimmed.lines

-- Going on with rows that are kept.
use Rattle.std.specs.Prelude.{ℕ, ◌≡◌, ◌≢◌, [], Option, Some}
use Rattle.ae_inequalities.specs.Held.{Fits}
use Rattle.ae_kept_rows.specs.declared.kept.KeptRows.{KeptRows}
use Rattle.ae_store.specs.Stores.{Stored}

-- the rows that are kept, where the journal still has so many lines, or else none
pub data GoesOnFrom (lines : ℕ) (kept : Option KeptRows) (now : KeptRows) : Type 0 where
  same : (k : KeptRows) → kept ≡ Some k → k.lines ≡ lines → now ≡ k → GoesOnFrom lines kept now
  anew : ((k : KeptRows) → kept ≡ Some k → k.lines ≢ lines) → now.bounds ≡ record { rows = []; given = []; tags = [] } → ((s : Stored) → Fits s now.bounds) → now.literals ≡ 0 → GoesOnFrom lines kept now

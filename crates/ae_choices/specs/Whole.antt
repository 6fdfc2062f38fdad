-- What the reader of a whole text answers: the value whose text it is, or a fault.
use Rattle.std.specs.Prelude.{List, ℕ, ◌≡◌, Result, Ok, Err}
use Rattle.ae_codes.specs.Codes.{Code}
use Rattle.ae_readers.specs.Readers.{FaultOf}
use Rattle.ae_readers.specs.declared.fault.Fault.{Fault}

-- the text is that of the value, with nothing behind it; or the first byte that no text of the kind continues stands at the fault's place, or a numeral outside the limits
-- before any such byte
unfoldable pub ReadsWhole : {A : Type 0} → Code A → List ℕ → Result A Fault → Type 0
ReadsWhole c text (Ok v) = (text ≡ c.text v) × c.Fits v
ReadsWhole c text (Err f) = FaultOf c text text f

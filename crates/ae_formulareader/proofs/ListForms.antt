-- Lists that stand in a line by themselves are read as lists in a layer are.
use Rattle.std.proofs.Common.{ℕ, false, nat_eq, List, ◌++◌, ◌∷◌, [], ◌≡◌, ◌∙◌}
use Rattle.ae_codes.specs.Codes.{Code, Begins}
use Rattle.ae_codes.specs.Nested.{Shaped}
use Rattle.ae_codes.specs.Plans.{known}
use Rattle.ae_codes.specs.Rows.{ItemShape, rows}
use Rattle.ae_codes.specs.Listings.{is_byte, no_shape, no_sure, no_codes, no_inner, one_item, one_shaped, one_begins, listing_code}
use Rattle.ae_readers.specs.Readers.{list_read}
use Rattle.ae_readers.proofs.RowReading.{listing_is}
use Rattle.ae_termreader.proofs.TermReading.{same_list}

module _ {X : Type 0} (last : ℕ) (other : nat_eq last 32 ≡ false) (item : Code ((x : X) × ℕ)) (x0 : X) (sh : Shaped (ItemShape last) (x0, last) item) (t : X → List ℕ)
    (law : (v : (x : X) × ℕ) → item.Fits v → item.text v ≡ t v.0 ++ v.1 ∷ []) where
  pub listed_is : (first : Begins item (is_byte last) false) (bytes : List ℕ) → (listing_code last other item x0 sh t law first).read bytes ≡ list_read last (rows last other item x0 sh) bytes
  unfolding listing_code known
  listed_is first bytes =
      listing_is {T = λ i. Unit {0}} no_shape no_sure last other (one_item last other item x0 sh t law) x0 (one_shaped last other item x0 sh t law) no_codes no_inner (one_begins last other item x0 sh t law first) bytes
      ∙ same_list last other item x0 (one_shaped last other item x0 sh t law no_codes no_inner) sh bytes

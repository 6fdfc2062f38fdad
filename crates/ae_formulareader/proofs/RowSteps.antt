-- As far as a loop over a row has come: one more value, the last one, and a fault.
use Rattle.std.proofs.Common.{ℕ, nat_eq, List, [], ◌∷◌, ◌++◌, ◌≡◌, ◌≢◌, drop, sym, ap, ◌∙◌}
use Rattle.std.proofs.lemmas.Bool.{eq-eqb, ne_eqb}
use Rattle.ae_codes.specs.Codes.{got, Code}
use Rattle.ae_codes.specs.Rows.{Row}
use Rattle.ae_readers.specs.Readers.{FaultIs, after_read, row_read, more_read, before}
use Rattle.ae_readers.specs.declared.fault.Fault.{Fault}
use Rattle.ae_readers.proofs.RowReading.{goes_on, ends_here, faulty}

module _ {X : Type 0} (c : Code (Row X)) (item : Code ((x : X) × ℕ)) (turn : (bytes : List ℕ) → row_read c bytes ≡ after_read (item.read bytes) (λ v rest. more_read (nat_eq v.1 32) v.0 (row_read c rest) rest))
    (text : List ℕ) (from at : ℕ) (xs : List X) (so_far : row_read c (drop from text) ≡ before xs (row_read c (drop at text))) where
  pub row_goes_on : (v : (x : X) × ℕ) (next : ℕ) (ys : List X) → item.read (drop at text) ≡ got v (drop next text) → v.1 ≡ 32 → ys ≡ xs ++ v.0 ∷ [] → row_read c (drop from text) ≡ before ys (row_read c (drop next text))
  row_goes_on v next ys e q p = goes_on c item turn text from at xs so_far v next e (eq-eqb v.1 32 q) ∙ ap (λ z. before z (row_read c (drop next text))) (sym p)

  pub row_ends : (v : (x : X) × ℕ) (next : ℕ) (ys : List X) → item.read (drop at text) ≡ got v (drop next text) → v.1 ≢ 32 → ys ≡ xs ++ v.0 ∷ [] → row_read c (drop from text) ≡ got ys (drop next text)
  row_ends v next ys e q p = ends_here c item turn text from at xs so_far v next e (ne_eqb v.1 32 q) ∙ ap (λ z. got z (drop next text)) (sym p)

  pub row_fails : (f : Fault) → FaultIs text f (item.read (drop at text)) → FaultIs text f (row_read c (drop from text))
  row_fails f e = faulty c item turn text from at xs so_far f e

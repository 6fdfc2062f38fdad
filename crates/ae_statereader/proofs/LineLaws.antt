-- Lines that were read, and what the whole text is read as.
use Rattle.std.proofs.Common.{ℕ, suc, ◌+◌, true, false, List, [], ◌∷◌, ◌++◌, ◌≡◌, length, drop, refl, sym, ap, ◌∙◌, subst, arith}
use Rattle.std.specs.Prelude.{Ok, Err}
use mathlib.Core.List.{append-nil}
use Rattle.ae_codes.specs.Codes.{Read, got, stops, wide}
use Rattle.ae_readers.specs.Readers.{FaultIs, after_read, steps_before}
use Rattle.ae_readers.proofs.RowReading.{steps_none}
use Rattle.ae_readers.specs.declared.fault.Fault.{Fault}
use Rattle.ae_readers.specs.declared.fault.Fault.TheVariants.{At, WideNumber, Memory}
use Rattle.ae_statereader.specs.Lines.{Lines, LinesRead, starts}

-- ---- as far as a loop has come
module _ {X : Type 0} (room : ℕ → Type 0) (item : ℕ → List ℕ → Read X) (x : ℕ) where
  pub lines_begin : (xs : List X) (bytes : List ℕ) → xs ≡ [] → Lines room item x 0 xs bytes bytes
  lines_begin xs bytes e = subst (λ z. Lines room item x 0 z bytes bytes) (sym e) refl

  more_lines : (n : ℕ) (xs : List X) (bytes r m : List ℕ) (a : X) → Lines room item x n xs bytes r
      → room (n + length xs) → starts x r ≡ true → item (n + length xs) r ≡ got a m → Lines room item x n (xs ++ a ∷ []) bytes m
  more_lines n [] bytes r m a h k s e =
      let z : n + 0 ≡ n = omega arith in
      (subst room z k, ap (starts x) h ∙ s, (m, ap (item n) h ∙ ap (λ k. item k r) (sym z) ∙ e, refl))
  more_lines n (b ∷ xs) bytes r m a h k s e =
      let z : n + suc (length xs) ≡ n + 1 + length xs = omega arith in
      (h.0, h.1, (h.2.0, h.2.1, more_lines (n + 1) xs h.2.0 r m a h.2.2 (subst room z k) s (ap (λ k. item k r) (sym z) ∙ e)))

  pub lines_on : (xs ys : List X) (bytes r m : List ℕ) (n : ℕ) (a : X) → Lines room item x 0 xs bytes r → n ≡ length xs → room n → true ≡ starts x r
      → item n r ≡ got a m → ys ≡ xs ++ a ∷ [] → Lines room item x 0 ys bytes m
  lines_on xs ys bytes r m n a h l k s e p =
      let z : n ≡ 0 + length xs = omega (arith, l) in
      subst (λ w. Lines room item x 0 w bytes m) (sym p) (more_lines 0 xs bytes r m a h (subst room z k) (sym s) (ap (λ k. item k r) (sym z) ∙ e))

  module _ (text : List ℕ) (from at : ℕ) (xs : List X) (far : Lines room item x 0 xs (drop from text) (drop at text)) where
    pub lines_done : false ≡ starts x (drop at text) → LinesRead room item x text from (Ok (xs, at))
    unfolding LinesRead
    lines_done e = (far, sym e)

    pub lines_failed : (n : ℕ) (f : Fault) → n ≡ length xs → room n → true ≡ starts x (drop at text) → FaultIs text f (item n (drop at text)) → LinesRead room item x text from (Err f)
    unfolding LinesRead
    lines_failed n f l k s e = (xs, (drop at text, far, subst room l k, sym s, subst (λ n. FaultIs text f (item n (drop at text))) l e))

-- ---- what the lines make of the whole
module _ {X B : Type 0} (room : ℕ → Type 0) (item : ℕ → List ℕ → Read X) (x : ℕ) (whole : ℕ → List ℕ → Read ((xs : List X) × B)) (rest : List ℕ → Read B)
    (on : (n : ℕ) (bytes : List ℕ) → room n → starts x bytes ≡ true → whole n bytes ≡ after_read (item n bytes) (λ a m. after_read (whole (n + 1) m) (λ v e. got (a ∷ v.0, v.1) e)))
    (off : (n : ℕ) (bytes : List ℕ) → starts x bytes ≡ false → whole n bytes ≡ after_read (rest bytes) (λ b e. got ([], b) e)) where
  cons_before : (a : X) (xs : List X) (r : Read ((xs : List X) × B)) → after_read (steps_before xs r) (λ v e. got (a ∷ v.0, v.1) e) ≡ steps_before (a ∷ xs) r
  cons_before a xs (got v e) = refl
  cons_before a xs (stops r) = refl
  cons_before a xs (wide r) = refl

  far : (n : ℕ) (xs : List X) (bytes r : List ℕ) → Lines room item x n xs bytes r → whole n bytes ≡ steps_before xs (whole (n + length xs) r)
  far n [] bytes r h = let z : n ≡ n + 0 = omega arith in ap (whole n) h ∙ ap (λ k. whole k r) z ∙ steps_none (whole (n + 0) r)
  far n (a ∷ xs) bytes r h =
      let z : n + 1 + length xs ≡ n + suc (length xs) = omega arith in
      on n bytes h.0 h.1
      ∙ ap (λ z. after_read z (λ a m. after_read (whole (n + 1) m) (λ v e. got (a ∷ v.0, v.1) e))) h.2.1
      ∙ ap (λ z. after_read z (λ v e. got (a ∷ v.0, v.1) e)) (far (n + 1) xs h.2.0 r h.2.2)
      ∙ cons_before a xs (whole (n + 1 + length xs) r)
      ∙ ap (λ k. steps_before (a ∷ xs) (whole k r)) z

  all_before : (xs : List X) (r : Read B) → steps_before xs (after_read r (λ b e. got ([], b) e)) ≡ after_read r (λ b e. got (xs, b) e)
  all_before xs (got b e) = ap (λ z. got (z, b) e) (append-nil xs)
  all_before xs (stops r) = refl
  all_before xs (wide r) = refl

  module _ (text : List ℕ) (from : ℕ) where
    then_rest : (v : (xs : List X) × ℕ) → LinesRead room item x text from (Ok v) → whole 0 (drop from text) ≡ after_read (rest (drop v.1 text)) (λ b e. got (v.0, b) e)
    unfolding LinesRead
    then_rest v h = far 0 v.0 (drop from text) (drop v.1 text) h.0 ∙ ap (steps_before v.0) (off (0 + length v.0) (drop v.1 text) h.1) ∙ all_before v.0 (rest (drop v.1 text))

    -- the rest is read behind them
    pub rest_read : (v : (xs : List X) × ℕ) (b : B) (next : ℕ) → LinesRead room item x text from (Ok v) → rest (drop v.1 text) ≡ got b (drop next text) → whole 0 (drop from text) ≡ got (v.0, b) (drop next text)
    rest_read v b next h e = then_rest v h ∙ ap (λ r. after_read r (λ b e. got (v.0, b) e)) e

    pub rest_fails : (v : (xs : List X) × ℕ) (f : Fault) → LinesRead room item x text from (Ok v) → FaultIs text f (rest (drop v.1 text)) → FaultIs text f (whole 0 (drop from text))
    rest_fails v (At p) h e = then_rest v h ∙ ap (λ r. after_read r (λ b e. got (v.0, b) e)) e
    rest_fails v (WideNumber p) h e = then_rest v h ∙ ap (λ r. after_read r (λ b e. got (v.0, b) e)) e
    rest_fails v Memory h e = tt

    to_fault : (xs : List X) (r : List ℕ) (q : Read X) → Lines room item x 0 xs (drop from text) r → room (length xs) → starts x r ≡ true → item (length xs) r ≡ q
        → whole 0 (drop from text) ≡ steps_before xs (after_read q (λ a m. after_read (whole (length xs + 1) m) (λ v e. got (a ∷ v.0, v.1) e)))
    to_fault xs r q h k s e =
        let z : 0 + length xs ≡ length xs = omega arith in
        far 0 xs (drop from text) r h
        ∙ ap (λ k. steps_before xs (whole k r)) z
        ∙ ap (steps_before xs) (on (length xs) r k s ∙ ap (λ q. after_read q (λ a m. after_read (whole (length xs + 1) m) (λ v e. got (a ∷ v.0, v.1) e))) e)

    pub line_fails : (f : Fault) → LinesRead room item x text from (Err f) → FaultIs text f (whole 0 (drop from text))
    unfolding LinesRead
    line_fails (At p) h = to_fault h.0 h.1.0 (stops (drop p text)) h.1.1 h.1.2 h.1.3 h.1.4
    line_fails (WideNumber p) h = to_fault h.0 h.1.0 (wide (drop p text)) h.1.1 h.1.2 h.1.3 h.1.4
    line_fails Memory h = tt

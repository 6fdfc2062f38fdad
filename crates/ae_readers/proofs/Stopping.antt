-- Where a reader has to stop: behind bytes that go on to a text, where with the next byte none begins so.
use Rattle.std.proofs.Common.{ℕ, suc, ◌≤◌, ◌<◌, List, [], ◌∷◌, ◌++◌, ◌≡◌, length, refl, sym, ap, ◌∙◌, append_assoc, arith, subst, take, drop}
use Rattle.std.proofs.lemmas.List.{take-append-drop, length-take-le}
use mathlib.Core.Logic.{inl, inr, ◌≢◌}
use Rattle.ae_readers.specs.Readers.{common}
use Rattle.ae_readers.proofs.Commons.{common_within, common_take, common_of, cut_at}
use Rattle.ae_codes.specs.Codes.{Read, got, stops, wide, Code, Stop, SameHead, NotGot, WrongAt, first_of, cuts, halts, wrong_is_not_read, reads_text}

module _ {A : Type 0} (c : Code A) (front r : List ℕ) (w : WrongAt c front r) where
  -- the bytes that are read before the stop go no further
  not_past : (q m : List ℕ) (s : Stop c.Fits c.text c.read (front ++ r) q) → s.reached.front ≡ front ++ m → r ≡ m ++ q → q ≡ r
  not_past q [] s e f = sym f
  not_past q (y ∷ m) s e f =
      let head : first_of r ≡ y ∷ [] = ap first_of f in
      absurd (w.wrong s.reached.value (m ++ s.reached.more) s.reached.fits
      (λ z. let l : suc 0 ≡ 0 = ap length (sym head ∙ z) in omega arith)
      (s.reached.spelled ∙ ap (λ z. z ++ s.reached.more) e ∙ append_assoc front (y ∷ m) s.reached.more
      ∙ sym (append_assoc front (y ∷ []) (m ++ s.reached.more)) ∙ ap (λ z. (front ++ z) ++ (m ++ s.reached.more)) (sym head)))

  -- nor do they end sooner
  not_before : (q m : List ℕ) (x : ℕ) (s : Stop c.Fits c.text c.read (front ++ r) q) → front ≡ s.reached.front ++ x ∷ m → q ≡ x ∷ m ++ r → q ≡ r
  not_before q m x s e f =
      let whole : c.text w.value ≡ s.reached.front ++ (x ∷ (m ++ w.next ∷ w.more)) =
      w.spelled ∙ ap (λ z. z ++ w.next ∷ w.more) e ∙ append_assoc s.reached.front (x ∷ m) (w.next ∷ w.more) in
      absurd (subst NotGot (ap c.read (sym whole) ∙ reads_text c w.value w.fits)
      (s.blocked (x ∷ (m ++ w.next ∷ w.more)) (subst (λ z. SameHead z (x ∷ (m ++ w.next ∷ w.more))) (sym f) refl)))

  same_stop : (q : List ℕ) → Stop c.Fits c.text c.read (front ++ r) q → q ≡ r
  same_stop q s = elim (cuts front s.reached.front r q s.reached.cut) [
    | inl m ↦ not_past q m.0 s m.1 m.2
    | inr m ↦ not_before q m.1 m.0 s m.2 m.3
  ]

  stops_by : (x : Read A) → c.read (front ++ r) ≡ x → ((q : List ℕ) → c.read (front ++ r) ≡ wide q → ⊥) → x ≡ stops r
  stops_by (got a rest) e narrow = absurd (wrong_is_not_read c front r w a rest e)
  stops_by (stops q) e narrow = ap stops (same_stop q (halts c (front ++ r) q e))
  stops_by (wide q) e narrow = absurd (narrow q e)

  pub stops_there : ((q : List ℕ) → c.read (front ++ r) ≡ wide q → ⊥) → c.read (front ++ r) ≡ stops r
  stops_there narrow = stops_by (c.read (front ++ r)) refl narrow

-- ---- the text that has most in common with the bytes says where the first wrong one stands
module _ {A : Type 0} (c : Code A) (bytes : List ℕ) (u : A) (fits : c.Fits u) (greatest : (a : A) → c.Fits a → common (c.text a) bytes ≤ common (c.text u) bytes) (short : common (c.text u) bytes < length (c.text u)) where
  abbrev far : ℕ
  far = common (c.text u) bytes

  room : far ≤ length bytes
  room = common_within (c.text u) bytes

  -- a text that goes on with the next byte would have more in common
  no_longer : (r : List ℕ) (a : A) (rest : List ℕ) → bytes ≡ take far bytes ++ r → c.Fits a → first_of r ≢ [] → c.text a ≢ (take far bytes ++ first_of r) ++ rest
  no_longer [] a rest e f n q = n refl
  no_longer (y ∷ r) a rest e f n q =
      let g = greatest a f in
      let l : length (take far bytes) ≡ far = length-take-le far bytes room in
      let more = common_of (take far bytes) y rest r in
      let same : common (c.text a) bytes ≡ common ((take far bytes ++ y ∷ []) ++ rest) (take far bytes ++ y ∷ r) = λ i. common (q i) (e i) in
      omega (arith, more, same, g, l)

  pub wrong_behind : WrongAt c (take far bytes) (drop far bytes)
  wrong_behind =
      let k = cut_at far (c.text u) short in
      record {
        value = u;
        next = k.0;
        more = k.1;
        fits = fits;
        spelled = k.2 ∙ ap (λ z. z ++ k.0 ∷ k.1) (common_take (c.text u) bytes);
        wrong = λ a rest f. no_longer (drop far bytes) a rest (sym (take-append-drop far bytes)) f;
      }

  pub stops_behind : ((q : List ℕ) → c.read bytes ≡ wide q → ⊥) → c.read bytes ≡ stops (drop far bytes)
  stops_behind narrow =
      let cut = take-append-drop far bytes in
      ap c.read (sym cut) ∙ stops_there c (take far bytes) (drop far bytes) wrong_behind (λ q e. narrow q (ap c.read (sym cut) ∙ e))

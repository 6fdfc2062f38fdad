-- A scan, byte by byte, and what it comes to.
use Rattle.std.proofs.Common.{ℕ, ◌+◌, ◌≤◌, ◌<◌, get_or, ◌≡◌, ◌≢◌, ◌⊎◌, Bool, true, false, cond, nat_eq, List, [], ◌∷◌, ◌++◌, length, take, drop, refl, sym, ap, ◌∙◌, subst, inl, inr, arith, append_assoc, append-nil, length-append}
use mathlib.Core.List.{cons≢nil}
use Rattle.std.proofs.Math.Seq.{take-append_seam, drop-length}
use Rattle.std.proofs.lemmas.List.{length-take, take-append-drop, take_all, take_more}
use Rattle.std.proofs.lemmas.Bool.{eqb-true, eqb-false}
use Rattle.ae_codes.specs.Codes.{cuts, no_cons}
use Rattle.ae_report.specs.Lines.{AreLines, none, ended}
use Rattle.ae_separator.specs.Inner.Scans.{HasNoEnd, HasNone, LineIs, Scanned, line_with}
use Rattle.ae_separator.specs.Separators.{HasNoSeparator, IsParted, Separates, line, last}
use Rattle.ae_separator.specs.declared.separator.Line.{Line}
use Rattle.ae_separator.specs.declared.separator.Line.TheVariants.{Nothing, OneSign, TwoSigns, Other}

-- ---- lists
heads : (x y : ℕ) (xs ys : List ℕ) → x ∷ xs ≡ y ∷ ys → (x ≡ y) × (xs ≡ ys)
heads x y xs ys e = let p : x ≡ y = cc in let q : xs ≡ ys = cc in (p, q)

ends : (l : List ℕ) → AreLines l → (l ≡ []) ⊎ ((bs : List ℕ) × (l ≡ bs ++ 10 ∷ []))
ends l none = inl refl
ends l (ended bs) = inr (bs, refl)

-- the last bytes of two lists
same_last : (xs ys : List ℕ) (x y : ℕ) → xs ++ x ∷ [] ≡ ys ++ y ∷ [] → x ≡ y
same_last [] [] x y e = (heads x y [] [] e).0
same_last [] (b ∷ ys) x y e = absurd (no_cons ys y [] (sym (heads x b [] (ys ++ y ∷ []) e).1))
same_last (a ∷ xs) [] x y e = absurd (no_cons xs x [] (heads a y (xs ++ x ∷ []) [] e).1)
same_last (a ∷ xs) (b ∷ ys) x y e = same_last xs ys x y (heads a b (xs ++ x ∷ []) (ys ++ y ∷ []) e).1

-- whole lines don't end with a sign
no_sign_last : (l b : List ℕ) → AreLines l → l ≡ b ++ 37 ∷ [] → ⊥
no_sign_last l b a e = elim (ends l a) [
  | inl n ↦ absurd (no_cons b 37 [] (sym e ∙ n))
  | inr m ↦ let s : 37 ≡ 10 = same_last b m.0 37 10 (sym e ∙ m.1) in omega (arith, s)
]

-- an end stands in no list without one
no_end_in : (own m r : List ℕ) → HasNoEnd own → own ≡ m ++ 10 ∷ r → ⊥
no_end_in [] m r h e = absurd (no_cons m 10 r (sym e))
no_end_in (x ∷ own) [] r h e = h.0 (heads x 10 own r e).0
no_end_in (x ∷ own) (y ∷ m) r h e = no_end_in own m r h.1 (heads x y own (m ++ 10 ∷ r) e).1

-- the first end of a line is its last byte
no_end_before : (own m : List ℕ) (x : ℕ) (xs : List ℕ) → HasNoEnd own → own ++ 10 ∷ [] ≡ m ++ 10 ∷ x ∷ xs → ⊥
no_end_before [] [] x xs h e = cons≢nil (sym (heads 10 10 [] (x ∷ xs) e).1)
no_end_before [] (y ∷ m) x xs h e = absurd (no_cons m 10 (x ∷ xs) (sym (heads 10 y [] (m ++ 10 ∷ x ∷ xs) e).1))
no_end_before (o ∷ own) [] x xs h e = h.0 (heads o 10 (own ++ 10 ∷ []) (x ∷ xs) e).0
no_end_before (o ∷ own) (y ∷ m) x xs h e = no_end_before own m x xs h.1 (heads o y (own ++ 10 ∷ []) (m ++ 10 ∷ x ∷ xs) e).1

only_end : (w r : List ℕ) → HasNoEnd w → w ++ 10 ∷ [] ≡ 10 ∷ r → w ≡ []
only_end [] r n t = refl
only_end (x ∷ xs) r n t = absurd (n.0 (heads x 10 (xs ++ 10 ∷ []) r t).0)

own_is_two : (own r : List ℕ) → HasNoEnd own → own ++ 10 ∷ [] ≡ 37 ∷ 37 ∷ 10 ∷ r → own ≡ 37 ∷ 37 ∷ []
own_is_two [] r h e = absurd (cons≢nil (sym (heads 10 37 [] (37 ∷ 10 ∷ r) e).1))
own_is_two (a ∷ []) r h e = absurd (cons≢nil (sym (heads 10 37 [] (10 ∷ r) (heads a 37 (10 ∷ []) (37 ∷ 10 ∷ r) e).1).1))
own_is_two (a ∷ b ∷ own) r h e =
    let p = heads a 37 (b ∷ own ++ 10 ∷ []) (37 ∷ 10 ∷ r) e in
    let q = heads b 37 (own ++ 10 ∷ []) (10 ∷ r) p.1 in
    (λ i. p.0 i ∷ q.0 i ∷ own) ∙ ap (λ z. 37 ∷ 37 ∷ z) (only_end own r h.1.1 q.1)

only_two : (l : Line) → LineIs l (37 ∷ 37 ∷ []) → l ≡ TwoSigns
only_two Nothing e = absurd (cons≢nil e)
only_two OneSign e = absurd (cons≢nil (heads 37 37 (37 ∷ []) [] e).1)
only_two TwoSigns e = refl
only_two Other e = absurd (e [] refl)

-- ---- one more byte
pub begun : Scanned [] 0 Nothing
begun = record {
  lines = [];
  own = [];
  split = refl;
  count = refl;
  are_lines = none;
  no_end = tt;
  is = refl;
  none = λ b r a e. absurd (no_cons b 37 (37 ∷ 10 ∷ r) (sym e));
}

no_end_more : (own : List ℕ) (b : ℕ) → HasNoEnd own → b ≢ 10 → HasNoEnd (own ++ b ∷ [])
no_end_more [] b h n = (n, tt)
no_end_more (x ∷ own) b h n = (h.0, no_end_more own b h.1 n)

one_more : (b : ℕ) (own : List ℕ) (t : Bool) → nat_eq b 37 ≡ t → own ≡ [] → LineIs (cond t OneSign Other) (own ++ b ∷ [])
one_more b own true e n = ap (λ z. z ++ b ∷ []) n ∙ ap (λ z. z ∷ []) (eqb-true b 37 e)
one_more b own false e n = λ m same. eqb-false b 37 e (heads b 37 m (37 ∷ []) (ap (λ z. (z ++ b ∷ []) ++ m) (sym n) ∙ same)).0

two_more : (b : ℕ) (own : List ℕ) (t : Bool) → nat_eq b 37 ≡ t → own ≡ 37 ∷ [] → LineIs (cond t TwoSigns Other) (own ++ b ∷ [])
two_more b own true e n = ap (λ z. z ++ b ∷ []) n ∙ ap (λ z. 37 ∷ z ∷ []) (eqb-true b 37 e)
two_more b own false e n = λ m same. eqb-false b 37 e (heads b 37 m [] (heads 37 37 (b ∷ m) (37 ∷ []) (ap (λ z. (z ++ b ∷ []) ++ m) (sym n) ∙ same)).1).0

line_more : (l : Line) (own : List ℕ) (b : ℕ) → LineIs l own → LineIs (line_with l b) (own ++ b ∷ [])
line_more Nothing own b h = one_more b own (nat_eq b 37) refl h
line_more OneSign own b h = two_more b own (nat_eq b 37) refl h
line_more TwoSigns own b h = λ m same. cons≢nil (heads 37 37 (b ∷ m) [] (heads 37 37 (37 ∷ b ∷ m) (37 ∷ []) (ap (λ z. (z ++ b ∷ []) ++ m) (sym h) ∙ same)).1).1
line_more Other own b h = λ m same. h (b ∷ m) (sym (append_assoc own (b ∷ []) m) ∙ same)

pub goes_on : (bytes : List ℕ) (begin : ℕ) (l : Line) (b : ℕ) → b ≢ 10 → Scanned bytes begin l → Scanned (bytes ++ b ∷ []) begin (line_with l b)
goes_on bytes begin l b n s = record {
  lines = s.lines;
  own = s.own ++ b ∷ [];
  split = ap (λ z. z ++ b ∷ []) s.split ∙ append_assoc s.lines s.own (b ∷ []);
  count = s.count;
  are_lines = s.are_lines;
  no_end = no_end_more s.own b s.no_end n;
  is = line_more l s.own b s.is;
  none = s.none;
}

-- no separator begins within the lines
none_within : (lines b : List ℕ) (x : ℕ) (m rest r : List ℕ) → AreLines lines → HasNone lines → AreLines b → lines ≡ b ++ x ∷ m → 37 ∷ 37 ∷ 10 ∷ r ≡ x ∷ m ++ rest → ⊥
none_within lines b x [] rest r a n c e f = no_sign_last lines b a (e ∙ ap (λ z. b ++ z ∷ []) (sym (heads 37 x (37 ∷ 10 ∷ r) rest f).0))
none_within lines b x (y ∷ []) rest r a n c e f =
    let p = heads 37 x (37 ∷ 10 ∷ r) (y ∷ rest) f in
    let q = heads 37 y (10 ∷ r) rest p.1 in
    no_sign_last lines (b ++ x ∷ []) a (e ∙ sym (append_assoc b (x ∷ []) (y ∷ [])) ∙ ap (λ z. (b ++ x ∷ []) ++ z ∷ []) (sym q.0))
none_within lines b x (y ∷ z ∷ m) rest r a n c e f =
    let p = heads 37 x (37 ∷ 10 ∷ r) (y ∷ z ∷ m ++ rest) f in
    let q = heads 37 y (10 ∷ r) (z ∷ m ++ rest) p.1 in
    let w = heads 10 z r (m ++ rest) q.1 in
    n b m c (e ∙ (λ i. b ++ sym p.0 i ∷ sym q.0 i ∷ sym w.0 i ∷ m))

none_last_within : (lines b : List ℕ) (x : ℕ) (m rest : List ℕ) → AreLines lines → lines ≡ b ++ x ∷ m → 37 ∷ 37 ∷ [] ≡ x ∷ m ++ rest → ⊥
none_last_within lines b x [] rest a e f = no_sign_last lines b a (e ∙ ap (λ z. b ++ z ∷ []) (sym (heads 37 x (37 ∷ []) rest f).0))
none_last_within lines b x (y ∷ []) rest a e f =
    let p = heads 37 x (37 ∷ []) (y ∷ rest) f in
    let q = heads 37 y [] rest p.1 in
    no_sign_last lines (b ++ x ∷ []) a (e ∙ sym (append_assoc b (x ∷ []) (y ∷ [])) ∙ ap (λ z. (b ++ x ∷ []) ++ z ∷ []) (sym q.0))
none_last_within lines b x (y ∷ z ∷ m) rest a e f =
    let p = heads 37 x (37 ∷ []) (y ∷ z ∷ m ++ rest) f in
    let q = heads 37 y [] (z ∷ m ++ rest) p.1 in
    cons≢nil (sym q.1)

-- whole lines behind whole lines end
lines_behind : (lines m : List ℕ) (y : ℕ) → AreLines (lines ++ y ∷ m) → (bs : List ℕ) × (y ∷ m ≡ bs ++ 10 ∷ [])
lines_behind lines m y a = elim (ends (lines ++ y ∷ m) a) [
  | inl n ↦ absurd (no_cons lines y m n)
  | inr e ↦ go lines m y e.0 e.1
]
  where
    go : (l k : List ℕ) (z : ℕ) (bs : List ℕ) → l ++ z ∷ k ≡ bs ++ 10 ∷ [] → (cs : List ℕ) × (z ∷ k ≡ cs ++ 10 ∷ [])
    go [] k z bs e = (bs, e)
    go (x ∷ l) k z [] e = absurd (no_cons l z k (heads x 10 (l ++ z ∷ k) [] e).1)
    go (x ∷ l) k z (b ∷ bs) e = go l k z bs (heads x b (l ++ z ∷ k) (bs ++ 10 ∷ []) e).1

pub line_ends_here : (bytes : List ℕ) (begin : ℕ) (l : Line) → l ≢ TwoSigns → Scanned bytes begin l → Scanned (bytes ++ 10 ∷ []) (length bytes + 1) Nothing
line_ends_here bytes begin l not_two s = record {
  lines = bytes ++ 10 ∷ [];
  own = [];
  split = sym (append-nil (bytes ++ 10 ∷ []));
  count = sym (length-append bytes (10 ∷ []));
  are_lines = ended bytes;
  no_end = tt;
  is = refl;
  none = λ b r a e.
      let whole : s.lines ++ (s.own ++ 10 ∷ []) ≡ b ++ 37 ∷ 37 ∷ 10 ∷ r = sym (append_assoc s.lines s.own (10 ∷ [])) ∙ ap (λ z. z ++ 10 ∷ []) (sym s.split) ∙ e in
      elim (cuts s.lines b (s.own ++ 10 ∷ []) (37 ∷ 37 ∷ 10 ∷ r) whole) [
        | inl m ↦ behind b r m.0 a m.1 m.2
        | inr m ↦ none_within s.lines b m.0 m.1 (s.own ++ 10 ∷ []) r s.are_lines s.none a m.2 m.3
      ];
}
  where
    behind : (b r m : List ℕ) → AreLines b → b ≡ s.lines ++ m → s.own ++ 10 ∷ [] ≡ m ++ 37 ∷ 37 ∷ 10 ∷ r → ⊥
    behind b r [] a p q = not_two (only_two l (subst (LineIs l) (own_is_two s.own r s.no_end q) s.is))
    behind b r (y ∷ m) a p q =
        let t = lines_behind s.lines m y (subst AreLines p a) in
        no_end_before s.own t.0 37 (37 ∷ 10 ∷ r) s.no_end (q ∙ ap (λ z. z ++ 37 ∷ 37 ∷ 10 ∷ r) t.1 ∙ append_assoc t.0 (10 ∷ []) (37 ∷ 37 ∷ 10 ∷ r))

-- ---- what was found
longer_within : (x : ℕ) (m own : List ℕ) → 37 ∷ 37 ∷ [] ≡ x ∷ m ++ 37 ∷ 37 ∷ own → ⊥
longer_within x [] own e = cons≢nil (sym (heads 37 37 [] (37 ∷ own) (heads 37 x (37 ∷ []) (37 ∷ 37 ∷ own) e).1).1)
longer_within x (y ∷ m) own e = absurd (no_cons m 37 (37 ∷ own) (sym (heads 37 y [] (m ++ 37 ∷ 37 ∷ own) (heads 37 x (37 ∷ []) (y ∷ m ++ 37 ∷ 37 ∷ own) e).1).1))

first_of_all : (lines own b a input : List ℕ) → AreLines lines → HasNone lines → input ≡ lines ++ 37 ∷ 37 ∷ own → Separates input b a → length lines ≤ length b
first_of_all lines own b a input are none_there is (line before after c e) = elim (cuts lines before (37 ∷ 37 ∷ own) (37 ∷ 37 ∷ 10 ∷ after) (sym is ∙ e)) [
  | inl m ↦ let l = ap length m.1 in let n = length-append lines m.0 in omega arith
  | inr m ↦ absurd (none_within lines before m.0 m.1 (37 ∷ 37 ∷ own) after are none_there c m.2 m.3)
]
first_of_all lines own b a input are none_there is (last before c e) = elim (cuts lines before (37 ∷ 37 ∷ own) (37 ∷ 37 ∷ []) (sym is ∙ e)) [
  | inl m ↦ let l = ap length m.1 in let n = length-append lines m.0 in omega arith
  | inr m ↦ absurd (longer_within m.0 m.1 own m.3)
]

front_of : (input lines rest : List ℕ) (begin : ℕ) → input ≡ lines ++ rest → begin ≡ length lines → take begin input ≡ lines
front_of input lines rest begin e n = ap (take begin) e ∙ ap (λ k. take k (lines ++ rest)) n ∙ take-append_seam lines rest

pub parted_by_line : (bytes after : List ℕ) (begin : ℕ) → Scanned bytes begin TwoSigns → IsParted (bytes ++ 10 ∷ after) (take begin (bytes ++ 10 ∷ after)) after
parted_by_line bytes after begin s =
    let is : bytes ++ 10 ∷ after ≡ s.lines ++ 37 ∷ 37 ∷ 10 ∷ after = ap (λ z. z ++ 10 ∷ after) s.split ∙ append_assoc s.lines s.own (10 ∷ after) ∙ ap (λ z. s.lines ++ (z ++ 10 ∷ after)) s.is in
    subst (λ z. IsParted (bytes ++ 10 ∷ after) z after) (sym (front_of (bytes ++ 10 ∷ after) s.lines (37 ∷ 37 ∷ 10 ∷ after) begin is s.count)) (record {
      here = line s.lines after s.are_lines is;
      first = λ b a h. first_of_all s.lines (10 ∷ after) b a (bytes ++ 10 ∷ after) s.are_lines s.none is h;
    })

pub parted_at_end : (bytes : List ℕ) (begin : ℕ) → Scanned bytes begin TwoSigns → IsParted bytes (take begin bytes) []
parted_at_end bytes begin s =
    let is : bytes ≡ s.lines ++ 37 ∷ 37 ∷ [] = s.split ∙ ap (λ z. s.lines ++ z) s.is in
    subst (λ z. IsParted bytes z []) (sym (front_of bytes s.lines (37 ∷ 37 ∷ []) begin is s.count)) (record {
      here = last s.lines s.are_lines is;
      first = λ b a h. first_of_all s.lines [] b a bytes s.are_lines s.none is h;
    })

pub not_parted : (bytes : List ℕ) (begin : ℕ) (l : Line) → l ≢ TwoSigns → Scanned bytes begin l → HasNoSeparator bytes
not_parted bytes begin l not_two s b a (line before after c e) = elim (cuts s.lines before s.own (37 ∷ 37 ∷ 10 ∷ after) (sym s.split ∙ e)) [
  | inl m ↦ no_end_in s.own (m.0 ++ 37 ∷ 37 ∷ []) after s.no_end (m.2 ∙ sym (append_assoc m.0 (37 ∷ 37 ∷ []) (10 ∷ after)))
  | inr m ↦ none_within s.lines before m.0 m.1 s.own after s.are_lines s.none c m.2 m.3
]
not_parted bytes begin l not_two s b a (last before c e) = elim (cuts s.lines before s.own (37 ∷ 37 ∷ []) (sym s.split ∙ e)) [
  | inl m ↦ behind m.0 m.1 m.2 c
  | inr m ↦ none_last_within s.lines before m.0 m.1 s.own s.are_lines m.2 m.3
]
  where
    behind : (m : List ℕ) → before ≡ s.lines ++ m → s.own ≡ m ++ 37 ∷ 37 ∷ [] → AreLines before → ⊥
    behind [] p q w = not_two (only_two l (subst (LineIs l) q s.is))
    behind (y ∷ m) p q w =
        let t = lines_behind s.lines m y (subst AreLines p w) in
        no_end_in s.own t.0 (37 ∷ 37 ∷ []) s.no_end (q ∙ ap (λ z. z ++ 37 ∷ 37 ∷ []) t.1 ∙ append_assoc t.0 (10 ∷ []) (37 ∷ 37 ∷ []))

-- ---- the same by places
pub goes_on_at : (xs : List ℕ) (i begin : ℕ) (l : Line) → i < length xs → get_or xs i 0 ≢ 10 → Scanned (take i xs) begin l → Scanned (take (i + 1) xs) begin (line_with l (get_or xs i 0))
goes_on_at xs i begin l b n s = subst (λ z. Scanned z begin (line_with l (get_or xs i 0))) (sym (take_more xs i 0 b)) (goes_on (take i xs) begin l (get_or xs i 0) n s)

with_end : (xs : List ℕ) (i : ℕ) → i < length xs → get_or xs i 0 ≡ 10 → take i xs ++ 10 ∷ [] ≡ take (i + 1) xs
with_end xs i b e = ap (λ x. take i xs ++ x ∷ []) (sym e) ∙ sym (take_more xs i 0 b)

pub ends_at : (xs : List ℕ) (i begin : ℕ) (l : Line) → i < length xs → get_or xs i 0 ≡ 10 → l ≢ TwoSigns → Scanned (take i xs) begin l → Scanned (take (i + 1) xs) (i + 1) Nothing
ends_at xs i begin l b e n s =
    let short : length (take i xs) + 1 ≡ i + 1 = let t = length-take i xs in omega (arith, t) in
    subst (λ z. Scanned z (i + 1) Nothing) (with_end xs i b e) (subst (λ k. Scanned (take i xs ++ 10 ∷ []) k Nothing) short (line_ends_here (take i xs) begin l n s))

pub parted_at : (xs : List ℕ) (i begin : ℕ) → i < length xs → get_or xs i 0 ≡ 10 → Scanned (take i xs) begin TwoSigns → IsParted xs (take begin xs) (drop (i + 1) xs)
parted_at xs i begin b e s =
    let whole : take i xs ++ 10 ∷ drop (i + 1) xs ≡ xs = sym (append_assoc (take i xs) (10 ∷ []) (drop (i + 1) xs)) ∙ ap (λ z. z ++ drop (i + 1) xs) (with_end xs i b e) ∙ take-append-drop (i + 1) xs in
    subst (λ z. IsParted z (take begin z) (drop (i + 1) xs)) whole (parted_by_line (take i xs) (drop (i + 1) xs) begin s)

pub at_end : (xs : List ℕ) (i begin : ℕ) (l : Line) → length xs ≤ i → Scanned (take i xs) begin l → Scanned xs begin l
at_end xs i begin l n s = subst (λ z. Scanned z begin l) (take_all i xs n) s

pub parted_at_the_end : (xs : List ℕ) (i begin : ℕ) → length xs ≤ i → Scanned (take i xs) begin TwoSigns → IsParted xs (take begin xs) (drop (length xs) xs)
parted_at_the_end xs i begin n s = subst (IsParted xs (take begin xs)) (sym (drop-length xs)) (parted_at_end xs begin (at_end xs i begin TwoSigns n s))

-- ---- one parting
same_fronts : (b c xs ys : List ℕ) → length b ≡ length c → b ++ xs ≡ c ++ ys → (b ≡ c) × (xs ≡ ys)
same_fronts [] [] xs ys n e = (refl, e)
same_fronts [] (y ∷ c) xs ys n e = absurd (omega arith)
same_fronts (x ∷ b) [] xs ys n e = absurd (omega arith)
same_fronts (x ∷ b) (y ∷ c) xs ys n e =
    let h = heads x y (b ++ xs) (c ++ ys) e in
    let t = same_fronts b c xs ys (omega arith) h.1 in
    ((λ i. h.0 i ∷ t.0 i), t.1)

same_behind : (input b a c d : List ℕ) → length b ≡ length c → Separates input b a → Separates input c d → (b ≡ c) × (a ≡ d)
same_behind input b a c d n (line before after u e) (line before' after' u' e') =
    let t = same_fronts before before' (37 ∷ 37 ∷ 10 ∷ after) (37 ∷ 37 ∷ 10 ∷ after') n (sym e ∙ e') in
    (t.0, (heads 10 10 after after' (heads 37 37 (10 ∷ after) (10 ∷ after') (heads 37 37 (37 ∷ 10 ∷ after) (37 ∷ 10 ∷ after') t.1).1).1).1)
same_behind input b a c d n (line before after u e) (last before' u' e') =
    let t = same_fronts before before' (37 ∷ 37 ∷ 10 ∷ after) (37 ∷ 37 ∷ []) n (sym e ∙ e') in
    absurd (cons≢nil (heads 37 37 (10 ∷ after) [] (heads 37 37 (37 ∷ 10 ∷ after) (37 ∷ []) t.1).1).1)
same_behind input b a c d n (last before u e) (line before' after' u' e') =
    let t = same_fronts before before' (37 ∷ 37 ∷ []) (37 ∷ 37 ∷ 10 ∷ after') n (sym e ∙ e') in
    absurd (cons≢nil (sym (heads 37 37 [] (10 ∷ after') (heads 37 37 (37 ∷ []) (37 ∷ 10 ∷ after') t.1).1).1))
same_behind input b a c d n (last before u e) (last before' u' e') =
    let t = same_fronts before before' (37 ∷ 37 ∷ []) (37 ∷ 37 ∷ []) n (sym e ∙ e') in
    (t.0, refl)

pub one_parting : (input b a c d : List ℕ) → IsParted input b a → IsParted input c d → (b ≡ c) × (a ≡ d)
one_parting input b a c d p q =
    let low = p.first c d q.here in
    let high = q.first b a p.here in
    same_behind input b a c d (omega (arith, low, high)) p.here q.here

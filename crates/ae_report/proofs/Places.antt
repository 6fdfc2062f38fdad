-- Lines and columns, a byte at a time.
use Rattle.std.proofs.Common.{ℕ, ◌+◌, ◌≤◌, ◌<◌, get_or, List, [], ◌∷◌, ◌++◌, ◌≡◌, ◌≢◌, length, take, nat_eq, refl, sym, ap, ◌∙◌, subst, arith, append_assoc}
use Rattle.std.specs.Prelude.{cond}
use Rattle.std.proofs.lemmas.List.{append-nil, length-append, length-take, take_more}
use Rattle.ae_report.specs.Lines.{line_ends, AreLines, none, ended, Precede}

line_ends_append : (a b : List ℕ) → line_ends (a ++ b) ≡ line_ends a + line_ends b
line_ends_append [] b = omega arith
line_ends_append (x ∷ a) b = grind (arith, line_ends_append a b)

line_ends_le : (a : List ℕ) → line_ends a ≤ length a
line_ends_le [] = omega arith
line_ends_le (x ∷ a) = grind (arith, line_ends_le a)

line_ends_one : (b : ℕ) → b ≢ 10 → line_ends (b ∷ []) ≡ 0
line_ends_one b n = grind (arith, n)

pub nothing_before : Precede [] 1 1
nothing_before = record { lines = []; own = []; split = refl; are_lines = none; no_end = refl; line_is = refl; column_is = refl }

pub line_ended : (bytes : List ℕ) (line column : ℕ) → Precede bytes line column → Precede (bytes ++ 10 ∷ []) (line + 1) 1
line_ended bytes line column p =
    let count = line_ends_append bytes (10 ∷ []) in
    let parts = line_ends_append p.lines p.own in
    let all = ap line_ends p.split in
    let line_is = p.line_is in
    let no_end = p.no_end in (
    record {
      lines = bytes ++ 10 ∷ [];
      own = [];
      split = sym (append-nil (bytes ++ 10 ∷ []));
      are_lines = ended bytes;
      no_end = refl;
      line_is = omega (arith, count, parts, all, line_is, no_end);
      column_is = refl;
    }
    )

pub line_goes_on : (bytes : List ℕ) (b line column : ℕ) → b ≢ 10 → Precede bytes line column → Precede (bytes ++ b ∷ []) line (column + 1)
line_goes_on bytes b line column n p =
    let parts = line_ends_append p.own (b ∷ []) in
    let one = line_ends_one b n in
    let longer = length-append p.own (b ∷ []) in
    let column_is = p.column_is in
    let no_end = p.no_end in (
    record {
      lines = p.lines;
      own = p.own ++ b ∷ [];
      split = ap (λ z. z ++ b ∷ []) p.split ∙ append_assoc p.lines p.own (b ∷ []);
      are_lines = p.are_lines;
      no_end = omega (arith, parts, one, no_end);
      line_is = p.line_is;
      column_is = omega (arith, longer, column_is);
    }
    )

pub place_bounds : (bytes : List ℕ) (line column : ℕ) → Precede bytes line column → (line ≤ length bytes + 1) × (column ≤ length bytes + 1)
place_bounds bytes line column p =
    let both = length-append p.lines p.own in
    let whole = ap length p.split in
    let few = line_ends_le p.lines in
    let line_is = p.line_is in
    let column_is = p.column_is in
    (omega (arith, both, whole, few, line_is), omega (arith, both, whole, column_is))

-- ---- a place has one line and one column
-- the bytes behind the last that ends a line
abbrev unended : List ℕ → ℕ
unended [] = 0
unended (b ∷ bs) = cond (nat_eq (line_ends (b ∷ bs)) 0) (length (b ∷ bs)) (unended bs)

unended_own : (own : List ℕ) → line_ends own ≡ 0 → unended own ≡ length own
unended_own [] e = refl
unended_own (b ∷ own) e = grind (arith, e)

unended_after : (bytes own : List ℕ) → line_ends own ≡ 0 → unended ((bytes ++ 10 ∷ []) ++ own) ≡ length own
unended_after [] own e = grind (arith, unended_own own e)
unended_after (b ∷ bytes) own e =
    let some = line_ends_append (b ∷ bytes ++ 10 ∷ []) own in
    let front = line_ends_append (b ∷ bytes) (10 ∷ []) in
    grind (arith, unended_after bytes own e, some, front)

unended_lines : {lines : List ℕ} (own : List ℕ) → AreLines lines → line_ends own ≡ 0 → unended (lines ++ own) ≡ length own
unended_lines own none e = unended_own own e
unended_lines own (ended bytes) e = unended_after bytes own e

line_counted : (bytes : List ℕ) (line column : ℕ) → Precede bytes line column → line ≡ line_ends bytes + 1
line_counted bytes line column p =
    let parts = line_ends_append p.lines p.own in
    let all = ap line_ends p.split in
    let line_is = p.line_is in
    let no_end = p.no_end in
    omega (arith, parts, all, line_is, no_end)

column_counted : (bytes : List ℕ) (line column : ℕ) → Precede bytes line column → column ≡ unended bytes + 1
column_counted bytes line column p = p.column_is ∙ ap (λ n. n + 1) (sym (unended_lines p.own p.are_lines p.no_end) ∙ ap unended (sym p.split))

pub one_line : (bytes : List ℕ) (line column other_line other_column : ℕ) → Precede bytes line column → Precede bytes other_line other_column → line ≡ other_line
one_line bytes l c m d p q = line_counted bytes l c p ∙ sym (line_counted bytes m d q)

pub one_column : (bytes : List ℕ) (line column other_line other_column : ℕ) → Precede bytes line column → Precede bytes other_line other_column → column ≡ other_column
one_column bytes l c m d p q = column_counted bytes l c p ∙ sym (column_counted bytes m d q)

-- ---- the next byte of a text
pub line_ended_at : (xs : List ℕ) (i line column : ℕ) → i < length xs → get_or xs i 0 ≡ 10 → Precede (take i xs) line column → Precede (take (i + 1) xs) (line + 1) 1
line_ended_at xs i line column b e p =
    subst (λ z. Precede z (line + 1) 1) (ap (λ x. take i xs ++ x ∷ []) (sym e) ∙ sym (take_more xs i 0 b)) (line_ended (take i xs) line column p)

pub line_goes_on_at : (xs : List ℕ) (i line column : ℕ) → i < length xs → get_or xs i 0 ≢ 10 → Precede (take i xs) line column → Precede (take (i + 1) xs) line (column + 1)
line_goes_on_at xs i line column b n p = subst (λ z. Precede z line (column + 1)) (sym (take_more xs i 0 b)) (line_goes_on (take i xs) (get_or xs i 0) line column n p)

pub place_bounds_at : (xs : List ℕ) (i line column : ℕ) → Precede (take i xs) line column → (line ≤ i + 1) × (column ≤ i + 1)
place_bounds_at xs i line column p =
    let b = place_bounds (take i xs) line column p in
    let short = length-take i xs in
    (omega (arith, b.0, short), omega (arith, b.1, short))

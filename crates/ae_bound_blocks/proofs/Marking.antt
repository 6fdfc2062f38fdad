-- The marks of the rows that a row is made of.
use Rattle.std.specs.Prelude.{ℕ, zero, suc, ◌+◌, ◌<◌, ◌≤◌, ◌≡◌, ◌↔◌, ◌⊎◌, Bool, true, false, List, [], ◌∷◌, ◌++◌, length, take, set, get_or, slice_get, Option, Some, None}
use Rattle.std.specs.List.{Contains}
use Rattle.std.proofs.Common.{arith, refl, sym, ap, ◌∙◌, subst, inl, inr}
use Rattle.std.proofs.lemmas.List.{length-map, length-take-le}
use Rattle.std.proofs.lemmas.Option.{slice_get-get_or}
use Rattle.ae_base.proofs.ListFacts.{get_front}
use Rattle.ae_base.specs.Options.{or_else, ◌>>=◌}
use Rattle.ae_journal.proofs.Splits.{all_contained}
use Rattle.ae_bounds.specs.declared.rows.Row.{Row}
use Rattle.ae_bounds.specs.declared.rows.Unrounded.{Unrounded}
use Rattle.ae_bounds.specs.declared.rows.Origin.{Origin}
use Rattle.ae_bounds.specs.declared.rows.Origin.TheVariants.{Assumed, Combined}
use Rattle.ae_bounds.specs.Combinations.{IsCombined}
use Rattle.ae_bounds.specs.Findings.{AreFounded}
use Rattle.ae_trim.specs.Used.{hints_at, HintEarlier, IsUsed, last, hinted}
use Rattle.ae_trim.specs.Inner.Marks.{marked, AreMarked, MarkUsed}
use Rattle.ae_trim.proofs.Marking.{marked_none, marked_turn}
use Rattle.ae_bound_blocks.specs.Ancestors.{parents, summands, sources, sources_at, IsSource, itself, parent, tag_of, tags_of}
use Rattle.ae_bound_blocks.specs.Inner.Marks.{as_line, as_lines}

-- ---- two marks
pub both_marked : (ms : List Bool) (a b : ℕ) → a < length ms → b < length ms → AreMarked ms (a ∷ b ∷ []) (set (set ms a true) b true)
both_marked ms a b la lb =
    let one = marked_turn ms ms (a ∷ b ∷ []) 0 0 (let h : 0 < 2 = omega arith in h) la (marked_none ms) in
    marked_turn ms (set ms a true) (a ∷ b ∷ []) 1 0 (let h : 1 < 2 = omega arith in h) (let s = one.size in subst (λ n. b < n) (sym s) lb) one

-- ---- parents and hints
pub hints_are_parents : (through : Bool) (rows : List Row) (k : ℕ) → hints_at (as_lines through rows) k ≡ sources_at through rows k
hints_are_parents through [] k = refl
hints_are_parents through (r ∷ rows) zero = refl
hints_are_parents through (r ∷ rows) (suc k) = hints_are_parents through rows k

pub parents_here : (through : Bool) (rows : List Row) (n : ℕ) (r : Row) → n < length rows → r ≡ get_or rows n r → hints_at (as_lines through rows) n ≡ sources through r
parents_here through rows n r l is = hints_are_parents through rows n ∙ ap (λ o. or_else (o >>= λ (x : Row). Some (sources through x)) []) (slice_get-get_or rows n r l ∙ ap Some (sym is))

-- a row is made of rows that it combines
some_parent : (through : Bool) (r : Row) (p : ℕ) → Contains (sources through r) p → Contains (parents r.from) p
some_parent true r p c = c
some_parent false r p c = by_unrounded r.unrounded c
  where
    by_unrounded : (u : Option Unrounded) → Contains (summands u r.from) p → Contains (parents r.from) p
    by_unrounded None d = d
    by_unrounded (Some u) d = absurd (all_contained (λ (x : ℕ). ⊥) [] p tt d)

pub combined_earlier : (through : Bool) (rows : List Row) → AreFounded rows → (k : ℕ) (o : Option Row) → slice_get rows k ≡ o → (p : ℕ) → Contains (or_else (o >>= λ r. Some (sources through r)) []) p → p < k
combined_earlier through rows f k None e p c = absurd (all_contained (λ (x : ℕ). ⊥) [] p tt c)
combined_earlier through rows f k (Some r) e p c = by_origin r.from refl (some_parent through r p c)
  where
    below : (i : ℕ) (t : Row) → slice_get (take k rows) i ≡ Some t → i < k
    below i t h = (get_front rows k i t h).1

    by_origin : (o : Origin) → r.from ≡ o → Contains (parents o) p → p < k
    by_origin (Assumed tag) h c = absurd (all_contained (λ (x : ℕ). ⊥) [] p tt c)
    by_origin (Combined lower upper) h c =
        let w = f k lower upper r e h in
        let same : Combined lower upper ≡ Combined w.lower w.upper = sym h ∙ w.from in
        let low : lower ≡ w.lower = cc same in
        let up : upper ≡ w.upper = cc same in
        one_of (subst (λ n. n < k) (sym low) (below w.lower w.first w.opposed.first_at)) (subst (λ n. n < k) (sym up) (below w.upper w.second w.opposed.second_at)) c
      where
        one_of : lower < k → upper < k → Contains (lower ∷ upper ∷ []) p → p < k
        one_of a b (zero, l, q) = subst (λ n. n < k) q a
        one_of a b (suc zero, l, q) = subst (λ n. n < k) q b
        one_of a b (suc (suc i), l, q) = absurd (omega (arith, l))

pub parents_earlier : (through : Bool) (rows : List Row) → AreFounded rows → HintEarlier (as_lines through rows)
parents_earlier through rows f = record { each = λ j k c. combined_earlier through rows f j (slice_get rows j) refl k (subst (λ ks. Contains ks k) (hints_are_parents through rows j) c) }

-- ---- one source more
pub source_cases : (through : Bool) (rows : List Row) (k j : ℕ) → IsSource through rows k j → (k ≡ j) ⊎ ((p : ℕ) × Contains (sources_at through rows k) p × IsSource through rows p j)
source_cases through rows k _ itself = inl refl
source_cases through rows k _ (parent i p a c) = elim (source_cases through rows k i a) [
  | inl e ↦ inr (p, subst (λ (x : ℕ). Contains (sources_at through rows x) p) (sym e) c, itself)
  | inr q ↦ inr (q.0, q.1, parent i p q.2 c)
]

pub sources_of : (through : Bool) (rows : List Row) (k : ℕ) (r : Row) → slice_get rows k ≡ Some r → sources_at through rows k ≡ sources through r
sources_of through rows k r at = ap (λ (x : Option Row). or_else (x >>= λ (y : Row). Some (sources through y)) []) at

pub one_row : (rows : List Row) (k j : ℕ) (r t : Row) → k ≡ j → slice_get rows k ≡ Some r → slice_get rows j ≡ Some t → r ≡ t
one_row rows k j r t e a b = let s : Some r ≡ Some t = sym a ∙ ap (slice_get rows) e ∙ b in cc

pub one_of_two : (a b p : ℕ) → Contains (a ∷ b ∷ []) p → (a ≡ p) ⊎ (b ≡ p)
one_of_two a b p (zero, l, e) = inl e
one_of_two a b p (suc zero, l, e) = inr e
one_of_two a b p (suc (suc i), l, e) = absurd (omega (arith, l))

-- ---- the first rows
pub get_within : (n : ℕ) (rows : List Row) (k : ℕ) → k < n → slice_get (take n rows) k ≡ slice_get rows k
get_within zero rows k l = absurd (omega (arith, l))
get_within (suc n) [] k l = refl
get_within (suc n) (x ∷ rows) zero l = refl
get_within (suc n) (x ∷ rows) (suc k) l = get_within n rows k (omega (arith, l))

pub founded_first : (n : ℕ) (rows : List Row) → AreFounded rows → AreFounded (take n rows)
founded_first n rows f k lower upper r e h = subst (λ (xs : List Row). IsCombined xs r) (taken n k rows (let w = (get_front rows n k r e).1 in omega (arith, w))) (f k lower upper r ((get_front rows n k r e).0) h)
  where
    taken : (n k : ℕ) (rows : List Row) → k ≤ n → take k rows ≡ take k (take n rows)
    taken zero zero rows l = refl
    taken zero (suc k) rows l = absurd (omega (arith, l))
    taken (suc n) zero rows l = refl
    taken (suc n) (suc k) [] l = refl
    taken (suc n) (suc k) (x ∷ rows) l = ap (λ xs. x ∷ xs) (taken n k rows (omega (arith, l)))

-- ---- marked rows are those of which the last one is made
module _ (through : Bool) (rows : List Row) (place : ℕ) (within : place < length rows) (founded : AreFounded rows) where
  abbrev first : List Row
  first = take (place + 1) rows

  long : length (as_lines through first) ≡ place + 1
  long = length-map first (as_line through) ∙ length-take-le (place + 1) rows (omega (arith, within))

  parents_up : (j p : ℕ) → Contains (sources_at through first j) p → Contains (sources_at through rows j) p
  parents_up j p c = by_row (slice_get first j) refl c
    where
      by_row : (o : Option Row) → slice_get first j ≡ o → Contains (or_else (o >>= λ r. Some (sources through r)) []) p → Contains (sources_at through rows j) p
      by_row None e c = absurd (all_contained (λ (x : ℕ). ⊥) [] p tt c)
      by_row (Some r) e c = subst (λ (o : Option Row). Contains (or_else (o >>= λ r. Some (sources through r)) []) p) (sym ((get_front rows (place + 1) j r e).0)) c

  ancestor_of : (k : ℕ) → IsUsed (as_lines through first) k → IsSource through rows place k
  ancestor_of k (last n e) = let s : place ≡ n = (let l = long in omega (arith, e, l)) in subst (IsSource through rows place) s itself
  ancestor_of k (hinted j n u c) = parent j n (ancestor_of j u) (parents_up j n (subst (λ ks. Contains ks n) (hints_are_parents through first j) c))

  pub used_of : (k : ℕ) → IsSource through rows place k → IsUsed (as_lines through first) k × (k < place + 1)
  used_of k itself = (last place (sym long), omega arith)
  used_of k (parent j n a c) =
      let u = used_of j a in
      let l = u.1 in
      let s = combined_earlier through rows founded j (slice_get rows j) refl n c in
      let d : Contains (sources_at through first j) n = subst (λ (o : Option Row). Contains (or_else (o >>= λ r. Some (sources through r)) []) n) (sym (get_within (place + 1) rows j l)) c in
      (hinted j n u.0 (subst (λ ks. Contains ks n) (sym (hints_are_parents through first j)) d), omega (arith, l, s))

  pub exactly : (ms : List Bool) → MarkUsed (as_lines through first) ms → (k : ℕ) → ((marked ms k ≡ true) ↔ IsSource through rows place k)
  exactly ms m k = (λ e. ancestor_of k (m.sound k e), λ a. m.all k (used_of k a).0)

  pub marks_closed : (ms : List Bool) → MarkUsed (as_lines through first) ms → (k p : ℕ) → marked ms k ≡ true → Contains (sources_at through first k) p → marked ms p ≡ true
  marks_closed ms m k p e c = m.all p (hinted k p (m.sound k e) (subst (λ ks. Contains ks p) (sym (hints_are_parents through first k)) c))

  pub marks_long : (ms : List Bool) → MarkUsed (as_lines through first) ms → length ms ≡ place + 1
  marks_long ms m = m.size ∙ long

-- ---- the tags of the first rows are those of all, where the rest isn't marked
pub tags_first : (n : ℕ) (ms : List Bool) (rows : List Row) → length ms ≤ n → tags_of ms (take n rows) ≡ tags_of ms rows
tags_first zero [] rows l = refl
tags_first zero (m ∷ ms) rows l = absurd (omega (arith, l))
tags_first (suc n) [] rows l = refl
tags_first (suc n) (m ∷ ms) [] l = refl
tags_first (suc n) (true ∷ ms) (r ∷ rows) l = ap (λ ts. tag_of r.from ++ ts) (tags_first n ms rows (omega (arith, l)))
tags_first (suc n) (false ∷ ms) (r ∷ rows) l = tags_first n ms rows (omega (arith, l))

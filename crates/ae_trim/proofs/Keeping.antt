-- The lines that are kept, and their numbers.
use Rattle.std.specs.Prelude.{ℕ, ◌+◌, ◌<◌, List, [], ◌∷◌, ◌++◌, ◌≡◌, map, length, set, slice_get, slice_index, Option, Some}
use Rattle.std.specs.List.{Contains}
use Rattle.std.specs.List.Sorted.{IsStrictlyIncreasing}
use Rattle.std.proofs.Common.{refl, sym, ap, ◌∙◌, subst, arith, inl, inr, get_or-set_same, get_or-set_other, length-set}
use Rattle.std.proofs.lemmas.Bool.{cases_eq}
use Rattle.std.proofs.lemmas.List.{length_push}
use Rattle.std.proofs.lemmas.Option.{slice_get_past, slice_get_within}
use Rattle.std.proofs.lemmas.Bool.{cases_lt}
use Rattle.ae_base.specs.Options.{or_else, ◌>>=◌}
use Rattle.ae_base.proofs.AllOf.{map_same, all_from_places}
use Rattle.ae_base.proofs.ListFacts.{get_append, get_seam}
use Rattle.ae_core.specs.declared.proofs.ClauseLine.{ClauseLine}
use Rattle.ae_core.specs.declared.proofs.ClauseLine.TheVariants.{Hyp, Goal, Def, Inst, Fresh, Exh, Tri, Block, Rup}
use Rattle.ae_trim.specs.Used.{hints_of, hints_at, HintEarlier, IsUsed, last, hinted, AreUsed}
use Rattle.ae_trim.specs.Trimmed.{place_in, renumbered, AreKept}
use Rattle.ae_trim.specs.Inner.Marks.{AreNumbered}
use Rattle.ae_trim.proofs.Rising.{contains_at, at_contains, rises, place_found}

-- ---- which places are used
-- a line that hints is there
pub hints_there : (ls : List ClauseLine) (j h : ℕ) → Contains (hints_at ls j) h → j < length ls
hints_there ls j h c = elim (cases_lt j (length ls)) [
  | inl l ↦ l
  | inr l ↦ absurd (
      let none : hints_at ls j ≡ [] = ap (λ o. or_else (o >>= λ l. Some (hints_of l)) []) (slice_get_past ls j (omega (arith, l))) in
      let e = subst (λ hs. Contains hs h) none c in
      let b : e.0 < 0 = e.1 in
      omega (arith, b))
]

pub used_within : (ls : List ClauseLine) → HintEarlier ls → (k : ℕ) → IsUsed ls k → k < length ls
used_within ls rest k (last n e) = omega (arith, e)
used_within ls rest k (hinted j n u c) =
    let l = rest.each j n c in
    let b = used_within ls rest j u in
    omega (arith, l, b)

pub hints_of_line : (ls : List ClauseLine) (k : ℕ) (l : ClauseLine) → slice_get ls k ≡ Some l → hints_at ls k ≡ hints_of l
hints_of_line ls k l e = ap (λ o. or_else (o >>= λ l. Some (hints_of l)) []) e

-- a hint of a used line is one of the used places
pub hint_place : (ls : List ClauseLine) (ks : List ℕ) → AreUsed ls ks → (k h : ℕ) → IsUsed ls k → Contains (hints_at ls k) h → (b : ℕ) × (slice_get ks b ≡ Some h)
hint_place ls ks a k h u c = contains_at ks h (a.all h (hinted k h u c))

-- ---- new numbers
pub record AreNumberedTo (ks : List ℕ) (count i : ℕ) (ns : List ℕ) : Type 0 where
  pub size : length ns ≡ count
  pub each : (j k : ℕ) → j < i → slice_get ks j ≡ Some k → slice_index ns k ≡ j

pub numbered_first : (ks : List ℕ) (count : ℕ) (ns : List ℕ) → length ns ≡ count → AreNumberedTo ks count 0 ns
numbered_first ks count ns e = record { size = e; each = λ j k l at. absurd (omega (arith, l)) }

pub numbered_next : (ks : List ℕ) → IsStrictlyIncreasing ks → (count i k : ℕ) (ns : List ℕ) → slice_get ks i ≡ Some k → k < count → AreNumberedTo ks count i ns → AreNumberedTo ks count (i + 1) (set ns k i)
numbered_next ks r count i k ns at b n = record {
  size = length-set ns k i ∙ n.size;
  each = λ j m l e. elim (cases_eq j i) [
    | inl q ↦ (
        let w : ◌≡◌ {A = Option ℕ} (Some m) (Some k) = sym e ∙ ap (slice_get ks) q ∙ at in
        let same : m ≡ k = cc w in
        let size = n.size in
        ap (slice_index (set ns k i)) same ∙ get_or-set_same ns k i 0 (omega (arith, b, size)) ∙ sym q)
    | inr q ↦ (
        let low : m < k = rises ks r j i m k (omega (arith, l, q)) e at in
        get_or-set_other ns k m i 0 (λ s. omega (arith, s, low)) ∙ n.each j m (omega (arith, l, q)) e)
  ];
}

pub numbered_all : (ks : List ℕ) (count : ℕ) (ns : List ℕ) → ((k : ℕ) → Contains ks k → k < count) → AreNumberedTo ks count (length ks) ns → AreNumbered ks ns
numbered_all ks count ns within n = record {
  each = λ i k e. (
      let size = n.size in
      let b = within k (at_contains ks i k e) in
      (omega (arith, b, size), n.each i k (slice_get_within ks i k e) e));
}

-- ---- renumbered lines
pub hints_renumbered : (f : ℕ → ℕ) (l : ClauseLine) → hints_of (renumbered f l) ≡ map f (hints_of l)
hints_renumbered f (Hyp k ss) = refl
hints_renumbered f Goal = refl
hints_renumbered f (Def r g) = refl
hints_renumbered f (Inst g ts) = refl
hints_renumbered f (Fresh g m) = refl
hints_renumbered f (Exh t) = refl
hints_renumbered f (Tri s t) = refl
hints_renumbered f (Block b) = refl
hints_renumbered f (Rup c ks) = refl

pub renumbered_same : (f g : ℕ → ℕ) (l : ClauseLine) → ((h : ℕ) → Contains (hints_of l) h → f h ≡ g h) → renumbered f l ≡ renumbered g l
renumbered_same f g (Hyp k ss) e = refl
renumbered_same f g Goal e = refl
renumbered_same f g (Def r h) e = refl
renumbered_same f g (Inst h ts) e = refl
renumbered_same f g (Fresh h m) e = refl
renumbered_same f g (Exh t) e = refl
renumbered_same f g (Tri s t) e = refl
renumbered_same f g (Block b) e = refl
renumbered_same f g (Rup c ks) e = ap (Rup c) (map_same f g ks (all_from_places (λ h. f h ≡ g h) ks (λ i h at. e h (at_contains ks i h at))))

-- ---- kept lines
pub record AreKeptTo (f : ℕ → ℕ) (ls : List ClauseLine) (ks : List ℕ) (i : ℕ) (out : List ClauseLine) : Type 0 where
  pub count : length out ≡ i
  pub each : (j k : ℕ) (l : ClauseLine) → j < i → slice_get ks j ≡ Some k → slice_get ls k ≡ Some l → slice_get out j ≡ Some (renumbered f l)

pub kept_first : (f : ℕ → ℕ) (ls : List ClauseLine) (ks : List ℕ) → AreKeptTo f ls ks 0 []
kept_first f ls ks = record { count = refl; each = λ j k l b at e. absurd (omega (arith, b)) }

pub kept_next : (f : ℕ → ℕ) (ls : List ClauseLine) (ks : List ℕ) (i k : ℕ) (l : ClauseLine) (out : List ClauseLine) → slice_get ks i ≡ Some k → slice_get ls k ≡ Some l → AreKeptTo f ls ks i out
    → AreKeptTo f ls ks (i + 1) (out ++ renumbered f l ∷ [])
kept_next f ls ks i k l out at is a = record {
  count = length_push out (renumbered f l) ∙ ap (λ n. n + 1) a.count;
  each = λ j m o b e t. elim (cases_eq j i) [
    | inl q ↦ (
        let w : ◌≡◌ {A = Option ℕ} (Some m) (Some k) = sym e ∙ ap (slice_get ks) q ∙ at in
        let same : m ≡ k = cc w in
        let v : ◌≡◌ {A = Option ClauseLine} (Some o) (Some l) = sym t ∙ ap (slice_get ls) same ∙ is in
        let own : o ≡ l = cc v in
        ap (slice_get (out ++ renumbered f l ∷ [])) (q ∙ sym a.count) ∙ get_seam out [] (renumbered f l) ∙ ap (λ z. Some (renumbered f z)) (sym own))
    | inr q ↦ get_append out (renumbered f l ∷ []) j (renumbered f o) (a.each j m o (omega (arith, b, q)) e t)
  ];
}

pub kept_all : (f : ℕ → ℕ) (ls : List ClauseLine) (ks : List ℕ) (out : List ClauseLine) → AreKeptTo f ls ks (length ks) out → AreKept f ls ks out
kept_all f ls ks out a = record { count = a.count; each = λ i k l at e. a.each i k l (slice_get_within ks i k at) at e }

-- the numbers of used lines are their places
pub kept_by_place : (ls : List ClauseLine) (ks ns : List ℕ) (out : List ClauseLine) → AreUsed ls ks → AreNumbered ks ns → AreKept (slice_index ns) ls ks out → AreKept (place_in ks) ls ks out
kept_by_place ls ks ns out a n kept = record {
  count = kept.count;
  each = λ i k l at e. kept.each i k l at e ∙ ap Some (renumbered_same (slice_index ns) (place_in ks) l (same i k l at e));
}
  where
    same : (i k : ℕ) (l : ClauseLine) → slice_get ks i ≡ Some k → slice_get ls k ≡ Some l → (h : ℕ) → Contains (hints_of l) h → slice_index ns h ≡ place_in ks h
    same i k l at e h c =
        let b = hint_place ls ks a k h (a.used k (at_contains ks i k at)) (subst (λ hs. Contains hs h) (sym (hints_of_line ls k l e)) c) in
        (n.each b.0 h b.1).1 ∙ sym (place_found ks a.rising b.0 h b.1)

-- a hint of a used line has a new number
pub hint_numbered : (ls : List ClauseLine) (ks ns : List ℕ) → AreUsed ls ks → AreNumbered ks ns → (i k h : ℕ) (l : ClauseLine) → slice_get ks i ≡ Some k → slice_get ls k ≡ Some l → Contains (hints_of l) h → h < length ns
hint_numbered ls ks ns a n i k h l at e c =
    let b = hint_place ls ks a k h (a.used k (at_contains ks i k at)) (subst (λ hs. Contains hs h) (sym (hints_of_line ls k l e)) c) in
    (n.each b.0 h b.1).0

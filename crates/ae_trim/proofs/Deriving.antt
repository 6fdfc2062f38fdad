-- The trimmed proof: all its lines are used, its hints name earlier lines, and it derives what the proof derives.
use Rattle.std.specs.Prelude.{ℕ, zero, suc, ◌+◌, ◌-◌, ◌<◌, true, List, [], ◌∷◌, ◌++◌, ◌≡◌, map, length, reverse, take, get_or, slice_get, slice_index, Option, Some, None}
use Rattle.std.specs.List.{Contains, flat_map}
use Rattle.std.proofs.Common.{refl, sym, ap, ◌∙◌, subst, arith, inl, inr, append_assoc, append-nil}
use Rattle.std.proofs.lemmas.Bool.{cases_lt}
use Rattle.std.proofs.lemmas.List.{get_or-reverse, length-reverse}
use Rattle.std.proofs.lemmas.List.Elements.{Contains-append_cases, Contains-append_left, Contains-append_right}
use Rattle.std.proofs.lemmas.Option.{same_Some, slice_get-get_or, slice_get-map, slice_get_within, get_or_from_slice_get}
use Rattle.ae_base.specs.Options.{◌>>=◌, all_known}
use Rattle.ae_base.proofs.AllOf.{map_same, all_from_places, all_weaker, all_at}
use Rattle.ae_base.proofs.ListFacts.{get_front, map_map, value_at}
use Rattle.ae_base.proofs.Options.{bind_some, each_known, mapped_some, never_some}
use Rattle.ae_base.proofs.Tests.{false_true}
use Rattle.ae_core.specs.Constants.{formula_constants}
use Rattle.ae_core.specs.declared.terms.Term.{Term}
use Rattle.ae_core.specs.declared.formulas.Formula.{Formula}
use Rattle.ae_core.specs.declared.problems.Problem.{Problem}
use Rattle.ae_core.specs.declared.proofs.ClauseLine.{ClauseLine}
use Rattle.ae_core.specs.declared.proofs.ClauseLine.TheVariants.{Hyp, Goal, Def, Inst, Fresh, Exh, Tri, Block, Rup}
use Rattle.ae_core.specs.declared.proofs.Proof.{Proof}
use Rattle.ae_rules.specs.Clauses.{Clause}
use Rattle.ae_rules.specs.Instances.{fresh_terms}
use Rattle.ae_rules.specs.Derivations.{conclusion, stated_by, hinted as hinted_clauses, is_refuted, line_constants, AreNew, Meets, IsAllowed, AreAllowed, last_of, Derives}
use Rattle.ae_trim.specs.Used.{hints_of, hints_at, HintEarlier, IsUsed, last, hinted, AllUsed, AreUsed}
use Rattle.ae_trim.specs.Inner.Marks.{AreNumbered}
use Rattle.ae_trim.specs.Trimmed.{place_in, renumbered, AreKept, IsTrimmed}
use Rattle.ae_trim.proofs.Rising.{contains_at, at_contains, contains_map, rises, place_below, place_found}
use Rattle.ae_trim.proofs.Keeping.{kept_by_place, hints_there, used_within, hints_of_line, hint_place, hints_renumbered}

-- ---- lists
contains_mapped : (f : ℕ → ℕ) (xs : List ℕ) (y : ℕ) → Contains (map f xs) y → (x : ℕ) × Contains xs x × (f x ≡ y)
contains_mapped f xs y c =
    let a = contains_at (map f xs) y c in
    let m = mapped_some f (slice_get xs a.0) y (sym (slice_get-map f xs a.0) ∙ a.1) in
    (m.0, at_contains xs a.0 m.0 m.1, m.2)

in_flat : {X Y : Type 0} (f : X → List Y) (xs : List X) (k : ℕ) (x : X) (y : Y) → slice_get xs k ≡ Some x → Contains (f x) y → Contains (flat_map f xs) y
in_flat f [] k x y e c = never_some x e
in_flat f (z ∷ xs) zero x y e c = Contains-append_left (f z) (flat_map f xs) y (subst (λ w. Contains (f w) y) (sym (same_Some z x e)) c)
in_flat f (z ∷ xs) (suc k) x y e c = Contains-append_right (f z) (flat_map f xs) y (in_flat f xs k x y e c)

flat_in : {X Y : Type 0} (f : X → List Y) (xs : List X) (y : Y) → Contains (flat_map f xs) y → (k : ℕ) × (x : X) × (slice_get xs k ≡ Some x) × Contains (f x) y
flat_in f [] y c = absurd (let b : c.0 < 0 = c.1 in omega (arith, b))
flat_in f (x ∷ xs) y c = elim (Contains-append_cases (f x) (flat_map f xs) y c) [
  | inl w ↦ (zero, x, refl, w)
  | inr w ↦ (let r = flat_in f xs y w in (suc r.0, r.1, r.2, r.3))
]

in_front : {X : Type 0} (xs : List X) (i k : ℕ) (x : X) → k < i → slice_get xs k ≡ Some x → slice_get (take i xs) k ≡ Some x
in_front [] i k x b e = never_some x e
in_front (y ∷ xs) zero k x b e = absurd (omega (arith, b))
in_front (y ∷ xs) (suc i) zero x b e = e
in_front (y ∷ xs) (suc i) (suc k) x b e = in_front xs i k x (omega (arith, b)) e

-- ---- lines that are allowed one after another
module _ (p : Problem) (g : ℕ) where
  allowed_at : (e ls : List ClauseLine) → AreAllowed p g e ls → (k : ℕ) (l : ClauseLine) → slice_get ls k ≡ Some l → IsAllowed p g (e ++ take k ls) l
  allowed_at e [] a k l at = never_some l at
  allowed_at e (x ∷ ls) a zero l at = subst (λ z. IsAllowed p g z l) (sym (append-nil e)) (subst (IsAllowed p g e) (same_Some x l at) a.0)
  allowed_at e (x ∷ ls) a (suc k) l at = subst (λ z. IsAllowed p g z l) (append_assoc e (x ∷ []) (take k ls)) (allowed_at (e ++ x ∷ []) ls a.1 k l at)

  allowed_from : (e ls : List ClauseLine) → ((k : ℕ) (l : ClauseLine) → slice_get ls k ≡ Some l → IsAllowed p g (e ++ take k ls) l) → AreAllowed p g e ls
  allowed_from e [] f = tt
  allowed_from e (x ∷ ls) f = (
    subst (λ z. IsAllowed p g z x) (append-nil e) (f zero x refl),
    allowed_from (e ++ x ∷ []) ls (λ k l at. subst (λ z. IsAllowed p g z l) (sym (append_assoc e (x ∷ []) (take k ls))) (f (suc k) l at)),
  )

  -- what a line states doesn't hang on the numbers of its hints
  same_conclusion : (f : ℕ → ℕ) (l : ClauseLine) → conclusion p g (renumbered f l) ≡ conclusion p g l
  same_conclusion f (Hyp k ss) = refl
  same_conclusion f Goal = refl
  same_conclusion f (Def r h) = refl
  same_conclusion f (Inst h ts) = refl
  same_conclusion f (Fresh h m) = refl
  same_conclusion f (Exh t) = refl
  same_conclusion f (Tri s t) = refl
  same_conclusion f (Block b) = refl
  same_conclusion f (Rup c ks) = refl

  same_constants : (f : ℕ → ℕ) (l : ClauseLine) → line_constants p g (renumbered f l) ≡ line_constants p g l
  same_constants f (Hyp k ss) = refl
  same_constants f Goal = refl
  same_constants f (Def r h) = refl
  same_constants f (Inst h ts) = refl
  same_constants f (Fresh h m) = refl
  same_constants f (Exh t) = refl
  same_constants f (Tri s t) = refl
  same_constants f (Block b) = refl
  same_constants f (Rup c ks) = refl

last_line : (ls : List ClauseLine) (k : ℕ) (l : ClauseLine) → k + 1 ≡ length ls → slice_get ls k ≡ Some l → last_of ls ≡ Some l
last_line ls k l e at =
    let n = length-reverse ls in
    slice_get-get_or (reverse ls) 0 l (omega (arith, n, e)) ∙ ap Some (get_or-reverse ls 0 l (omega (arith, e)) ∙ ap (λ j. get_or ls j l) (omega (arith, e)) ∙ get_or_from_slice_get ls k l l at)

-- ---- the trimmed proof
module _ (ls : List ClauseLine) (rest : HintEarlier ls) (ks : List ℕ) (a : AreUsed ls ks) (out : List ClauseLine) (kept : AreKept (place_in ks) ls ks out) where
  abbrev Used : ℕ → Type 0
  Used = IsUsed ls

  used_at : (i k : ℕ) → slice_get ks i ≡ Some k → Used k
  used_at i k at = a.used k (at_contains ks i k at)

  line_at : (i k : ℕ) → slice_get ks i ≡ Some k → (l : ClauseLine) × (slice_get ls k ≡ Some l)
  line_at i k at = value_at ls k (used_within ls rest k (used_at i k at))

  -- the place of a line of the trimmed proof
  old_place : (i : ℕ) → i < length out → (k : ℕ) × (slice_get ks i ≡ Some k)
  old_place i b = (let c = kept.count in value_at ks i (omega (arith, b, c)))

  hints_out : (i k : ℕ) → slice_get ks i ≡ Some k → hints_at out i ≡ map (place_in ks) (hints_at ls k)
  hints_out i k at =
      let l = line_at i k at in
      hints_of_line out i (renumbered (place_in ks) l.0) (kept.each i k l.0 at l.1) ∙ hints_renumbered (place_in ks) l.0 ∙ ap (map (place_in ks)) (sym (hints_of_line ls k l.0 l.1))

  -- a hint of the line at place k has an earlier place among the used ones
  earlier_hint : (i k h : ℕ) → slice_get ks i ≡ Some k → Contains (hints_at ls k) h → (b : ℕ) × (slice_get ks b ≡ Some h) × (place_in ks h ≡ b) × (b < i) × (h < k)
  earlier_hint i k h at c =
      let b = hint_place ls ks a k h (used_at i k at) c in
      let low = rest.each k h c in
      (b.0, b.1, place_found ks a.rising b.0 h b.1, place_below ks a.rising b.0 i h k b.1 at low, low)

  pub hint_earlier : HintEarlier out
  hint_earlier = record {
    each = λ j n c. (
        let k = old_place j (hints_there out j n c) in
        let m = contains_mapped (place_in ks) (hints_at ls k.0) n (subst (λ hs. Contains hs n) (hints_out j k.0 k.1) c) in
        let e = earlier_hint j k.0 m.0 k.1 m.1 in
        let p = e.2 in let q = e.3 in let r = m.2 in
        omega (arith, p, q, r));
  }

  -- the last line is the last of the used ones
  last_place : (i k : ℕ) → k + 1 ≡ length ls → slice_get ks i ≡ Some k → i + 1 ≡ length out
  last_place i k e at = elim (cases_lt (i + 1) (length ks)) [
    | inl l ↦ absurd (
        let m = value_at ks (i + 1) l in
        let up : k < m.0 = rises ks a.rising i (i + 1) k m.0 (omega arith) at m.1 in
        let b = used_within ls rest m.0 (used_at (i + 1) m.0 m.1) in
        omega (arith, up, b, e))
    | inr l ↦ (
        let c = kept.count in
        let b = slice_get_within ks i k at in
        omega (arith, c, b, l))
  ]

  used_out : (k : ℕ) → Used k → (i : ℕ) → slice_get ks i ≡ Some k → IsUsed out i
  used_out k (last n e) i at = last i (last_place i n e at)
  used_out k (hinted j n u c) i at =
      let b = contains_at ks j (a.all j u) in
      hinted b.0 i (used_out j u b.0 b.1)
      (subst (λ hs. Contains hs i) (sym (hints_out b.0 j b.1)) (subst (Contains (map (place_in ks) (hints_at ls j))) (place_found ks a.rising i n at) (contains_map (place_in ks) (hints_at ls j) n c)))

  pub all_used : AllUsed out
  all_used = record { each = λ i b. (let k = old_place i b in used_out k.0 (used_at i k.0 k.1) i k.1) }

  module _ (p : Problem) (g : ℕ) where
    -- a hinted line states the same clause
    same_stated : (i k h : ℕ) → slice_get ks i ≡ Some k → Contains (hints_at ls k) h → stated_by p g (take i out) (place_in ks h) ≡ stated_by p g (take k ls) h
    same_stated i k h at c =
        let e = earlier_hint i k h at c in
        let l = line_at e.0 h e.1 in
        let new : slice_get (take i out) e.0 ≡ Some (renumbered (place_in ks) l.0) = in_front out i e.0 (renumbered (place_in ks) l.0) e.3 (kept.each e.0 h l.0 e.1 l.1) in
        let old : slice_get (take k ls) h ≡ Some l.0 = in_front ls k h l.0 e.4 l.1 in
        ap (stated_by p g (take i out)) e.2 ∙ ap (λ o. o >>= conclusion p g) new ∙ same_conclusion p g (place_in ks) l.0 ∙ sym (ap (λ o. o >>= conclusion p g) old)

    same_hinted : (i k : ℕ) (hs : List ℕ) → slice_get ks i ≡ Some k → hints_at ls k ≡ hs → hinted_clauses p g (take i out) (map (place_in ks) hs) ≡ hinted_clauses p g (take k ls) hs
    same_hinted i k hs at e =
        ap all_known (
        map_map (place_in ks) (stated_by p g (take i out)) hs
        ∙ map_same (λ h. stated_by p g (take i out) (place_in ks h)) (stated_by p g (take k ls)) hs
        (all_from_places (λ h. stated_by p g (take i out) (place_in ks h) ≡ stated_by p g (take k ls) h) hs
        (λ j h w. same_stated i k h at (subst (λ z. Contains z h) (sym e) (at_contains hs j h w))))
        )

    -- the constants of the earlier lines that are kept are constants of earlier lines
    constants_kept : (i k : ℕ) → slice_get ks i ≡ Some k → (t : Term) → Contains (flat_map (line_constants p g) (take i out)) t → Contains (flat_map (line_constants p g) (take k ls)) t
    constants_kept i k at t c =
        let f = flat_in (line_constants p g) (take i out) t c in
        let w = get_front out i f.0 f.1 f.2 in
        let m = old_place f.0 (slice_get_within out f.0 f.1 w.0) in
        let l = line_at f.0 m.0 m.1 in
        let is : f.1 ≡ renumbered (place_in ks) l.0 = same_Some f.1 (renumbered (place_in ks) l.0) (sym w.0 ∙ kept.each f.0 m.0 l.0 m.1 l.1) in
        let low : m.0 < k = rises ks a.rising f.0 i m.0 k w.1 m.1 at in
        in_flat (line_constants p g) (take k ls) m.0 l.0 t (in_front ls k m.0 l.0 low l.1)
        (subst (λ z. Contains z t) (ap (line_constants p g) is ∙ same_constants p g (place_in ks) l.0) f.3)

    new_kept : (i k m : ℕ) (f : Formula) → slice_get ks i ≡ Some k → AreNew p g (take k ls) m f → AreNew p g (take i out) m f
    new_kept i k m f at n =
        all_weaker (λ c. ¬ (Contains (formula_constants f ++ flat_map (line_constants p g) (take k ls)) c)) (λ c. ¬ (Contains (formula_constants f ++ flat_map (line_constants p g) (take i out)) c))
        (λ t no h. no (elim (Contains-append_cases (formula_constants f) (flat_map (line_constants p g) (take i out)) t h) [
          | inl w ↦ Contains-append_left (formula_constants f) (flat_map (line_constants p g) (take k ls)) t w
          | inr w ↦ Contains-append_right (formula_constants f) (flat_map (line_constants p g) (take k ls)) t (constants_kept i k at t w)
        ]))
        (fresh_terms m f) n

    meets_kept : (i k : ℕ) (l : ClauseLine) → slice_get ks i ≡ Some k → hints_at ls k ≡ hints_of l → Meets p g (take k ls) l → Meets p g (take i out) (renumbered (place_in ks) l)
    meets_kept i k (Hyp n ss) at e m = tt
    meets_kept i k Goal at e m = tt
    meets_kept i k (Def r f) at e m = tt
    meets_kept i k (Inst f ts) at e m = tt
    meets_kept i k (Fresh f n) at e m = new_kept i k n f at m
    meets_kept i k (Exh t) at e m = tt
    meets_kept i k (Tri s t) at e m = tt
    meets_kept i k (Block b) at e m = m
    meets_kept i k (Rup c hs) at e m = ap (λ cs. is_refuted cs c) (same_hinted i k hs at e) ∙ m

    allowed_kept : AreAllowed p g [] ls → AreAllowed p g [] out
    allowed_kept all = allowed_from p g [] out (λ i o at. (
        let k = old_place i (slice_get_within out i o at) in
        let l = line_at i k.0 k.1 in
        let is : renumbered (place_in ks) l.0 ≡ o = same_Some (renumbered (place_in ks) l.0) o (sym (kept.each i k.0 l.0 k.1 l.1) ∙ at) in
        let was = allowed_at p g [] ls all k.0 l.0 l.1 in
        subst (IsAllowed p g (take i out)) is
        ((was.0.0, same_conclusion p g (place_in ks) l.0 ∙ was.0.1), meets_kept i k.0 l.0 k.1 (hints_of_line ls k.0 l.0 l.1) was.1)))

    empty_kept : 0 < length ls → (last_of ls >>= conclusion p g) ≡ Some [] → (last_of out >>= conclusion p g) ≡ Some []
    empty_kept some e =
        let k : (n : ℕ) × (n + 1 ≡ length ls) = (length ls - 1, omega (arith, some)) in
        let b = contains_at ks k.0 (a.all k.0 (last k.0 k.1)) in
        let l = line_at b.0 k.0 b.1 in
        ap (λ o. o >>= conclusion p g) (last_line out b.0 (renumbered (place_in ks) l.0) (last_place b.0 k.0 k.1 b.1) (kept.each b.0 k.0 l.0 b.1 l.1))
        ∙ same_conclusion p g (place_in ks) l.0 ∙ sym (ap (λ o. o >>= conclusion p g) (last_line ls k.0 l.0 k.1 l.1)) ∙ e

pub trimmed_derives : (proof trimmed : Proof) → HintEarlier proof.lines → 0 < length proof.lines → IsTrimmed proof trimmed → (p : Problem) (g : ℕ) → Derives p g proof → Derives p g trimmed
trimmed_derives proof trimmed rest some t p g d = record {
  allowed = allowed_kept proof.lines rest t.places t.are_used trimmed.lines t.kept p g d.allowed;
  empty = empty_kept proof.lines rest t.places t.are_used trimmed.lines t.kept p g some d.empty;
}

pub trimmed_used : (proof trimmed : Proof) → HintEarlier proof.lines → IsTrimmed proof trimmed → AllUsed trimmed.lines
trimmed_used proof trimmed rest t = all_used proof.lines rest t.places t.are_used trimmed.lines t.kept

pub trimmed_earlier : (proof trimmed : Proof) → HintEarlier proof.lines → IsTrimmed proof trimmed → HintEarlier trimmed.lines
trimmed_earlier proof trimmed rest t = hint_earlier proof.lines rest t.places t.are_used trimmed.lines t.kept

-- the lines that are kept, where new numbers are looked up in a list
pub trimmed_of : (proof trimmed : Proof) (ls : List ClauseLine) (ks ns : List ℕ) → ls ≡ proof.lines → AreUsed ls ks → AreNumbered ks ns → AreKept (slice_index ns) ls ks trimmed.lines → IsTrimmed proof trimmed
trimmed_of proof trimmed ls ks ns e a n kept = record {
  places = ks;
  are_used = subst (λ z. AreUsed z ks) e a;
  kept = subst (λ z. AreKept (place_in ks) z ks trimmed.lines) e (kept_by_place ls ks ns trimmed.lines a n kept);
}

-- ---- a derivation can be trimmed
refuted_some : (o : Option (List Clause)) (c : Clause) → is_refuted o c ≡ true → (cs : List Clause) × (o ≡ Some cs)
refuted_some (Some cs) c e = (cs, refl)
refuted_some None c e = false_true e

none_hinted : {P : Type 0} (h : ℕ) → Contains [] h → P
none_hinted h c = absurd (let b : c.0 < 0 = c.1 in omega (arith, b))

hint_low : (p : Problem) (g : ℕ) (ls : List ClauseLine) (k : ℕ) (l : ClauseLine) → Meets p g (take k ls) l → (h : ℕ) → Contains (hints_of l) h → h < k
hint_low p g ls k (Hyp n ss) m h c = none_hinted h c
hint_low p g ls k Goal m h c = none_hinted h c
hint_low p g ls k (Def r f) m h c = none_hinted h c
hint_low p g ls k (Inst f ts) m h c = none_hinted h c
hint_low p g ls k (Fresh f n) m h c = none_hinted h c
hint_low p g ls k (Exh t) m h c = none_hinted h c
hint_low p g ls k (Tri s t) m h c = none_hinted h c
hint_low p g ls k (Block b) m h c = none_hinted h c
hint_low p g ls k (Rup d hs) m h c =
    let cs = refuted_some (hinted_clauses p g (take k ls) hs) d m in
    let at = contains_at hs h c in
    let s = all_at (λ h. (y : Clause) × (stated_by p g (take k ls) h ≡ Some y)) hs at.0 h (each_known (stated_by p g (take k ls)) hs cs.0 cs.1) at.1 in
    let l = bind_some (slice_get (take k ls) h) (conclusion p g) s.0 s.1 in
    (get_front ls k h l.0 l.1).1

pub derivation_trims : (p : Problem) (g : ℕ) (proof : Proof) → Derives p g proof → HintEarlier proof.lines × (0 < length proof.lines)
derivation_trims p g proof d = (record { each = earlier }, some proof.lines d.empty)
  where
    earlier : (j h : ℕ) → Contains (hints_at proof.lines j) h → h < j
    earlier j h c =
        let l = value_at proof.lines j (hints_there proof.lines j h c) in
        hint_low p g proof.lines j l.0 (allowed_at p g [] proof.lines d.allowed j l.0 l.1).1 h (subst (λ hs. Contains hs h) (hints_of_line proof.lines j l.0 l.1) c)

    some : (ls : List ClauseLine) → (last_of ls >>= conclusion p g) ≡ Some [] → 0 < length ls
    some [] e = never_some [] e
    some (l ∷ ls) e = omega arith

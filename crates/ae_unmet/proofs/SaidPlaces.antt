-- The assumed literals at their places, and what is said there.
use Rattle.std.specs.Prelude.{ℕ, zero, suc, ◌+◌, ◌<◌, Bool, true, false, List, [], ◌∷◌, ◌++◌, ◌≡◌, ◌==◌, length, slice_get, Option, Some, if◌then◌else◌}
use Rattle.std.specs.List.{Contains}
use Rattle.std.proofs.Common.{refl, sym, ap, ◌∙◌, subst, arith}
use Rattle.std.proofs.lemmas.Bool.{eq-eqb, ne_eqb}
use Rattle.std.proofs.lemmas.Option.{none-some, same_Some, slice_get_within, slice_get-get_or}
use Rattle.std.proofs.lemmas.List.{length-map, length_push}
use Rattle.ae_base.proofs.AllOf.{all_from_places}
use Rattle.ae_base.proofs.ListFacts.{value_at, get_map, get_append, get_seam}
use Rattle.ae_base.proofs.Tests.{false_true}
use Rattle.ae_core.specs.Sorts.{formula_ok}
use Rattle.ae_core.specs.declared.formulas.Lit.{Lit}
use Rattle.ae_journal.proofs.Splits.{contains_at}
use Rattle.ae_pmap.specs.Forest.{present}
use Rattle.ae_pmap.specs.Pairs.{found}
use Rattle.ae_store.specs.Stores.{Stored}
use Rattle.ae_theory.specs.Names.{terms_in}
use Rattle.ae_theory.specs.Noting.{literals}
use Rattle.ae_theory.specs.Tagged.{Tagged}
use Rattle.ae_conflicts.specs.declared.assumed.Assumed.{Assumed}
use Rattle.ae_literals.specs.declared.said.Said.{Said}
use Rattle.ae_literals.specs.declared.said.Said.TheVariants.{Equal, Atom, Other}
use Rattle.ae_literals.specs.Said.{Says, AreSaid, IsWithin, AreWithin}
use Rattle.ae_state.specs.declared.holding.Holding.{Holding}
use Rattle.ae_state.specs.Names.{assumed_in}
use Rattle.ae_state.specs.Right.{AreNumbered, IsRight}
use Rattle.ae_state.specs.Complete.{AreWellSorted}
use Rattle.ae_turns.specs.Representing.{IsTaken}
use native.Mathlib.Decide.{ℕ_discrete}
use Rattle.ae_unmet.specs.Inner.Found.{AreFirstSaid, AreSaidBy}
use Rattle.ae_unmet.proofs.TakenNames.{terms_long}

-- ---- a map whose keys are numbers that follow each other
found_first : {A : Type 0} (b : Bool) (x y : A) (o : Option A) → b ≡ true → x ≡ y → (if b then Some x else o) ≡ Some y
found_first true x y o e f = ap Some f
found_first false x y o e f = false_true e

found_later : {A : Type 0} (b : Bool) (x y : A) (o : Option A) → b ≡ false → o ≡ Some y → (if b then Some x else o) ≡ Some y
found_later true x y o e f = false_true (sym e)
found_later false x y o e f = f

found_numbered : {A : Type 0} (ps : List (ℕ × A)) (base : ℕ) → ((k : ℕ) (p : ℕ × A) → slice_get ps k ≡ Some p → p.0 ≡ base + k) → (k : ℕ) (p : ℕ × A) → slice_get ps k ≡ Some p → found ps (base + k) ≡ Some p.1
found_numbered {A = A} [] base h k p e = absurd (none-some p e)
found_numbered {A = A} (q ∷ ps) base h zero p e =
    found_first (q.0 == base + 0) q.1 p.1 (found ps (base + 0)) (eq-eqb q.0 (base + 0) (h 0 q refl)) (ap (λ (z : ℕ × A). z.1) (same_Some q p e))
found_numbered {A = A} (q ∷ ps) base h (suc k) p e =
    let first : q.0 ≡ base + 0 = h 0 q refl in
    let on : suc base + k ≡ base + suc k = omega arith in
    found_later (q.0 == base + suc k) q.1 p.1 (found ps (base + suc k)) (ne_eqb q.0 (base + suc k) (λ f. omega (arith, first, f)))
    (ap (found ps) (sym on) ∙ found_numbered ps (suc base) (λ j r g. let at : r.0 ≡ base + suc j = h (suc j) r g in omega (arith, at)) k p e)

-- ---- the literal at a place
pub record IsPlaced (held : List (ℕ × Assumed)) (place : ℕ) (p : ℕ × Assumed) : Type 0 where
  pub at : slice_get held place ≡ Some p
  pub is : found held place ≡ Some p.1

module _ (next : ℕ) (held : List (ℕ × Assumed)) (n : AreNumbered next held) where
  pub placed : (k : ℕ) → k < next → (p : ℕ × Assumed) × IsPlaced held k p
  placed k l =
      let w = value_at held k (omega (arith, l, n.many)) in
      let on : 0 + k ≡ k = omega arith in (
        w.0,
        record { at = w.1; is = ap (found held) (sym on) ∙ found_numbered held 0 (λ j p e. let is : p.0 ≡ j = n.places j p e in omega (arith, is)) k w.0 w.1 },
      )

-- a literal of the list, with its place
pub record IsOfPlace (held : List (ℕ × Assumed)) (next : ℕ) (x : Lit) : Type 0 where
  pub place : ℕ
  pub below : place < next
  pub entry : Assumed
  pub at : found held place ≡ Some entry
  pub is : entry.lit ≡ x

module _ (o : Holding) (right : IsRight o) where
  pub lit_there : (k : ℕ) (p : ℕ × Assumed) → slice_get (present o.assumed) k ≡ Some p → slice_get (literals (assumed_in o)) k ≡ Some (p.1).lit
  lit_there k p e =
      get_map (λ (z : Tagged). z.lit) (assumed_in o) k (record { lit = (p.1).lit; tag = (p.1).tag })
      (get_map (λ (z : ℕ × Assumed). record { lit = (z.1).lit; tag = (z.1).tag }) (present o.assumed) k p e)

  pub literals_long : length (literals (assumed_in o)) ≡ o.next
  literals_long =
      length-map (assumed_in o) (λ (z : Tagged). z.lit) ∙ length-map (present o.assumed) (λ (z : ℕ × Assumed). record { lit = (z.1).lit; tag = (z.1).tag }) ∙ (right.numbered).many

  pub place_of : (x : Lit) → Contains (literals (assumed_in o)) x → IsOfPlace (present o.assumed) o.next x
  place_of x (k, l, e) =
      let below : k < o.next = omega (arith, l, literals_long) in
      let w = placed o.next (present o.assumed) right.numbered k below in
      let here : slice_get (literals (assumed_in o)) k ≡ Some x = slice_get-get_or (literals (assumed_in o)) k _ l ∙ ap Some e in
      record { place = k; below = below; entry = (w.0).1; at = (w.1).is; is = same_Some ((w.0).1).lit x (sym (lit_there k w.0 (w.1).at) ∙ here) }

  -- where literals are well sorted, so is the one at a place
  pub sorted_at : AreWellSorted o → (k : ℕ) → k < o.next → (a : Assumed) → found (present o.assumed) k ≡ Some a → formula_ok o.signature (a.lit).formula ≡ true
  sorted_at well k l a e =
      let w = placed o.next (present o.assumed) right.numbered k l in
      let same : (w.0).1 ≡ a = same_Some (w.0).1 a (sym (w.1).is ∙ e) in
      subst (λ (z : Assumed). formula_ok o.signature (z.lit).formula ≡ true) same
      (well ((w.0).1).lit (contains_at (literals (assumed_in o)) k ((w.0).1).lit (lit_there k w.0 (w.1).at)))

-- ---- what it says
pub record IsSaidAt (s : Stored) (o : Holding) (place : ℕ) (y : Said) : Type 0 where
  pub below : place < o.next
  pub entry : Assumed
  pub at : found (present o.assumed) place ≡ Some entry
  pub says : Says s entry.lit y
  pub there : found (present o.said) place ≡ Some y

pub within_of : (s : Stored) (x : Lit) (y : Said) → length (terms_in s) ≡ length s.nodes → Says s x y → IsWithin (length s.nodes) y
within_of s x (Equal b l r) e h =
    let i : l < length (terms_in s) = slice_get_within (terms_in s) l h.left h.left_at in
    let j : r < length (terms_in s) = slice_get_within (terms_in s) r h.right h.right_at in
    (omega (arith, i, e), omega (arith, j, e))
within_of s x (Atom b n) e h = slice_get_within s.nodes n (h.of).node (h.of).at
within_of s x Other e h = tt

module _ (s : Stored) (o : Holding) (t : IsTaken o s) where
  right : IsRight o
  right = (t.fits).right

  pub said_at_place : (k : ℕ) → k < o.next → (a : Assumed) → found (present o.assumed) k ≡ Some a → (y : Said) × Says s a.lit y × (found (present o.said) k ≡ Some y)
  said_at_place k l a e = let r = right.read k a e in (r.what, r.says s t.store (t.fits).terms, r.at)

  module _ (said : List Said) (are : AreSaidBy o said) where
    pub said_there : (k : ℕ) (y : Said) → slice_get said k ≡ Some y → IsSaidAt s o k y
    said_there k y e =
        let l : k < o.next = (let w = slice_get_within said k y e in omega (arith, w, are.many)) in
        let a = placed o.next (present o.assumed) right.numbered k l in
        let r = said_at_place k l (a.0).1 (a.1).is in
        let same : r.0 ≡ y = same_Some r.0 y (sym (are.each k r.0 l r.2) ∙ e) in
        record { below = l; entry = (a.0).1; at = (a.1).is; says = subst (Says s ((a.0).1).lit) same r.1; there = r.2 ∙ ap Some same }

    pub said_within : AreWithin (length s.nodes) said
    said_within = all_from_places (IsWithin (length s.nodes)) said (λ k y e. let w = said_there k y e in within_of s (w.entry).lit y (terms_long o s t) w.says)

    pub are_said : AreSaid s said (literals (assumed_in o))
    are_said =
        record {
          place = λ x c. (place_of o right x c).place;
          what = λ x c. let w = place_of o right x c in (said_at_place w.place w.below w.entry w.at).0;
          at = λ x c. let w = place_of o right x c in let r = said_at_place w.place w.below w.entry w.at in are.each w.place r.0 w.below r.2;
          says = λ x c. let w = place_of o right x c in let r = said_at_place w.place w.below w.entry w.at in subst (λ (z : Lit). Says s z r.0) w.is r.1;
        }

-- ---- what is said, one place after another
pub none_said : (o : Holding) (said : List Said) → said ≡ [] → AreFirstSaid o 0 said
none_said o said e = record { many = ap length e; each = λ k y l f. absurd (omega (arith, l)) }

pub said_more : (o : Holding) (said new : List Said) (place : ℕ) (x : Said) → AreFirstSaid o place said → new ≡ said ++ x ∷ [] → ((y : Said) → found (present o.said) place ≡ Some y → x ≡ y) → AreFirstSaid o (place + 1) new
said_more o said new place x a e h =
    record { many = omega (arith, ap length e, length_push said x, a.many); each = λ k y l f. by_place k y l f (ℕ_discrete k place) }
  where
    by_place : (k : ℕ) (y : Said) → k < place + 1 → found (present o.said) k ≡ Some y → Dec (k ≡ place) → slice_get new k ≡ Some y
    by_place k y l f (yes g) =
        let here : slice_get (said ++ x ∷ []) k ≡ Some x = ap (slice_get (said ++ x ∷ [])) (g ∙ sym a.many) ∙ get_seam said [] x in
        ap (λ (zs : List Said). slice_get zs k) e ∙ here ∙ ap Some (h y (ap (found (present o.said)) (sym g) ∙ f))
    by_place k y l f (no g) = ap (λ (zs : List Said). slice_get zs k) e ∙ get_append said (x ∷ []) k y (a.each k y (omega (arith, l, g)) f)

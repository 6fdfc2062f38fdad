-- Rows with their directions, and one row more.
use Rattle.std.specs.Prelude.{ℕ, pos, ◌-ℤ◌, Bool, true, false, ◌≡◌, ◌⊎◌, Option, Some, None, List, [], ◌∷◌, ◌++◌, take, length, if◌then◌else◌}
use Rattle.std.specs.List.{Contains, list_any}
use Rattle.std.proofs.Common.{refl, sym, ap, ◌∙◌, subst, inl, inr}
use Rattle.std.proofs.lemmas.List.Elements.{Contains-append_left, Contains-append_right, Contains-append_cases}
use Rattle.std.proofs.lemmas.Map.Views.{list_any-from_Contains, Contains-from_any}
use Rattle.std.proofs.lemmas.List.{append-nil}
use Rattle.std.proofs.Math.Seq.{take-append_seam}
use Rattle.indexmap.specs.IndexSet.{insert_key}
use Rattle.ae_base.proofs.AllOf.{all_append}
use Rattle.ae_base.proofs.Tests.{true_false}
use Rattle.ae_num.specs.Forms.{meaning, IsNormal}
use Rattle.ae_num.specs.Limits.{FitsLimits}
use Rattle.ae_journal.proofs.Splits.{contains_here, contains_one}
use Rattle.ae_num.specs.declared.forms.Lin.{Lin}
use Rattle.ae_bounds.specs.declared.rows.Row.{Row}
use Rattle.ae_bounds.specs.declared.rows.Unrounded.{Unrounded}
use Rattle.ae_bounds.specs.declared.directions.Direction.{Direction}
use Rattle.ae_bounds.specs.Combinations.{IsThere}
use Rattle.ae_bounds.specs.Rounding.{DoesCount, HasForm, IsLeastRounded}
use Rattle.ae_bounds.specs.Rounding.HasForm.{own, assumed}
use Rattle.ae_bounds.specs.Inner.Directions.{IsDirectionOf, IsEarlier, AreIndexed, is_same, is_same_decides, is_same_equiv}
use Rattle.ae_bounds.proofs.OwnForms.{counts_of}
use Rattle.ae_bounds.proofs.Zeros.{direction_normal}
use Rattle.ae_bounds.proofs.SameDirection.{there_by_direction, direction_by_there}

-- ---- the test on directions
pub seen : (ds : List Direction) (d : Direction) → list_any (is_same d) ds ≡ true → Contains ds d
seen ds d e = Contains-from_any (λ x y. (is_same_decides x y).0) d ds e

pub unseen : (ds : List Direction) (d : Direction) → list_any (is_same d) ds ≡ false → ¬ Contains ds d
unseen ds d e c = true_false (sym (list_any-from_Contains is_same_equiv d ds c) ∙ e)

pub seen_there : (rows : List Row) (ds : List Direction) (r : Row) (d : Direction) → AreIndexed rows ds → IsDirectionOf r.lin d.form → list_any (is_same d) ds ≡ true → IsThere rows (meaning r.lin)
seen_there rows ds r d x i e = there_by_direction rows ds r.lin d x i (seen ds d e)

pub unseen_there : (rows : List Row) (ds : List Direction) (r : Row) (d : Direction) → AreIndexed rows ds → IsDirectionOf r.lin d.form → list_any (is_same d) ds ≡ false → ¬ IsThere rows (meaning r.lin)
unseen_there rows ds r d x i e t = unseen ds d e (direction_by_there rows ds r.lin d x i t)

-- ---- the directions after one more
pub inserted_new : (ds : List Direction) (d : Direction) → list_any (is_same d) ds ≡ false → insert_key is_same ds d ≡ ds ++ d ∷ []
inserted_new ds d e = ap (λ (b : Bool). if b then ds else ds ++ d ∷ []) e

inserted : (ds : List Direction) (d : Direction) → (Contains ds d × (insert_key is_same ds d ≡ ds)) ⊎ (insert_key is_same ds d ≡ ds ++ d ∷ [])
inserted ds d = by_test (list_any (is_same d) ds) refl
  where
    by_test : (b : Bool) → list_any (is_same d) ds ≡ b → (Contains ds d × (insert_key is_same ds d ≡ ds)) ⊎ (insert_key is_same ds d ≡ ds ++ d ∷ [])
    by_test true e = inl (seen ds d e, ap (λ (b : Bool). if b then ds else ds ++ d ∷ []) e)
    by_test false e = inr (inserted_new ds d e)

pub insert_more : (ds : List Direction) (d e : Direction) → Contains ds e → Contains (insert_key is_same ds d) e
insert_more ds d e h =
    elim (inserted ds d) [
      | inl (c, k) ↦ subst (λ (es : List Direction). Contains es e) (sym k) h
      | inr k ↦ subst (λ (es : List Direction). Contains es e) (sym k) (Contains-append_left ds (d ∷ []) e h)
    ]

pub insert_here : (ds : List Direction) (d : Direction) → Contains (insert_key is_same ds d) d
insert_here ds d =
    elim (inserted ds d) [
      | inl (c, k) ↦ subst (λ (es : List Direction). Contains es d) (sym k) c
      | inr k ↦ subst (λ (es : List Direction). Contains es d) (sym k) (Contains-append_right ds (d ∷ []) d (contains_here d []))
    ]

pub insert_less : (ds : List Direction) (d e : Direction) → Contains (insert_key is_same ds d) e → Contains ds e ⊎ (d ≡ e)
insert_less ds d e h =
    elim (inserted ds d) [
      | inl (c, k) ↦ inl (subst (λ (es : List Direction). Contains es e) k h)
      | inr k ↦ elim (Contains-append_cases ds (d ∷ []) e (subst (λ (es : List Direction). Contains es e) k h)) [ inl a ↦ inl a | inr b ↦ inr (contains_one d e b) ]
    ]

-- a direction that was taken off again
pub insert_cut : (ds es : List Direction) (d : Direction) (n : ℕ) → n ≡ length ds → es ≡ insert_key is_same ds d → take n es ≡ ds
insert_cut ds es d n m k =
    (λ i. take (m i) (k i))
    ∙ elim (inserted ds d) [
      | inl (c, h) ↦ (ap (take (length ds)) (h ∙ sym (append-nil ds)) ∙ take-append_seam ds [])
      | inr h ↦ (ap (take (length ds)) h ∙ take-append_seam ds (d ∷ []))
    ]

-- ---- one row more, of which each form has a direction
abbrev IsOfForm : Row → Direction → Type 0
IsOfForm r e = (l : Lin) × HasForm r l × IsDirectionOf l e.form

push : (rows : List Row) (ds es : List Direction) (r : Row) → AreIndexed rows ds → IsNormal r.lin → ((e : Direction) → Contains ds e → Contains es e)
    → ((l : Lin) → HasForm r l → (d : Direction) × Contains es d × IsDirectionOf l d.form) → ((e : Direction) → Contains es e → Contains ds e ⊎ IsOfForm r e) → AreIndexed (rows ++ r ∷ []) es
push rows ds es r x n more here less = record {
  normal = all_append (λ (t : Row). IsNormal t.lin) rows (r ∷ []) x.normal (n, tt);
  each = λ t l c f. elim (Contains-append_cases rows (r ∷ []) t c) [
    | inl a ↦ (let h = x.each t l a f in (h.0, more h.0 h.1, h.2))
    | inr b ↦ here l (subst (λ (s : Row). HasForm s l) (sym (contains_one r t b)) f)
  ];
  own = λ e c. elim (less e c) [
    | inl a ↦ (let h = x.own e a in (h.0, h.1, Contains-append_left rows (r ∷ []) h.0 h.2, h.3, h.4))
    | inr b ↦ (r, b.0, Contains-append_right rows (r ∷ []) r (contains_here r []), b.1, b.2)
  ];
}

-- its own form alone
forms_alone : (r : Row) (d : Direction) (es : List Direction) → IsEarlier r None → IsDirectionOf r.lin d.form → Contains es d → (l : Lin) → HasForm r l → (e : Direction) × Contains es e × IsDirectionOf l e.form
forms_alone r d es alone i c _ (own k m) = (d, c, i)
forms_alone r d es alone i c _ (assumed k tag u f g) = absurd (alone tag u f g)

pub indexed_added : (rows new : List Row) (ds es : List Direction) (r : Row) (d : Direction) → DoesCount r → AreIndexed rows ds → IsDirectionOf r.lin d.form → IsEarlier r None → new ≡ rows ++ r ∷ [] → es ≡ insert_key is_same ds d → AreIndexed new es
indexed_added rows new ds es r d k x i alone e f =
    subst (λ (w : List Row). AreIndexed w es) (sym e)
    (subst (AreIndexed (rows ++ r ∷ [])) (sym f)
    (push rows ds (insert_key is_same ds d) r x (direction_normal r.lin d.form i) (λ h c. insert_more ds d h c) (forms_alone r d (insert_key is_same ds d) alone i (insert_here ds d))
    (λ h c. elim (insert_less ds d h c) [ inl a ↦ inl a | inr b ↦ inr (r.lin, own k (λ l. alone l.tag l.earlier l.from l.was), subst (λ (s : Direction). IsDirectionOf r.lin s.form) b i) ])))

-- and the form that it had before it was rounded
pub same_some : (u v : Unrounded) (o : Option Unrounded) → o ≡ Some u → o ≡ Some v → u ≡ v
same_some u v o e f = let g : Some u ≡ Some v = sym e ∙ f in cc

forms_both : (r : Row) (d e : Direction) (es : List Direction) → IsEarlier r (Some e) → IsDirectionOf r.lin d.form → Contains es d → Contains es e → (l : Lin) → HasForm r l → (h : Direction) × Contains es h × IsDirectionOf l h.form
forms_both r d e es two i c k _ (own n m) = (d, c, i)
forms_both r d e es two i c k _ (assumed n tag u f g) = (e, k, subst (λ (v : Unrounded). IsDirectionOf v.lin e.form) (same_some two.1 u r.unrounded two.3 g) two.4)

pub indexed_both : (rows new : List Row) (ds mid es : List Direction) (r : Row) (d e : Direction) → DoesCount r → AreIndexed rows ds → IsDirectionOf r.lin d.form → ¬ IsLeastRounded r → IsEarlier r (Some e) → new ≡ rows ++ r ∷ [] → mid ≡ insert_key is_same ds d → es ≡ insert_key is_same mid e
    → AreIndexed new es
indexed_both rows new ds mid es r d e counts x i more two h f g =
    subst (λ (w : List Row). AreIndexed w es) (sym h)
    (push rows ds es r x (direction_normal r.lin d.form i)
    (λ k c. subst (λ (ws : List Direction). Contains ws k) (sym g) (insert_more mid e k (subst (λ (ws : List Direction). Contains ws k) (sym f) (insert_more ds d k c))))
    (forms_both r d e es two i
    (subst (λ (ws : List Direction). Contains ws d) (sym g) (insert_more mid e d (subst (λ (ws : List Direction). Contains ws d) (sym f) (insert_here ds d))))
    (subst (λ (ws : List Direction). Contains ws e) (sym g) (insert_here mid e)))
    (λ k c. elim (insert_less mid e k (subst (λ (ws : List Direction). Contains ws k) g c)) [
      | inl a ↦ elim (insert_less ds d k (subst (λ (ws : List Direction). Contains ws k) f a)) [
        | inl b ↦ inl b
        | inr b ↦ inr (r.lin, own counts more, subst (λ (s : Direction). IsDirectionOf r.lin s.form) b i)
      ]
      | inr b ↦ inr ((two.1).lin, assumed counts two.0 two.1 two.2 two.3, subst (λ (s : Direction). IsDirectionOf (two.1).lin s.form) b two.4)
    ]))

-- the form that it had alone, where its own doesn't count
forms_least : (r : Row) (e : Direction) (es : List Direction) → ¬ FitsLimits (r.lin.constant -ℤ pos 1) → IsEarlier r (Some e) → Contains es e → (l : Lin) → HasForm r l → (h : Direction) × Contains es h × IsDirectionOf l h.form
forms_least r e es least two k _ (own n m) = absurd (m (record { tag = two.0; from = two.2; earlier = two.1; was = two.3; least = least }))
forms_least r e es least two k _ (assumed n tag u f g) = (e, k, subst (λ (v : Unrounded). IsDirectionOf v.lin e.form) (same_some two.1 u r.unrounded two.3 g) two.4)

pub indexed_least : (rows new : List Row) (ds es : List Direction) (r : Row) (e : Direction) → DoesCount r → AreIndexed rows ds → IsNormal r.lin → ¬ FitsLimits (r.lin.constant -ℤ pos 1) → IsEarlier r (Some e) → new ≡ rows ++ r ∷ []
    → es ≡ insert_key is_same ds e → AreIndexed new es
indexed_least rows new ds es r e counts x n least two h f =
    subst (λ (w : List Row). AreIndexed w es) (sym h)
    (subst (AreIndexed (rows ++ r ∷ [])) (sym f)
    (push rows ds (insert_key is_same ds e) r x n (λ k c. insert_more ds e k c) (forms_least r e (insert_key is_same ds e) least two (insert_here ds e))
    (λ k c. elim (insert_less ds e k c) [
      | inl a ↦ inl a
      | inr b ↦ inr ((two.1).lin, assumed counts two.0 two.1 two.2 two.3, subst (λ (s : Direction). IsDirectionOf (two.1).lin s.form) b two.4)
    ])))

-- a row that doesn't count has no direction
pub indexed_alone : (rows : List Row) (ds : List Direction) (r : Row) → AreIndexed rows ds → IsNormal r.lin → ¬ DoesCount r → AreIndexed (rows ++ r ∷ []) ds
indexed_alone rows ds r x n none = push rows ds ds r x n (λ e c. c) (λ l f. absurd (none (counts_of r l f))) (λ e c. inl c)

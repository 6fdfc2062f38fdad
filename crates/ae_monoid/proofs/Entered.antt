-- A rule is entered.
use Rattle.std.specs.Prelude.{◌≡◌, ◌≢◌, ℕ, ◌+◌, ◌-◌, ◌<◌, ◌≤◌, ◌⊎◌, List, length, slice_index_or, Option, Some}
use Rattle.std.specs.List.{Contains}
use Rattle.std.specs.List.Sorted.{IsNonDecreasing}
use Rattle.std.proofs.Common.{sym, ap, ◌∙◌, subst, arith, inl, inr}
use Rattle.std.proofs.lemmas.List.{get_or_default}
use native.Mathlib.Decide.{ℕ_discrete}
use Rattle.ae_multiset.specs.Multisets.{count}
use Rattle.ae_pmap.specs.Forest.{Forest, Lasts as MapLasts}
use Rattle.ae_pmap.specs.Pairs.{with_at}
use Rattle.ae_pmap.proofs.PairLemmas.{at_same, at_other}
use Rattle.ae_monoid.specs.declared.chains.Link.{Link}
use Rattle.ae_monoid.specs.declared.rules.Kept.{Kept}
use Rattle.ae_monoid.specs.Rules.{AreRules, IsWellKept, IsLargest}
use Rattle.ae_monoid.specs.Inner.Chains.{AreLinked, AreHeads, AreHeadsBy, IsOnOf, IsOnBy, Grows}
use Rattle.ae_monoid.specs.Inner.Indexes.{AreIndexed}
use Rattle.ae_monoid.proofs.ChainLaws.{grows_same}
use Rattle.ae_monoid.proofs.Grown.{grows_then, heads_grow, on_by_grows, on_by_back}
use Rattle.ae_monoid.proofs.Seeking.{counted_at as counted, place_of, last_largest, largest_is_one}

-- ---- the number is linked to names
pub record IsNamedBefore (names : List ℕ) (i name : ℕ) : Type 0 where
  pub place : ℕ
  pub before : place < i
  pub at : slice_index_or names place 0 ≡ name

pub record IsLinking (old now : Forest ℕ) (before links : List Link) (names : List ℕ) (number i : ℕ) : Type 0 where
  pub linked : AreLinked links
  pub heads : AreHeads now links
  pub grows : Grows before links
  pub named : (j : ℕ) → j < i → IsOnOf now links (slice_index_or names j 0) number
  pub stays : (name other : ℕ) → IsOnOf old before name other → IsOnOf now links name other
  pub only : (name other : ℕ) → IsOnOf now links name other → IsOnOf old before name other ⊎ (IsNamedBefore names i name × (other ≡ number))
  pub lasts : MapLasts old now

pub linking_none : (heads : Forest ℕ) (links : List Link) (names : List ℕ) (number : ℕ) → AreLinked links → AreHeads heads links → IsLinking heads heads links links names number 0
linking_none heads links names number l h = record {
  linked = l;
  heads = h;
  grows = grows_same links;
  named = λ j b. absurd (omega (arith, b));
  stays = λ name other o. o;
  only = λ name other o. inl o;
  lasts = λ root map s. s;
}

module _ (old now : Forest ℕ) (before links : List Link) (names : List ℕ) (number i : ℕ) (l : IsLinking old now before links names number i) where
  named_later : (name other : ℕ) → IsNamedBefore names i name × (other ≡ number) → IsNamedBefore names (i + 1) name × (other ≡ number)
  named_later name other h = (record { place = h.0.place; before = (let b = h.0.before in omega (arith, b)); at = h.0.at }, h.1)

  -- the same name again
  pub linking_skip : 0 < i → slice_index_or names (i - 1) 0 ≡ slice_index_or names i 0 → IsLinking old now before links names number (i + 1)
  linking_skip p e = record {
    linked = l.linked;
    heads = l.heads;
    grows = l.grows;
    named = λ j b. by_place j b (ℕ_discrete j i);
    stays = l.stays;
    only = λ name other o. later name other (l.only name other o);
    lasts = l.lasts;
  }
    where
      by_place : (j : ℕ) → j < i + 1 → Dec (j ≡ i) → IsOnOf now links (slice_index_or names j 0) number
      by_place j b (yes s) = subst (λ (x : ℕ). IsOnOf now links x number) (e ∙ sym (ap (λ (k : ℕ). slice_index_or names k 0) s)) (l.named (i - 1) (omega (arith, p)))
      by_place j b (no d) = l.named j (omega (arith, b, d))

      later : (name other : ℕ) → IsOnOf old before name other ⊎ (IsNamedBefore names i name × (other ≡ number)) → IsOnOf old before name other ⊎ (IsNamedBefore names (i + 1) name × (other ≡ number))
      later name other (inl o) = inl o
      later name other (inr h) = inr (named_later name other h)

  -- another name: the number isn't on its chain yet
  pub linking_above : ((name other : ℕ) → IsOnOf old before name other → other < number) → IsNonDecreasing names → i < length names → (i ≡ 0) ⊎ (slice_index_or names (i - 1) 0 ≢ slice_index_or names i 0)
      → (other : ℕ) → IsOnOf now links (slice_index_or names i 0) other → other < number
  linking_above above rises inside fresh other o = by_part (l.only (slice_index_or names i 0) other o)
    where
      earlier : (j : ℕ) → j < i → slice_index_or names j 0 ≢ slice_index_or names i 0
      earlier j h e = by_fresh fresh
        where
          by_fresh : (i ≡ 0) ⊎ (slice_index_or names (i - 1) 0 ≢ slice_index_or names i 0) → ⊥
          by_fresh (inl z) = absurd (omega (arith, z, h))
          by_fresh (inr m) =
              let a = rises j (i - 1) 0 (omega (arith, h)) (omega (arith, h, inside)) in
              let b = rises (i - 1) i 0 (omega arith) inside in
              m (omega (arith, a, b, e))

      by_part : IsOnOf old before (slice_index_or names i 0) other ⊎ (IsNamedBefore names i (slice_index_or names i 0) × (other ≡ number)) → other < number
      by_part (inl p) = above (slice_index_or names i 0) other p
      by_part (inr h) = absurd (earlier h.0.place h.0.before h.0.at)

  pub linking_more : (after : Forest ℕ) (more : List Link) → AreLinked more → AreHeads after more → Grows links more → IsOnOf after more (slice_index_or names i 0) number
      → ((key other : ℕ) → IsOnOf now links key other → IsOnOf after more key other) → ((key other : ℕ) → IsOnOf after more key other → IsOnOf now links key other ⊎ ((key ≡ slice_index_or names i 0) × (other ≡ number)))
      → MapLasts now after → IsLinking old after before more names number (i + 1)
  linking_more after more linked heads grows named stays only lasts = record {
    linked = linked;
    heads = heads;
    grows = grows_then before links more l.grows grows;
    named = λ j b. by_place j b (ℕ_discrete j i);
    stays = λ name other o. stays name other (l.stays name other o);
    only = λ name other o. by_part name other (only name other o);
    lasts = λ root map s. lasts root map (l.lasts root map s);
  }
    where
      by_place : (j : ℕ) → j < i + 1 → Dec (j ≡ i) → IsOnOf after more (slice_index_or names j 0) number
      by_place j b (yes s) = subst (λ (k : ℕ). IsOnOf after more (slice_index_or names k 0) number) (sym s) named
      by_place j b (no d) = stays (slice_index_or names j 0) number (l.named j (omega (arith, b, d)))

      by_old : (name other : ℕ) → IsOnOf old before name other ⊎ (IsNamedBefore names i name × (other ≡ number)) → IsOnOf old before name other ⊎ (IsNamedBefore names (i + 1) name × (other ≡ number))
      by_old name other (inl o) = inl o
      by_old name other (inr h) = inr (named_later name other h)

      by_part : (name other : ℕ) → IsOnOf now links name other ⊎ ((name ≡ slice_index_or names i 0) × (other ≡ number)) → IsOnOf old before name other ⊎ (IsNamedBefore names (i + 1) name × (other ≡ number))
      by_part name other (inl o) = by_old name other (l.only name other o)
      by_part name other (inr h) = inr (record { place = i; before = omega arith; at = sym h.0 }, h.1)

  pub linked_named : length names ≤ i → (name : ℕ) → Contains names name → IsOnOf now links name number
  linked_named over name t =
      let w = t.1 in
      subst (λ (x : ℕ). IsOnOf now links x number) (get_or_default names t.0 0 name w ∙ t.2) (l.named t.0 (omega (arith, w, over)))

  pub linked_only : i ≤ length names → (name other : ℕ) → IsOnOf now links name other → IsOnOf old before name other ⊎ (Contains names name × (other ≡ number))
  linked_only upto name other o = by_part (l.only name other o)
    where
      by_part : IsOnOf old before name other ⊎ (IsNamedBefore names i name × (other ≡ number)) → IsOnOf old before name other ⊎ (Contains names name × (other ≡ number))
      by_part (inl p) = inl p
      by_part (inr h) =
          let b = h.0.before in
          let w : h.0.place < length names = omega (arith, b, upto) in
          inr ((h.0.place, w, get_or_default names h.0.place name 0 w ∙ h.0.at), h.1)

-- ---- the rule is in both indexes
module _ (kept after : ℕ → Option Kept) (number : ℕ) (rule : Kept) (largest largest' elements elements' : ℕ → Option ℕ) (links mid more : List Link)
    (at : (n : ℕ) → after n ≡ with_at kept number (Some rule) n) (well : IsWellKept rule) (i : AreIndexed kept number largest elements links)
    (longer : length mid ≡ length links + 1) (first : Grows links mid) (mid_linked : AreLinked mid) (mid_heads : AreHeadsBy largest' mid)
    (x : ℕ) (is : x ≡ slice_index_or rule.entry.left (length rule.entry.left - 1) 0)
    (named : IsOnBy largest' mid x number) (stays : (key other : ℕ) → IsOnBy largest links key other → IsOnBy largest' mid key other)
    (only : (key other : ℕ) → IsOnBy largest' mid key other → IsOnBy largest links key other ⊎ ((key ≡ x) × (other ≡ number)))
    (second : Grows mid more) (linked : AreLinked more) (heads : AreHeadsBy elements' more)
    (each : (name : ℕ) → Contains rule.entry.left name → IsOnBy elements' more name number) (each_stays : (name other : ℕ) → IsOnBy elements mid name other → IsOnBy elements' more name other)
    (each_only : (name other : ℕ) → IsOnBy elements' more name other → IsOnBy elements mid name other ⊎ (Contains rule.entry.left name × (other ≡ number))) where
  -- a rule is the new one, or stood before
  either : (n : ℕ) (k : Kept) → after n ≡ Some k → ((n ≡ number) × (rule ≡ k)) ⊎ ((n ≢ number) × (kept n ≡ Some k))
  either n k e = by_same (ℕ_discrete n number)
    where
      by_same : Dec (n ≡ number) → ((n ≡ number) × (rule ≡ k)) ⊎ ((n ≢ number) × (kept n ≡ Some k))
      by_same (yes s) =
          let c : Some rule ≡ Some k = sym (at_same kept number (Some rule)) ∙ sym (at number) ∙ sym (ap after s) ∙ e in
          let same : rule ≡ k = cc in
          inl (s, same)
      by_same (no d) = inr (d, sym (at_other kept number (Some rule) n d) ∙ sym (at n) ∙ e)

  x_largest : IsLargest x rule.entry.left
  x_largest = let t = well.two in subst (λ (y : ℕ). IsLargest y rule.entry.left) (sym is) (last_largest rule.entry.left well.left_rises (omega (arith, t)))

  old_heads : AreHeadsBy elements mid
  old_heads = heads_grow elements links mid first i.elements_heads

  to_old : (n y : ℕ) → IsOnBy elements mid y n → IsOnBy elements links y n
  to_old n y o = on_by_back elements links mid first i.are_linked i.elements_heads y n o

  largest_either : (n y : ℕ) → IsOnBy largest' more y n → IsOnBy largest links y n ⊎ ((y ≡ x) × (n ≡ number))
  largest_either n y o = only y n (on_by_back largest' mid more second mid_linked mid_heads y n o)

  rules_after : AreRules after (number + 1)
  rules_after = record { well = λ n k e. well_by n k (either n k e); below = λ n k e. below_by n k (either n k e) }
    where
      well_by : (n : ℕ) (k : Kept) → ((n ≡ number) × (rule ≡ k)) ⊎ ((n ≢ number) × (kept n ≡ Some k)) → IsWellKept k
      well_by n k (inl h) = subst IsWellKept h.1 well
      well_by n k (inr h) = i.are_rules.well n k h.1

      below_by : (n : ℕ) (k : Kept) → ((n ≡ number) × (rule ≡ k)) ⊎ ((n ≢ number) × (kept n ≡ Some k)) → n < number + 1
      below_by n k (inl h) = let s = h.0 in omega (arith, s)
      below_by n k (inr h) = let b = i.are_rules.below n k h.1 in omega (arith, b)

  by_largest_after : (n y : ℕ) (k : Kept) → IsLargest y k.entry.left → ((n ≡ number) × (rule ≡ k)) ⊎ ((n ≢ number) × (kept n ≡ Some k)) → IsOnBy largest' more y n
  by_largest_after n y k g (inl h) =
      let e : x ≡ y = largest_is_one x y rule.entry.left x_largest (subst (λ (j : Kept). IsLargest y j.entry.left) (sym h.1) g) in
      subst (λ (m : ℕ). IsOnBy largest' more y m) (sym h.0) (subst (λ (z : ℕ). IsOnBy largest' more z number) e (on_by_grows largest' mid more second x number named))
  by_largest_after n y k g (inr h) = on_by_grows largest' mid more second y n (stays y n (i.by_largest n y k h.1 g))

  by_element_after : (n y : ℕ) (k : Kept) → 0 < count y k.entry.left → ((n ≡ number) × (rule ≡ k)) ⊎ ((n ≢ number) × (kept n ≡ Some k)) → IsOnBy elements' more y n
  by_element_after n y k c (inl h) =
      let p = place_of rule.entry.left y (subst (λ (j : Kept). 0 < count y j.entry.left) (sym h.1) c) in
      subst (λ (m : ℕ). IsOnBy elements' more y m) (sym h.0) (each y (p.0, p.1, p.2 y))
  by_element_after n y k c (inr h) = each_stays y n (on_by_grows elements links mid first y n (i.by_element n y k h.1 c))

  only_element_after : (n y : ℕ) (k : Kept) → IsOnBy elements mid y n ⊎ (Contains rule.entry.left y × (n ≡ number)) → ((n ≡ number) × (rule ≡ k)) ⊎ ((n ≢ number) × (kept n ≡ Some k)) → 0 < count y k.entry.left
  only_element_after n y k (inl o) (inl h) = let b = i.elements_given n y (to_old n y o) in let s = h.0 in absurd (omega (arith, b, s))
  only_element_after n y k (inl o) (inr h) = i.only_element n y k h.1 (to_old n y o)
  only_element_after n y k (inr t) (inl h) = subst (λ (j : Kept). 0 < count y j.entry.left) h.1 (contained y t.0)
    where
      contained : (z : ℕ) → Contains rule.entry.left z → 0 < count z rule.entry.left
      contained z t = subst (λ (w : ℕ). 0 < count w rule.entry.left) t.2 (counted rule.entry.left t.0 z t.1)
  only_element_after n y k (inr t) (inr h) = absurd (h.0 t.1)

  only_largest_after : (n y : ℕ) (k : Kept) → IsOnBy largest links y n ⊎ ((y ≡ x) × (n ≡ number)) → ((n ≡ number) × (rule ≡ k)) ⊎ ((n ≢ number) × (kept n ≡ Some k)) → IsLargest y k.entry.left
  only_largest_after n y k (inl o) (inl h) = let b = i.largest_given n y o in let s = h.0 in absurd (omega (arith, b, s))
  only_largest_after n y k (inl o) (inr h) = i.only_largest n y k h.1 o
  only_largest_after n y k (inr t) (inl h) = subst (λ (j : Kept). IsLargest y j.entry.left) h.1 (subst (λ (z : ℕ). IsLargest z rule.entry.left) (sym t.0) x_largest)
  only_largest_after n y k (inr t) (inr h) = absurd (h.0 t.1)

  largest_given_after : (n y : ℕ) → IsOnBy largest links y n ⊎ ((y ≡ x) × (n ≡ number)) → n < number + 1
  largest_given_after n y (inl o) = let b = i.largest_given n y o in omega (arith, b)
  largest_given_after n y (inr t) = let s = t.1 in omega (arith, s)

  elements_given_after : (n y : ℕ) → IsOnBy elements mid y n ⊎ (Contains rule.entry.left y × (n ≡ number)) → n < number + 1
  elements_given_after n y (inl o) = let b = i.elements_given n y (to_old n y o) in omega (arith, b)
  elements_given_after n y (inr t) = let s = t.1 in omega (arith, s)

  pub indexed_with : AreIndexed after (number + 1) largest' elements' more
  indexed_with = record {
    are_rules = rules_after;
    room = (let r = i.room in let m = second.longer in omega (arith, r, longer, m));
    are_linked = linked;
    largest_heads = heads_grow largest' mid more second mid_heads;
    elements_heads = heads;
    by_largest = λ n y k e g. by_largest_after n y k g (either n k e);
    by_element = λ n y k e c. by_element_after n y k c (either n k e);
    only_element = λ n y k e o. only_element_after n y k (each_only y n o) (either n k e);
    only_largest = λ n y k e o. only_largest_after n y k (largest_either n y o) (either n k e);
    largest_given = λ n y o. largest_given_after n y (largest_either n y o);
    elements_given = λ n y o. elements_given_after n y (each_only y n o);
  }

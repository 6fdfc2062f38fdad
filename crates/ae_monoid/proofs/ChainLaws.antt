-- Chains where links are added.
use Rattle.std.specs.Prelude.{◌≡◌, ℕ, ◌+◌, ◌-◌, ◌<◌, ◌≤◌, ◌⊎◌, List, [], ◌∷◌, ◌++◌, length, slice_get, slice_index_or, Some}
use Rattle.std.proofs.Common.{refl, sym, ap, ◌∙◌, subst, arith, inl, inr}
use Rattle.std.proofs.lemmas.Option.{slice_get-get_or}
use Rattle.std.proofs.lemmas.List.{length_push}
use native.Mathlib.Decide.{ℕ_discrete}
use Rattle.ae_base.proofs.ListFacts.{get_append, get_before, get_read, get_seam}
use Rattle.ae_pmap.specs.Forest.{Forest, present}
use Rattle.ae_pmap.specs.Pairs.{found, with_at}
use Rattle.ae_pmap.proofs.PairLemmas.{at_same, at_other}
use Rattle.ae_monoid.specs.declared.chains.Link.{Link}
use Rattle.ae_monoid.specs.Inner.Chains.{AreLinked, AreHeads, IsOn, here, later, IsOnOf, Grows}

-- ---- more links
pub on_grows : (old new : List Link) (at number : ℕ) → Grows old new → IsOn old at number → IsOn new at number
on_grows old new at number g (here p link e s r) = here p link e (g.stays p link s) r
on_grows old new at number g (later p link e s o) = later p link e (g.stays p link s) (on_grows old new link.next number g o)

pub grows_same : (links : List Link) → Grows links links
grows_same links = record { longer = omega arith; stays = λ p link s. s }

pub grows_push : (links : List Link) (link : Link) → Grows links (links ++ link ∷ [])
grows_push links link = record { longer = (let l = length_push links link in omega (arith, l)); stays = λ p other s. get_append links (link ∷ []) p other s }

-- a link is an old one, or the new one
pub pushed_at : (links : List Link) (link : Link) (p : ℕ) (other : Link) → slice_get (links ++ link ∷ []) p ≡ Some other → ((slice_get links p ≡ Some other) × (p < length links)) ⊎ ((p ≡ length links) × (link ≡ other))
pushed_at links link p other s = by_place (ℕ_discrete p (length links))
  where
    by_place : Dec (p ≡ length links) → ((slice_get links p ≡ Some other) × (p < length links)) ⊎ ((p ≡ length links) × (link ≡ other))
    by_place (yes e) =
        let h : slice_get (links ++ link ∷ []) p ≡ Some link = ap (slice_get (links ++ link ∷ [])) e ∙ get_seam links [] link in
        let c : Some link ≡ Some other = sym h ∙ s in
        let same : link ≡ other = cc in
        inr (e, same)
    by_place (no n) =
        let r = (get_read (links ++ link ∷ []) p other other s).1 in
        let k = length_push links link in
        let inside : p < length links = omega (arith, r, k, n) in
        inl (sym (get_before links (link ∷ []) p inside) ∙ s, inside)

-- from an old place the chain is the old one
pub on_before : (links : List Link) (link : Link) (at number : ℕ) → AreLinked links → at ≤ length links → IsOn (links ++ link ∷ []) at number → IsOn links at number
on_before links link at number a w (here p other e s r) = by_part (pushed_at links link p other s)
  where
    by_part : ((slice_get links p ≡ Some other) × (p < length links)) ⊎ ((p ≡ length links) × (link ≡ other)) → IsOn links at number
    by_part (inl h) = here p other e h.0 r
    by_part (inr h) = let q = h.0 in absurd (omega (arith, e, q, w))
on_before links link at number a w (later p other e s o) =
    by_part (pushed_at links link p other s) (λ w. on_before links link other.next number a w o)
  where
    by_part : ((slice_get links p ≡ Some other) × (p < length links)) ⊎ ((p ≡ length links) × (link ≡ other)) → (other.next ≤ length links → IsOn links other.next number) → IsOn links at number
    by_part (inl h) below = let b = a.before p other h.0 in let i = h.1 in later p other e h.0 (below (omega (arith, b, i)))
    by_part (inr h) below = let q = h.0 in absurd (omega (arith, e, q, w))

-- a link that leads to a place that is there, with lower numbers from there on
pub linked_push : (links : List Link) (link : Link) → AreLinked links → link.next ≤ length links → ((number : ℕ) → IsOn links link.next number → number < link.number) → AreLinked (links ++ link ∷ [])
linked_push links link a l low = record { before = λ p other s. before_by p other (pushed_at links link p other s); falls = λ p other s number o. falls_by p other number o (pushed_at links link p other s) }
  where
    before_by : (p : ℕ) (other : Link) → ((slice_get links p ≡ Some other) × (p < length links)) ⊎ ((p ≡ length links) × (link ≡ other)) → other.next ≤ p
    before_by p other (inl h) = a.before p other h.0
    before_by p other (inr h) = let e = h.0 in subst (λ (o : Link). o.next ≤ p) h.1 (omega (arith, l, e))

    falls_by : (p : ℕ) (other : Link) (number : ℕ) → IsOn (links ++ link ∷ []) other.next number → ((slice_get links p ≡ Some other) × (p < length links)) ⊎ ((p ≡ length links) × (link ≡ other)) → number < other.number
    falls_by p other number o (inl h) = a.falls p other h.0 number (on_before links link other.next number a (let b = a.before p other h.0 in let i = h.1 in omega (arith, b, i)) o)
    falls_by p other number o (inr h) =
        subst (λ (k : Link). number < k.number) h.1
        (low number (on_before links link link.next number a l (subst (λ (k : Link). IsOn (links ++ link ∷ []) k.next number) (sym h.1) o)))

-- ---- a walk along a chain
pub none_on : (links : List Link) (number : ℕ) → IsOn links 0 number → ⊥
none_on links number (here p link e s r) = absurd (omega (arith, e))
none_on links number (later p link e s o) = absurd (omega (arith, e))

pub on_next : (links : List Link) (at number : ℕ) (d : Link) → IsOn links at number → ((slice_index_or links (at - 1) d).number ≡ number) ⊎ IsOn links (slice_index_or links (at - 1) d).next number
on_next links at number d (here p link e s r) = inl (by_place (omega (arith, e)))
  where
    by_place : at - 1 ≡ p → (slice_index_or links (at - 1) d).number ≡ number
    by_place f = ap (λ (q : ℕ). (slice_index_or links q d).number) f ∙ ap (λ (o : Link). o.number) (get_read links p link d s).0 ∙ r
on_next links at number d (later p link e s o) = inr (by_place (omega (arith, e)))
  where
    by_place : at - 1 ≡ p → IsOn links (slice_index_or links (at - 1) d).next number
    by_place f = subst (λ (n : ℕ). IsOn links n number) (sym (ap (λ (q : ℕ). (slice_index_or links q d).next) f ∙ ap (λ (o : Link). o.next) (get_read links p link d s).0)) o

-- the first of a chain, and that those after it are on it and lower
pub first_on_chain : (links : List Link) (at : ℕ) (d : Link) → 0 < at → at ≤ length links → IsOn links at (slice_index_or links (at - 1) d).number
first_on_chain links at d p w = here (at - 1) (slice_index_or links (at - 1) d) (omega (arith, p)) (slice_get-get_or links (at - 1) d (omega (arith, p, w))) refl

pub after_on : (links : List Link) (at : ℕ) (d : Link) (number : ℕ) → 0 < at → at ≤ length links → IsOn links (slice_index_or links (at - 1) d).next number → IsOn links at number
after_on links at d number p w o = later (at - 1) (slice_index_or links (at - 1) d) (omega (arith, p)) (slice_get-get_or links (at - 1) d (omega (arith, p, w))) o

pub after_lower : (links : List Link) (at : ℕ) (d : Link) (number : ℕ) → AreLinked links → 0 < at → at ≤ length links → IsOn links (slice_index_or links (at - 1) d).next number → number < (slice_index_or links (at - 1) d).number
after_lower links at d number a p w o = a.falls (at - 1) (slice_index_or links (at - 1) d) (slice_get-get_or links (at - 1) d (omega (arith, p, w))) number o

pub next_before : (links : List Link) (at : ℕ) (d : Link) → AreLinked links → 0 < at → at ≤ length links → (slice_index_or links (at - 1) d).next ≤ at - 1
next_before links at d a p w = a.before (at - 1) (slice_index_or links (at - 1) d) (slice_get-get_or links (at - 1) d (omega (arith, p, w)))

-- ---- a head is set to the new link
module _ (heads after : Forest ℕ) (links : List Link) (name number next head : ℕ) (at : (q : ℕ) → found (present after) q ≡ with_at (found (present heads)) name (Some head) q)
    (a : AreLinked links) (h : AreHeads heads links) (w : next ≤ length links) (is : head ≡ length links + 1)
    (all : (other : ℕ) → IsOnOf heads links name other → IsOn links next other) (only : (other : ℕ) → IsOn links next other → IsOnOf heads links name other) where
  abbrev link : Link
  link = record { number = number; next = next }

  abbrev more : List Link
  more = links ++ link ∷ []

  pub heads_set : AreHeads after (links ++ record { number = number; next = next } ∷ [])
  heads_set = record { within = λ key there e. by_key key there e (ℕ_discrete key name) }
    where
      by_key : (key there : ℕ) → found (present after) key ≡ Some there → Dec (key ≡ name) → there ≤ length more
      by_key key there e (yes s) =
          let c : Some head ≡ Some there = sym (at_same (found (present heads)) name (Some head)) ∙ sym (at name) ∙ ap (found (present after)) (sym s) ∙ e in
          let same : head ≡ there = cc in
          let k = length_push links link in
          omega (arith, same, k, is)
      by_key key there e (no n) =
          let t = h.within key there (sym (at_other (found (present heads)) name (Some head) key n) ∙ sym (at key) ∙ e) in
          let k = length_push links link in
          omega (arith, t, k)

  at_head : (other : ℕ) → IsOn more head other → IsOnOf after more name other
  at_head other o = record { head = head; there = at name ∙ at_same (found (present heads)) name (Some head); on = o }

  pub named_set : IsOnOf after (links ++ record { number = number; next = next } ∷ []) name number
  named_set = at_head number (here (length links) link (omega (arith, is)) (get_seam links [] link) refl)

  pub stays_set : (key other : ℕ) → IsOnOf heads links key other → IsOnOf after (links ++ record { number = number; next = next } ∷ []) key other
  stays_set key other o = by_key (ℕ_discrete key name)
    where
      by_key : Dec (key ≡ name) → IsOnOf after more key other
      by_key (yes s) =
          subst (λ (k : ℕ). IsOnOf after more k other) (sym s)
          (at_head other (later (length links) link (omega (arith, is)) (get_seam links [] link) (on_grows links more next other (grows_push links link) (all other (subst (λ (k : ℕ). IsOnOf heads links k other) s o)))))
      by_key (no n) = record { head = o.head; there = at key ∙ at_other (found (present heads)) name (Some head) key n ∙ o.there; on = on_grows links more o.head other (grows_push links link) o.on }

  from_head : (other there : ℕ) → there ≡ head → IsOn more there other → IsOn links next other ⊎ (other ≡ number)
  from_head other there e (here p k f s r) = by_part (pushed_at links link p k s)
    where
      by_part : ((slice_get links p ≡ Some k) × (p < length links)) ⊎ ((p ≡ length links) × (link ≡ k)) → IsOn links next other ⊎ (other ≡ number)
      by_part (inl q) = let i = q.1 in absurd (omega (arith, e, f, is, i))
      by_part (inr q) = inr (sym r ∙ ap (λ (y : Link). y.number) (sym q.1))
  from_head other there e (later p k f s o) = by_part (pushed_at links link p k s)
    where
      by_part : ((slice_get links p ≡ Some k) × (p < length links)) ⊎ ((p ≡ length links) × (link ≡ k)) → IsOn links next other ⊎ (other ≡ number)
      by_part (inl q) = let i = q.1 in absurd (omega (arith, e, f, is, i))
      by_part (inr q) = inl (on_before links link next other a w (subst (λ (y : Link). IsOn more y.next other) (sym q.1) o))

  pub only_set : (key other : ℕ) → IsOnOf after (links ++ record { number = number; next = next } ∷ []) key other → IsOnOf heads links key other ⊎ ((key ≡ name) × (other ≡ number))
  only_set key other o = by_key (ℕ_discrete key name)
    where
      by_part : key ≡ name → IsOn links next other ⊎ (other ≡ number) → IsOnOf heads links key other ⊎ ((key ≡ name) × (other ≡ number))
      by_part s (inl q) = inl (subst (λ (k : ℕ). IsOnOf heads links k other) (sym s) (only other q))
      by_part s (inr q) = inr (s, q)

      by_key : Dec (key ≡ name) → IsOnOf heads links key other ⊎ ((key ≡ name) × (other ≡ number))
      by_key (yes s) =
          let c : Some o.head ≡ Some head = sym o.there ∙ ap (found (present after)) s ∙ at name ∙ at_same (found (present heads)) name (Some head) in
          let same : o.head ≡ head = cc in
          by_part s (from_head other o.head same o.on)
      by_key (no n) =
          let there : found (present heads) key ≡ Some o.head = sym (at_other (found (present heads)) name (Some head) key n) ∙ sym (at key) ∙ o.there in
          inl (record { head = o.head; there = there; on = on_before links link o.head other a (h.within key o.head there) o.on })

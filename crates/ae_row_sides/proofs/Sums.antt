-- Sums that are built up from the front are those of their summands.
use Rattle.std.specs.Prelude.{ℕ, ◌<◌, ◌≤ℤ◌, length, ℤ, pos, negsuc, List, [], ◌∷◌, ◌++◌, ◌≡◌, cond, true, false, Bool, slice_get, Option, Some, None}
use Rattle.std.proofs.Common.{arith, refl, sym, ap, ◌∙◌, subst}
use Rattle.std.proofs.lemmas.List.{length-map}
use borrow.Author.Differences.{ints}
use Rattle.ae_base.proofs.ListFacts.{value_at}
use Rattle.ae_base.specs.Options.{or_else}
use Rattle.ae_core.specs.declared.terms.Sort.{Int}
use Rattle.ae_core.specs.declared.terms.Term.{Term}
use Rattle.ae_journal.specs.Sides.{is_negative, times_term, summands, grouped, sum_term}
use Rattle.ae_journal.specs.Systems.{numeral_of}
use Rattle.ae_num.specs.declared.forms.Part.{Part}
use Rattle.ae_store.specs.declared.nodes.Node.{Node}
use Rattle.ae_store.specs.Shapes.{shapes, shape_of}
use Rattle.ae_store.specs.Terms.{terms, named}
use Rattle.ae_store.proofs.StoreLaws.{name_term}
use Rattle.ae_store.proofs.TermLaws.{length_terms}
use Rattle.ae_row_sides.specs.Inner.Sums.{after, summed}

pub summed_after : (o : Option Term) (ts us : List Term) → summed o (ts ++ us) ≡ summed (summed o ts) us
summed_after o [] us = refl
summed_after o (t ∷ ts) us = summed_after (Some (after o t)) ts us

grouped_is : (s : Term) (ts : List Term) → summed (Some s) ts ≡ Some (grouped Int s ts)
grouped_is s [] = refl
grouped_is s (t ∷ ts) = grouped_is (after (Some s) t) ts

-- the sum of terms, of which an empty one is 0
pub sum_is : (ts : List Term) → or_else (summed None ts) (numeral_of Int (pos 0)) ≡ sum_term Int ts
sum_is [] = refl
sum_is (t ∷ ts) = ap (λ (o : Option Term). or_else o (numeral_of Int (pos 0))) (grouped_is t ts)

not_negative : (z : ℤ) → pos 0 ≤ℤ z → is_negative z ≡ false
not_negative (pos n) h = refl
not_negative (negsuc n) h = absurd (omega (arith, ints))

module _ (ts : List Term) where
  abbrev one : List Term → Part → Bool → Option Term → List Term
  one us q b o = cond b us (elim o as (λ _. List Term) [ None ↦ us | Some t ↦ times_term Int q.factor t ∷ us ])

  one_first : (q : Part) (us : List Term) (b : Bool) (o : Option Term) → one us q b o ≡ one [] q b o ++ us
  one_first q us true o = refl
  one_first q us false None = refl
  one_first q us false (Some t) = refl

  -- the summands of a part come before those of the parts behind it
  pub part_first : (q : Part) (qs : List Part) → summands Int ts (q ∷ qs) ≡ summands Int ts (q ∷ []) ++ summands Int ts qs
  part_first q qs = one_first q (summands Int ts qs) (is_negative q.factor) (slice_get ts q.key)

  -- a part more
  pub part_more : (o : Option Term) (q : Part) (qs : List Part) → summed o (summands Int ts (q ∷ qs)) ≡ summed (summed o (summands Int ts (q ∷ []))) (summands Int ts qs)
  part_more o q qs = ap (summed o) (part_first q qs) ∙ summed_after o (summands Int ts (q ∷ [])) (summands Int ts qs)

  -- a part whose factor isn't negative
  pub part_added : (q : Part) (o : Option Term) (t : Term) → pos 0 ≤ℤ q.factor → slice_get ts q.key ≡ Some t → summed o (summands Int ts (q ∷ [])) ≡ Some (after o (times_term Int q.factor t))
  part_added q o t h e = λ i. summed o (one [] q (not_negative q.factor h i) (e i))

-- the term of a name
pub name_here : (nodes : List Node) (n : ℕ) → n < length nodes → slice_get (terms (shapes nodes)) n ≡ Some (named (terms (shapes nodes)) n)
name_here nodes n h =
    let long : length (terms (shapes nodes)) ≡ length nodes = length_terms (shapes nodes) ∙ length-map nodes shape_of in
    let w = value_at (terms (shapes nodes)) n (subst (λ (m : ℕ). n < m) (sym long) h) in
    w.1 ∙ ap (λ (t : Term). Some t) (sym (name_term (terms (shapes nodes)) n w.0 w.1))

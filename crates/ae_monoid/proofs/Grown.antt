-- Chains and indexes where links were added behind the others.
use Rattle.std.specs.Prelude.{◌≡◌, ℕ, ◌<◌, ◌≤◌, List, length, slice_get, slice_index_or, Option, Some}
use Rattle.std.proofs.Common.{sym, ◌∙◌, arith}
use Rattle.std.proofs.lemmas.Option.{slice_get-get_or}
use Rattle.ae_monoid.specs.declared.chains.Link.{Link}
use Rattle.ae_monoid.specs.declared.rules.Kept.{Kept}
use Rattle.ae_monoid.specs.Inner.Chains.{AreLinked, AreHeadsBy, IsOn, here, later, IsOnBy, Grows}
use Rattle.ae_monoid.specs.Inner.Indexes.{AreIndexed}
use Rattle.ae_monoid.proofs.ChainLaws.{on_grows}

pub grows_then : (a b c : List Link) → Grows a b → Grows b c → Grows a c
grows_then a b c g h = record { longer = (let l = g.longer in let m = h.longer in omega (arith, l, m)); stays = λ p link s. h.stays p link (g.stays p link s) }

-- an old link is the one that stands there now
old_link : (old new : List Link) (p : ℕ) (link : Link) → Grows old new → p < length old → slice_get new p ≡ Some link → slice_get old p ≡ Some link
old_link old new p link g w s =
    let o : slice_get old p ≡ Some (slice_index_or old p link) = slice_get-get_or old p link w in
    let c : Some (slice_index_or old p link) ≡ Some link = sym (g.stays p (slice_index_or old p link) o) ∙ s in
    o ∙ c

-- a chain from an old place is the old one
pub on_back : (old new : List Link) (at number : ℕ) → Grows old new → AreLinked old → at ≤ length old → IsOn new at number → IsOn old at number
on_back old new at number g a w (here p link e s r) = here p link e (old_link old new p link g (omega (arith, e, w)) s) r
on_back old new at number g a w (later p link e s o) =
    let there = old_link old new p link g (omega (arith, e, w)) s in
    let b = a.before p link there in
    later p link e there (on_back old new link.next number g a (omega (arith, b, e, w)) o)

module _ (heads : ℕ → Option ℕ) (old new : List Link) (g : Grows old new) where
  pub heads_grow : AreHeadsBy heads old → AreHeadsBy heads new
  heads_grow h = record { within = λ key head e. let w = h.within key head e in let l = g.longer in omega (arith, w, l) }

  pub on_by_grows : (key number : ℕ) → IsOnBy heads old key number → IsOnBy heads new key number
  on_by_grows key number o = record { head = o.head; there = o.there; on = on_grows old new o.head number g o.on }

  pub on_by_back : AreLinked old → AreHeadsBy heads old → (key number : ℕ) → IsOnBy heads new key number → IsOnBy heads old key number
  on_by_back a h key number o = record { head = o.head; there = o.there; on = on_back old new o.head number g a (h.within key o.head o.there) o.on }

pub indexed_grows : (kept : ℕ → Option Kept) (next : ℕ) (largest elements : ℕ → Option ℕ) (old new : List Link) → Grows old new → AreLinked new → AreIndexed kept next largest elements old → AreIndexed kept next largest elements new
indexed_grows kept next largest elements old new g l i = record {
  are_rules = i.are_rules;
  room = (let r = i.room in let m = g.longer in omega (arith, r, m));
  are_linked = l;
  largest_heads = heads_grow largest old new g i.largest_heads;
  elements_heads = heads_grow elements old new g i.elements_heads;
  by_largest = λ n x k e y. on_by_grows largest old new g x n (i.by_largest n x k e y);
  by_element = λ n x k e c. on_by_grows elements old new g x n (i.by_element n x k e c);
  only_element = λ n x k e o. i.only_element n x k e (on_by_back elements old new g i.are_linked i.elements_heads x n o);
  only_largest = λ n x k e o. i.only_largest n x k e (on_by_back largest old new g i.are_linked i.largest_heads x n o);
  largest_given = λ n x o. i.largest_given n x (on_by_back largest old new g i.are_linked i.largest_heads x n o);
  elements_given = λ n x o. i.elements_given n x (on_by_back elements old new g i.are_linked i.elements_heads x n o);
}

-- fewer rules
pub indexed_fewer : (kept fewer : ℕ → Option Kept) (next : ℕ) (largest elements : ℕ → Option ℕ) (links : List Link) → ((n : ℕ) (k : Kept) → fewer n ≡ Some k → kept n ≡ Some k)
    → AreIndexed kept next largest elements links → AreIndexed fewer next largest elements links
indexed_fewer kept fewer next largest elements links f i = record {
  are_rules = record { well = λ n k e. i.are_rules.well n k (f n k e); below = λ n k e. i.are_rules.below n k (f n k e) };
  room = i.room;
  are_linked = i.are_linked;
  largest_heads = i.largest_heads;
  elements_heads = i.elements_heads;
  by_largest = λ n x k e y. i.by_largest n x k (f n k e) y;
  by_element = λ n x k e c. i.by_element n x k (f n k e) c;
  only_element = λ n x k e o. i.only_element n x k (f n k e) o;
  only_largest = λ n x k e o. i.only_largest n x k (f n k e) o;
  largest_given = i.largest_given;
  elements_given = i.elements_given;
}

-- Links and heads where links are added.
use Rattle.std.proofs.lemmas.List.{length_push}
use Rattle.std.specs.Prelude.{◌≡◌, ℕ, suc, ◌+◌, ◌-◌, ◌<◌, ◌≤◌, ◌⊎◌, true, ◌||◌, List, [], ◌∷◌, ◌++◌, length, slice_get, slice_index_or, Some, pos}
use Rattle.std.specs.List.{Contains}
use Rattle.std.proofs.lemmas.List.Elements.{Contains-push, Contains-append_left}
use Rattle.std.proofs.lemmas.List.{get_or_default}
use Rattle.std.proofs.Common.{sym, ap, ◌∙◌, subst, arith, inl, inr}
use Rattle.std.proofs.lemmas.Option.{slice_get-get_or}
use native.Mathlib.Decide.{ℕ_discrete}
use Rattle.ae_base.proofs.ListFacts.{get_append, get_before, get_read, last_or_before, get_seam}
use Rattle.ae_pmap.specs.Forest.{Forest, present, Lasts}
use Rattle.ae_pmap.specs.Pairs.{found, with_at}
use Rattle.ae_pmap.proofs.PairLemmas.{at_same, at_other}
use Rattle.ae_num.specs.declared.forms.Part.{Part}
use Rattle.ae_num.specs.Forms.{has_key}
use Rattle.std.proofs.lemmas.Bool.{ne_eqb}
use Rattle.ae_linear.specs.declared.occurrences.Link.{Link}
use Rattle.ae_linear.specs.Inner.Occurrences.{AreLinked, AreHeads, OccursFrom, here, later, OccursIn, AllOccur, Grows}

-- ---- more links
pub occurs_grows : (old new : List Link) (at row : ℕ) → Grows old new → OccursFrom old at row → OccursFrom new at row
occurs_grows old new at row g (here p link e s r) = here p link e (g.stays p link s) r
occurs_grows old new at row g (later p link e s o) = later p link e (g.stays p link s) (occurs_grows old new link.next row g o)

pub grows_same : (links : List Link) → Grows links links
grows_same links = record { longer = omega arith; stays = λ p link s. s }

pub grows_then : (a b c : List Link) → Grows a b → Grows b c → Grows a c
grows_then a b c g h = record { longer = omega (arith, g.longer, h.longer); stays = λ p link s. h.stays p link (g.stays p link s) }

pub grows_push : (links : List Link) (link : Link) → Grows links (links ++ link ∷ [])
grows_push links link = record { longer = (let l = length_push links link in omega (arith, l)); stays = λ p other s. get_append links (link ∷ []) p other s }

-- a link that leads to a place that is there
pub linked_push : (links : List Link) (link : Link) → AreLinked links → link.next ≤ length links → AreLinked (links ++ link ∷ [])
linked_push links link a l = record { before = λ p other s. by_place p other s (ℕ_discrete p (length links)) }
  where
    by_place : (p : ℕ) (other : Link) → slice_get (links ++ link ∷ []) p ≡ Some other → Dec (p ≡ length links) → other.next ≤ p
    by_place p other s (yes e) =
        let h : slice_get (links ++ link ∷ []) p ≡ Some link = ap (slice_get (links ++ link ∷ [])) e ∙ get_seam links [] link in
        let c : Some link ≡ Some other = sym h ∙ s in
        let same : link ≡ other = cc in
        subst (λ (o : Link). o.next ≤ p) same (omega (arith, l, e))
    by_place p other s (no n) = by_part (last_or_before links link p other s)
      where
        inside : p < length links
        inside = let r = (get_read (links ++ link ∷ []) p other other s).1 in let k = length_push links link in omega (arith, r, k, n)

        by_part : (slice_get links p ≡ Some other) ⊎ (link ≡ other) → other.next ≤ p
        by_part (inl h) = a.before p other h
        by_part (inr e) =
            let h : slice_get (links ++ link ∷ []) p ≡ slice_get links p = get_before links (link ∷ []) p inside in
            a.before p other (sym h ∙ s)

-- ---- a walk from a link to those before it
pub none_from : (links : List Link) (row : ℕ) → OccursFrom links 0 row → ⊥
none_from links row (here p link e s r) = absurd (omega (arith, e))
none_from links row (later p link e s o) = absurd (omega (arith, e))

pub from_next : (links : List Link) (at row : ℕ) (d : Link) → at ≤ length links → OccursFrom links at row → ((slice_index_or links (at - 1) d).row ≡ row) ⊎ OccursFrom links (slice_index_or links (at - 1) d).next row
from_next links at row d w (here p link e s r) = inl (by_place (omega (arith, e)))
  where
    by_place : at - 1 ≡ p → (slice_index_or links (at - 1) d).row ≡ row
    by_place f = ap (λ (q : ℕ). (slice_index_or links q d).row) f ∙ ap (λ (o : Link). o.row) (get_read links p link d s).0 ∙ r
from_next links at row d w (later p link e s o) = inr (by_place (omega (arith, e)))
  where
    by_place : at - 1 ≡ p → OccursFrom links (slice_index_or links (at - 1) d).next row
    by_place f = subst (λ (n : ℕ). OccursFrom links n row) (sym (ap (λ (q : ℕ). (slice_index_or links q d).next) f ∙ ap (λ (o : Link). o.next) (get_read links p link d s).0)) o

pub next_before : (links : List Link) (at : ℕ) (d : Link) → AreLinked links → 0 < at → at ≤ length links → (slice_index_or links (at - 1) d).next ≤ at - 1
next_before links at d a p w = a.before (at - 1) (slice_index_or links (at - 1) d) (slice_get-get_or links (at - 1) d (omega (arith, p, w)))

-- ---- heads
pub heads_grow : (heads : Forest ℕ) (old new : List Link) → Grows old new → AreHeads heads old → AreHeads heads new
heads_grow heads old new g h = record { within = λ key head e. let l = h.within key head e in omega (arith, l, g.longer) }

pub in_grows : (heads : Forest ℕ) (old new : List Link) (key row : ℕ) → Grows old new → OccursIn heads old key row → OccursIn heads new key row
in_grows heads old new key row g o = record { head = o.head; there = o.there; from = occurs_grows old new o.head row g o.from }

module _ (heads after : Forest ℕ) (old new : List Link) (name head : ℕ) (at : (q : ℕ) → found (present after) q ≡ with_at (found (present heads)) name (Some head) q) (g : Grows old new) where
  pub heads_set : AreHeads heads old → head ≤ length new → AreHeads after new
  heads_set h l = record { within = λ key there e. by_key key there e (ℕ_discrete key name) }
    where
      by_key : (key there : ℕ) → found (present after) key ≡ Some there → Dec (key ≡ name) → there ≤ length new
      by_key key there e (yes s) =
          let c : Some head ≡ Some there = sym (at_same (found (present heads)) name (Some head)) ∙ sym (at name) ∙ ap (found (present after)) (sym s) ∙ e in
          let same : head ≡ there = cc in
          omega (arith, same, l)
      by_key key there e (no n) =
          let t = h.within key there (sym (at_other (found (present heads)) name (Some head) key n) ∙ sym (at key) ∙ e) in
          omega (arith, t, g.longer)

  pub at_head : (row : ℕ) → OccursFrom new head row → OccursIn after new name row
  at_head row o = record { head = head; there = at name ∙ at_same (found (present heads)) name (Some head); from = o }

  pub stays_set : ((row : ℕ) → OccursIn heads old name row → OccursFrom new head row) → (key row : ℕ) → OccursIn heads old key row → OccursIn after new key row
  stays_set all key row o = by_key (ℕ_discrete key name)
    where
      by_key : Dec (key ≡ name) → OccursIn after new key row
      by_key (yes s) = subst (λ (k : ℕ). OccursIn after new k row) (sym s) (at_head row (all row (subst (λ (k : ℕ). OccursIn heads old k row) s o)))
      by_key (no n) = record {
        head = o.head;
        there = at key ∙ at_other (found (present heads)) name (Some head) key n ∙ o.there;
        from = occurs_grows old new o.head row g o.from;
      }

-- ---- where a key stands
pub key_place : (ps : List Part) (key : ℕ) → has_key ps key ≡ true → (j : ℕ) × (j < length ps) × ((d : Part) → (slice_index_or ps j d).key ≡ key)
key_place [] key e = cc
key_place (p ∷ ps) key e = by_test (ℕ_discrete p.key key) (λ h. key_place ps key h)
  where
    by_test : Dec (p.key ≡ key) → (has_key ps key ≡ true → (j : ℕ) × (j < length ps) × ((d : Part) → (slice_index_or ps j d).key ≡ key)) → (j : ℕ) × (j < length (p ∷ ps)) × ((d : Part) → (slice_index_or (p ∷ ps) j d).key ≡ key)
    by_test (yes s) below = (0, omega arith, λ d. s)
    by_test (no n) below =
        let r = below (sym (ap (λ b. b || has_key ps key) (ne_eqb p.key key n)) ∙ e) in
        (suc r.0, (let l = r.1 in omega (arith, l)), λ d. r.2 d)

-- ---- links to rows of a list, and to the rows of more names
-- links from a place on name the rows that stand before a place of the list, and those that they named before
pub record AreLinking (old links : List Link) (from head : ℕ) (rows : List ℕ) (i : ℕ) : Type 0 where
  pub linked : AreLinked links
  pub within : head ≤ length links
  pub grows : Grows old links
  pub stays : (row : ℕ) → OccursFrom old from row → OccursFrom links head row
  pub named : (j d : ℕ) → j < i → OccursFrom links head (slice_index_or rows j d)

pub linking_none : (old : List Link) (from : ℕ) (rows : List ℕ) → AreLinked old → from ≤ length old → AreLinking old old from from rows 0
linking_none old from rows l w = record { linked = l; within = w; grows = grows_same old; stays = λ row o. o; named = λ j d h. absurd (omega (arith, h)) }

pub linking_more : (old links more : List Link) (from head next : ℕ) (rows : List ℕ) (i d : ℕ) → AreLinking old links from head rows i → i < length rows
    → more ≡ links ++ record { row = slice_index_or rows i d; next = head } ∷ [] → next ≡ length more → AreLinking old more from next rows (i + 1)
linking_more old links more from head next rows i d a l is e = subst (λ (w : List Link). AreLinking old w from next rows (i + 1)) (sym is) (pushed (e ∙ ap length is))
  where
    link : Link
    link = record { row = slice_index_or rows i d; next = head }

    pushed : next ≡ length (links ++ link ∷ []) → AreLinking old (links ++ link ∷ []) from next rows (i + 1)
    pushed n = record {
      linked = linked_push links link a.linked a.within;
      within = omega (arith, n);
      grows = grows_then old links (links ++ link ∷ []) a.grows (grows_push links link);
      stays = λ row o. later (length links) link at (get_seam links [] link) (occurs_grows links (links ++ link ∷ []) head row (grows_push links link) (a.stays row o));
      named = λ j f h. by_place j f h (ℕ_discrete j i);
    }
      where
        at : next ≡ suc (length links)
        at = let k = length_push links link in omega (arith, n, k)

        by_place : (j f : ℕ) → j < i + 1 → Dec (j ≡ i) → OccursFrom (links ++ link ∷ []) next (slice_index_or rows j f)
        by_place j f h (yes s) = here (length links) link at (get_seam links [] link) (get_or_default rows i d f l ∙ ap (λ (k : ℕ). slice_index_or rows k f) (sym s))
        by_place j f h (no m) =
            later (length links) link at (get_seam links [] link)
            (occurs_grows links (links ++ link ∷ []) head (slice_index_or rows j f) (grows_push links link) (a.named j f (omega (arith, h, m))))

-- the rows are named by the links of each name that was taken
pub record AreTaken (start heads : Forest ℕ) (old links : List Link) (parts : List Part) (rows : List ℕ) (i : ℕ) : Type 0 where
  pub linked : AreLinked links
  pub are_heads : AreHeads heads links
  pub grows : Grows old links
  pub stays : (key row : ℕ) → OccursIn start old key row → OccursIn heads links key row
  pub named : (j : ℕ) (d : Part) → j < i → AllOccur heads links (slice_index_or parts j d).key rows
  pub lasts : Lasts start heads

pub taken_none : (start : Forest ℕ) (old : List Link) (parts : List Part) (rows : List ℕ) → AreLinked old → AreHeads start old → AreTaken start start old old parts rows 0
taken_none start old parts rows l h = record {
  linked = l;
  are_heads = h;
  grows = grows_same old;
  stays = λ key row o. o;
  named = λ j d h. absurd (omega (arith, h));
  lasts = λ root map s. s;
}

pub taken_more : (start heads after : Forest ℕ) (old links more : List Link) (parts : List Part) (rows : List ℕ) (i : ℕ) (d : Part) → AreTaken start heads old links parts rows i → i < length parts
    → AreLinked more → AreHeads after more → Grows links more → ((key row : ℕ) → OccursIn heads links key row → OccursIn after more key row)
    → AllOccur after more (slice_index_or parts i d).key rows → Lasts heads after → AreTaken start after old more parts rows (i + 1)
taken_more start heads after old links more parts rows i d t l linked are_heads grows stays named lasts = record {
  linked = linked;
  are_heads = are_heads;
  grows = grows_then old links more t.grows grows;
  stays = λ key row o. stays key row (t.stays key row o);
  named = λ j f h. by_place j f h (ℕ_discrete j i);
  lasts = λ root map s. lasts root map (t.lasts root map s);
}
  where
    by_place : (j : ℕ) (f : Part) → j < i + 1 → Dec (j ≡ i) → AllOccur after more (slice_index_or parts j f).key rows
    by_place j f h (yes s) =
        subst (λ (k : ℕ). AllOccur after more k rows) (ap (λ (p : Part). p.key) (get_or_default parts i d f l ∙ ap (λ (k : ℕ). slice_index_or parts k f) (sym s))) named
    by_place j f h (no m) = λ row c. stays (slice_index_or parts j f).key row (t.named j f (omega (arith, h, m)) row c)

pub taken_all : (start heads : Forest ℕ) (old links : List Link) (parts : List Part) (rows : List ℕ) (i : ℕ) → AreTaken start heads old links parts rows i → length parts ≤ i
    → (key : ℕ) → has_key parts key ≡ true → AllOccur heads links key rows
taken_all start heads old links parts rows i t l key h =
    let place = key_place parts key h in
    let d : Part = record { key = 0; factor = pos 0 } in
    subst (λ (k : ℕ). AllOccur heads links k rows) (place.2 d) (t.named place.0 d (let p = place.1 in omega (arith, p, l)))

-- ---- the rows that a walk has met, and those that it will meet
pub walked : (links : List Link) (rows more : List ℕ) (from at : ℕ) (d : Link) → at ≤ length links
    → ((row : ℕ) → OccursFrom links from row → Contains rows row ⊎ OccursFrom links at row) → more ≡ rows ++ (slice_index_or links (at - 1) d).row ∷ []
    → (row : ℕ) → OccursFrom links from row → Contains more row ⊎ OccursFrom links (slice_index_or links (at - 1) d).next row
walked links rows more from at d w all is row o = by_part (all row o)
  where
    last : ℕ
    last = (slice_index_or links (at - 1) d).row

    by_next : (last ≡ row) ⊎ OccursFrom links (slice_index_or links (at - 1) d).next row → Contains more row ⊎ OccursFrom links (slice_index_or links (at - 1) d).next row
    by_next (inl e) = inl (subst (λ (xs : List ℕ). Contains xs row) (sym is) (subst (λ (r : ℕ). Contains (rows ++ last ∷ []) r) e (Contains-push rows last)))
    by_next (inr n) = inr n

    by_part : Contains rows row ⊎ OccursFrom links at row → Contains more row ⊎ OccursFrom links (slice_index_or links (at - 1) d).next row
    by_part (inl t) = inl (subst (λ (xs : List ℕ). Contains xs row) (sym is) (Contains-append_left rows (last ∷ []) row t))
    by_part (inr n) = by_next (from_next links at row d w n)

-- at the end of the walk all were met
pub all_met : (links : List Link) (rows : List ℕ) (at row : ℕ) → at ≡ 0 → Contains rows row ⊎ OccursFrom links at row → Contains rows row
all_met links rows at row z (inl t) = t
all_met links rows at row z (inr o) = absurd (none_from links row (subst (λ (n : ℕ). OccursFrom links n row) z o))

-- Chains of links, one more link, and a walk along a chain.
use Rattle.std.specs.Prelude.{ℕ, ◌+◌, ◌-◌, ◌<◌, ◌≤◌, ◌≡◌, ◌≢◌, ◌⊎◌, List, [], ◌∷◌, ◌++◌, length, slice_get, get_or, Option, Some, None}
use Rattle.std.specs.List.{Contains, fold}
use Rattle.std.proofs.Common.{refl, sym, ap, ◌∙◌, subst, arith, inl, inr}
use Rattle.std.proofs.Math.ListN.{get_or-append}
use Rattle.std.proofs.Math.Seq.{get_or-append_seam}
use Rattle.std.proofs.lemmas.Bool.{cases_lt}
use Rattle.std.proofs.lemmas.List.{length-append, append-nil, append_assoc}
use Rattle.std.proofs.lemmas.List.Elements.{Contains-append_left, Contains-append_right, Contains-append_cases, Contains-push, Contains-push_cases}
use Rattle.std.proofs.lemmas.List.Sums.{fold_push}
use Rattle.std.proofs.lemmas.Option.{none-some, same_Some, slice_get_within, slice_get-get_or}
use native.Mathlib.Decide.{ℕ_discrete}
use Rattle.ae_base.specs.Options.{or_else}
use Rattle.ae_base.proofs.ListFacts.{get_before, get_seam}
use Rattle.ae_pmap.specs.Forest.{present}
use Rattle.ae_pmap.specs.Pairs.{found, with_at}
use Rattle.ae_pmap.proofs.PairLemmas.{at_same, at_other}
use Rattle.ae_equations.specs.declared.pairs.Link.{Link}
use Rattle.ae_equations.specs.declared.pairs.Pairs.{Pairs}
use Rattle.ae_equations.specs.Paired.{with_link, chains_of, chain_at, head_of, partners}
use Rattle.ae_equations.specs.Inner.Chained.{IsChained, AreChained, AreNoted}

-- ---- one more link
chains_push : (links : List Link) (l : Link) → chains_of (links ++ l ∷ []) ≡ with_link (chains_of links) l
unfolding chains_of
chains_push links l = fold_push with_link ([] ∷ []) links l

length-fold : (t : List (List ℕ)) (links : List Link) → length (fold with_link t links) ≡ length t + length links
length-fold t [] = omega arith
length-fold t (l ∷ ls) = omega (arith, length-fold (with_link t l) ls, length-append t ((l.number ∷ get_or t l.next []) ∷ []))

length-chains : (links : List Link) → length (chains_of links) ≡ length links + 1
unfolding chains_of
length-chains links = omega (arith, length-fold ([] ∷ []) links)

first-fold : (t : List (List ℕ)) (links : List Link) → 0 < length t → get_or (fold with_link t links) 0 [] ≡ get_or t 0 []
first-fold t [] h = refl
first-fold t (l ∷ ls) h =
    let e : List (List ℕ) = (l.number ∷ get_or t l.next []) ∷ [] in
    first-fold (with_link t l) ls (omega (arith, length-append t e)) ∙ get_or-append t e [] 0 h

-- no chain is at place 0
pub chain-zero : (links : List Link) → chain_at links 0 ≡ []
unfolding chain_at chains_of
chain-zero links = first-fold ([] ∷ []) links (omega arith)

pub chain_kept : (links : List Link) (l : Link) (k : ℕ) → k ≤ length links → chain_at (links ++ l ∷ []) k ≡ chain_at links k
unfolding chain_at
chain_kept links l k h = rw chains_push (get_or-append (chains_of links) ((l.number ∷ get_or (chains_of links) l.next []) ∷ []) [] k (omega (arith, h, length-chains links)))

chain_new : (links : List Link) (l : Link) → chain_at (links ++ l ∷ []) (length links + 1) ≡ l.number ∷ chain_at links l.next
unfolding chain_at
chain_new links l = rw (chains_push, ← length-chains links) (get_or-append_seam (chains_of links) (l.number ∷ get_or (chains_of links) l.next []) [] [])

-- links that come behind change no chain
pub chain_front : (links more : List Link) (k : ℕ) → k ≤ length links → chain_at (links ++ more) k ≡ chain_at links k
chain_front links [] k h = ap (λ (ls : List Link). chain_at ls k) (append-nil links)
chain_front links (l ∷ more) k h =
    ap (λ (ls : List Link). chain_at ls k) (sym (append_assoc links (l ∷ []) more)) ∙ chain_front (links ++ l ∷ []) more k (omega (arith, h, length-append links (l ∷ []))) ∙ chain_kept links l k h

pub chained_none : AreChained []
chained_none = record { each = λ k l e. absurd (none-some l e) }

module _ (links : List Link) (l : Link) (a : AreChained links) (w : l.next ≤ length links) where
  kept_link : (k : ℕ) (m : Link) → k < length links → IsChained links k m → IsChained (links ++ l ∷ []) k m
  kept_link k m h c =
      let b = c.before in
      record { before = b; chain = chain_kept links l (k + 1) (omega (arith, h)) ∙ c.chain ∙ ap (λ (ns : List ℕ). m.number ∷ ns) (sym (chain_kept links l m.next (omega (arith, h, b)))) }

  new_link : IsChained (links ++ l ∷ []) (length links) l
  new_link = record { before = w; chain = chain_new links l ∙ ap (λ (ns : List ℕ). l.number ∷ ns) (sym (chain_kept links l l.next w)) }

  pub chained_push : AreChained (links ++ l ∷ [])
  chained_push = record { each = each }
    where
      each : (k : ℕ) (m : Link) → slice_get (links ++ l ∷ []) k ≡ Some m → IsChained (links ++ l ∷ []) k m
      each k m e = elim (cases_lt k (length links)) [
        | inl h ↦ kept_link k m h (a.each k m (sym (get_before links (l ∷ []) k h) ∙ e))
        | inr h ↦
            let i : k ≡ length links = omega (arith, h, slice_get_within (links ++ l ∷ []) k m e, length-append links (l ∷ [])) in
            let z : l ≡ m = same_Some l m (sym (get_seam links [] l) ∙ ap (slice_get (links ++ l ∷ [])) (sym i) ∙ e) in
            subst (λ (p : ℕ). IsChained (links ++ l ∷ []) p m) (sym i) (subst (λ (x : Link). IsChained (links ++ l ∷ []) (length links) x) z new_link)
      ]

-- ---- a walk
pub nothing_in : (n : ℕ) → Contains [] n → ⊥
nothing_in n t = let l = t.1 in absurd (omega (arith, l))

pub in_first : (n : ℕ) (ns : List ℕ) → Contains (n ∷ ns) n
in_first n ns = Contains-append_left (n ∷ []) ns n (Contains-push [] n)

pub in_rest : (m n : ℕ) (ns : List ℕ) → Contains ns n → Contains (m ∷ ns) n
in_rest m n ns t = Contains-append_right (m ∷ []) ns n t

pub in_either : (m n : ℕ) (ns : List ℕ) → Contains (m ∷ ns) n → (m ≡ n) ⊎ Contains ns n
in_either m n ns t = elim (Contains-append_cases (m ∷ []) ns n t) [
  | inl one ↦ elim (Contains-push_cases [] m n one) [ inl none ↦ absurd (nothing_in n none) | inr e ↦ inl e ]
  | inr rest ↦ inr rest
]

pub in_or_not : (ns : List ℕ) (n : ℕ) → Contains ns n ⊎ (Contains ns n → ⊥)
in_or_not [] n = inr (nothing_in n)
in_or_not (m ∷ ns) n = by_dec (ℕ_discrete m n) (in_or_not ns n)
  where
    by_dec : Dec (m ≡ n) → Contains ns n ⊎ (Contains ns n → ⊥) → Contains (m ∷ ns) n ⊎ (Contains (m ∷ ns) n → ⊥)
    by_dec (yes e) among = inl (subst (λ (x : ℕ). Contains (m ∷ ns) x) e (in_first m ns))
    by_dec (no d) among = elim among [
      | inl t ↦ inl (in_rest m n ns t)
      | inr h ↦ inr (λ t. elim (in_either m n ns t) [ inl e ↦ d e | inr r ↦ h r ])
    ]

-- a link that a walk has come to
pub link_before : (links : List Link) (at : ℕ) (d : Link) → AreChained links → 0 < at → at ≤ length links → (get_or links (at - 1) d).next < at
link_before links at d a p w =
    let b = (a.each (at - 1) (get_or links (at - 1) d) (slice_get-get_or links (at - 1) d (omega (arith, p, w)))).before in
    omega (arith, b, p)

link_chain : (links : List Link) (at : ℕ) (d : Link) → AreChained links → 0 < at → at ≤ length links
    → chain_at links at ≡ (get_or links (at - 1) d).number ∷ chain_at links (get_or links (at - 1) d).next
link_chain links at d a p w =
    let c = (a.each (at - 1) (get_or links (at - 1) d) (slice_get-get_or links (at - 1) d (omega (arith, p, w)))).chain in
    let i : at ≡ at - 1 + 1 = omega (arith, p) in
    ap (chain_at links) i ∙ c

-- what the walk seeks is on the chain from the head exactly where it is on the chain from here
pub record IsSeeking (links : List Link) (head number at : ℕ) : Type 0 where
  pub within : at ≤ length links
  pub on : Contains (chain_at links head) number → Contains (chain_at links at) number
  pub back : Contains (chain_at links at) number → Contains (chain_at links head) number

pub seeking_none : (links : List Link) (head number : ℕ) → head ≤ length links → IsSeeking links head number head
seeking_none links head number w = record { within = w; on = λ t. t; back = λ t. t }

module _ (links : List Link) (head number at : ℕ) (d : Link) (a : AreChained links) (p : 0 < at) (s : IsSeeking links head number at) where
  abbrev link : Link
  link = get_or links (at - 1) d

  pub seeking_more : (link.number ≡ number → ⊥) → IsSeeking links head number link.next
  seeking_more other =
      let w = s.within in
      let b = link_before links at d a p s.within in
      record { within = omega (arith, b, w); on = on; back = back }
    where
      on : Contains (chain_at links head) number → Contains (chain_at links link.next) number
      on t = elim (in_either link.number number (chain_at links link.next) (subst (λ (ns : List ℕ). Contains ns number) (link_chain links at d a p s.within) (s.on t))) [ inl e ↦ absurd (other e) | inr r ↦ r ]

      back : Contains (chain_at links link.next) number → Contains (chain_at links head) number
      back t = s.back (subst (λ (ns : List ℕ). Contains ns number) (sym (link_chain links at d a p s.within)) (in_rest link.number number (chain_at links link.next) t))

  pub sought : link.number ≡ number → Contains (chain_at links head) number
  sought e =
      s.back (subst (λ (ns : List ℕ). Contains ns number) (sym (link_chain links at d a p s.within)) (subst (λ (x : ℕ). Contains (link.number ∷ chain_at links link.next) x) e (in_first link.number (chain_at links link.next))))

pub sought_nowhere : (links : List Link) (head number at : ℕ) → IsSeeking links head number at → at ≡ 0 → Contains (chain_at links head) number → ⊥
sought_nowhere links head number at s z t = nothing_in number (subst (λ (ns : List ℕ). Contains ns number) (ap (chain_at links) z ∙ chain-zero links) (s.on t))

-- ---- what was noted
pub noted_none : (c : Pairs) → present c.heads ≡ [] → c.links ≡ [] → AreNoted c
noted_none c e f =
    record {
      chained = subst AreChained (sym f) chained_none;
      within = λ n head h. absurd (none-some head (sym (ap (λ (ps : List (ℕ × ℕ)). found ps n) e) ∙ h));
    }

pub none_noted : (c : Pairs) → present c.heads ≡ [] → (n : ℕ) → partners c n ≡ []
none_noted c e n = ap (λ (ps : List (ℕ × ℕ)). chain_at c.links (or_else (found ps n) 0)) e ∙ chain-zero c.links

head_within : (c : Pairs) → AreNoted c → (n : ℕ) → head_of c n ≤ length c.links
head_within c a n = by_head (found (present c.heads) n) refl
  where
    by_head : (o : Option ℕ) → found (present c.heads) n ≡ o → or_else o 0 ≤ length c.links
    by_head (Some head) e = a.within n head e
    by_head None e = omega arith

pub head_read : (c : Pairs) → AreNoted c → (n head : ℕ) → head ≡ head_of c n → head ≤ length c.links
head_read c a n head e = subst (λ (h : ℕ). h ≤ length c.links) (sym e) (head_within c a n)

-- the same heads lead to the same chains, whatever links come behind
pub partners_kept : (c : Pairs) (links more : List Link) (ps : List (ℕ × ℕ)) → AreNoted c → links ≡ c.links ++ more → ps ≡ present c.heads → (n : ℕ) → chain_at links (or_else (found ps n) 0) ≡ partners c n
partners_kept c links more ps a e f n =
    ap (λ (qs : List (ℕ × ℕ)). chain_at links (or_else (found qs n) 0)) f ∙ ap (λ (ls : List Link). chain_at ls (head_of c n)) e ∙ chain_front c.links more (head_of c n) (head_within c a n)

-- one link more, which no head leads to
pub noted_behind : (c new : Pairs) (l : Link) → AreNoted c → l.next ≤ length c.links → present new.heads ≡ present c.heads → new.links ≡ c.links ++ l ∷ [] → AreNoted new
noted_behind c new l a w e f =
    record {
      chained = subst AreChained (sym f) (chained_push c.links l a.chained w);
      within = λ n head h. (let b = a.within n head (sym (ap (λ (ps : List (ℕ × ℕ)). found ps n) e) ∙ h) in omega (arith, b, length-append c.links (l ∷ []), ap length f));
    }

-- a rule is noted as one's last partner
module _ (c new : Pairs) (first second : ℕ) (l : Link) (a : AreNoted c) (number : l.number ≡ second) (next : l.next ≡ head_of c first) (links : new.links ≡ c.links ++ l ∷ []) (place : ℕ) (is : place ≡ length new.links)
    (at : (q : ℕ) → found (present new.heads) q ≡ with_at (found (present c.heads)) first (Some place) q) where
  longer : length new.links ≡ length c.links + 1
  longer = omega (arith, ap length links, length-append c.links (l ∷ []))

  next_within : l.next ≤ length c.links
  next_within = head_read c a first l.next next

  pub noted_more : AreNoted new
  noted_more = record { chained = subst AreChained (sym links) (chained_push c.links l a.chained next_within); within = within }
    where
      by_dec : (n head : ℕ) → found (present new.heads) n ≡ Some head → Dec (n ≡ first) → head ≤ length new.links
      by_dec n head h (yes e) =
          let z : place ≡ head = same_Some place head (sym (at_same (found (present c.heads)) first (Some place)) ∙ sym (at first) ∙ ap (found (present new.heads)) (sym e) ∙ h) in
          omega (arith, z, is)
      by_dec n head h (no d) = let b = a.within n head (sym (at_other (found (present c.heads)) first (Some place) n d) ∙ sym (at n) ∙ h) in omega (arith, b, longer)

      within : (n head : ℕ) → found (present new.heads) n ≡ Some head → head ≤ length new.links
      within n head h = by_dec n head h (ℕ_discrete n first)

  pub partners_more : partners new first ≡ second ∷ partners c first
  partners_more =
      let i : place ≡ length c.links + 1 = omega (arith, is, longer) in
      ap (λ (o : Option ℕ). chain_at new.links (or_else o 0)) (at first ∙ at_same (found (present c.heads)) first (Some place))
      ∙ ap (λ (ls : List Link). chain_at ls place) links
      ∙ ap (chain_at (c.links ++ l ∷ [])) i
      ∙ chain_new c.links l
      ∙ ap (λ (x : ℕ). x ∷ chain_at c.links l.next) number
      ∙ ap (λ (x : ℕ). second ∷ chain_at c.links x) next

  pub partners_others : (n : ℕ) → n ≢ first → partners new n ≡ partners c n
  partners_others n d =
      ap (λ (o : Option ℕ). chain_at new.links (or_else o 0)) (at n ∙ at_other (found (present c.heads)) first (Some place) n d)
      ∙ ap (λ (ls : List Link). chain_at ls (head_of c n)) links ∙ chain_kept c.links l (head_of c n) (head_within c a n)

-- The steps that a step rests on, found from the greatest down.
use Rattle.std.specs.Prelude.{ℕ, zero, suc, ◌+◌, ◌<◌, ◌≤◌, ◌⊎◌, List, [], ◌∷◌, ◌++◌, ◌≡◌, map, length, reverse, take, get_or, slice_get, Option, Some}
use Rattle.std.specs.Ordering.{match_ordering}
use Rattle.std.specs.BTreeSet.{insert_key}
use Rattle.std.specs.List.{All, AllByRecursion}
use Rattle.std.proofs.Common.{refl, sym, ap, ◌∙◌, subst, arith, inl, inr, Ordering, Less, Equal, Greater, nat_cmp}
use Rattle.std.proofs.lemmas.Bool.{cases_lt}
use Rattle.std.proofs.lemmas.List.{take_more, map-append, reverse-append}
use Rattle.std.proofs.lemmas.Option.{slice_get_within, slice_get-get_or}
use Rattle.ae_base.proofs.AllOf.{all_at}
use Rattle.ae_base.proofs.Orders.{cmp_below, cmp_equal}
use Rattle.ae_store.specs.Parts.{IsIn}
use Rattle.ae_store.proofs.Gets.{get_pushed}
use Rattle.ae_store.proofs.PartLaws.{in_none, in_front, in_last, in_pushed, in_one, is_one, are_none, are_same}
use Rattle.ae_just.specs.declared.steps.Step.{Step}
use Rattle.ae_just.specs.Steps.{premises}
use Rattle.ae_just.specs.Needed.{RestsOn, itself, premise, IsRising, AreNeeded}
use Rattle.ae_just.specs.Inner.Pending.{RestOnEarlier, AreJoined, limit, IsSearched}

-- ---- one of some numbers
in_head : (a x : ℕ) (xs : List ℕ) → a ≡ x → IsIn a (x ∷ xs)
in_head a x xs e = record { place = 0; is = ap Some (sym e) }

in_tail : (a x : ℕ) (xs : List ℕ) → IsIn a xs → IsIn a (x ∷ xs)
in_tail a x xs h = record { place = suc h.place; is = h.is }

cons_at : (a x i : ℕ) (xs : List ℕ) → slice_get (x ∷ xs) i ≡ Some a → (a ≡ x) ⊎ IsIn a xs
cons_at a x zero xs e = let q : x ≡ a = cc e in inl (sym q)
cons_at a x (suc i) xs e = inr (record { place = i; is = e })

in_cons : (a x : ℕ) (xs : List ℕ) → IsIn a (x ∷ xs) → (a ≡ x) ⊎ IsIn a xs
in_cons a x xs h = cons_at a x h.place xs h.is

-- ---- one number more in an ordered set
inserted_at : (o : Ordering) (k a x : ℕ) (xs rest : List ℕ) → (IsIn a rest → IsIn a xs ⊎ (a ≡ k)) → IsIn a (match_ordering o (k ∷ x ∷ xs) (x ∷ xs) (x ∷ rest)) → IsIn a (x ∷ xs) ⊎ (a ≡ k)
inserted_at Less k a x xs rest f h = elim (in_cons a k (x ∷ xs) h) [ inl q ↦ inr q | inr q ↦ inl q ]
inserted_at Equal k a x xs rest f h = inl h
inserted_at Greater k a x xs rest f h = elim (in_cons a x rest h) [
  | inl q ↦ inl (in_head a x xs q)
  | inr q ↦ elim (f q) [ inl r ↦ inl (in_tail a x xs r) | inr r ↦ inr r ]
]

in_inserted : (ks : List ℕ) (k a : ℕ) → IsIn a (insert_key nat_cmp ks k) → IsIn a ks ⊎ (a ≡ k)
in_inserted [] k a h = inr (is_one a k h)
in_inserted (x ∷ xs) k a h = inserted_at (nat_cmp k x) k a x xs (insert_key nat_cmp xs k) (in_inserted xs k a) h

stays_at : (o : Ordering) (k a x : ℕ) (xs rest : List ℕ) → (IsIn a xs → IsIn a rest) → IsIn a (x ∷ xs) → IsIn a (match_ordering o (k ∷ x ∷ xs) (x ∷ xs) (x ∷ rest))
stays_at Less k a x xs rest f h = in_tail a k (x ∷ xs) h
stays_at Equal k a x xs rest f h = h
stays_at Greater k a x xs rest f h = elim (in_cons a x xs h) [ inl q ↦ in_head a x rest q | inr q ↦ in_tail a x rest (f q) ]

stays_inserted : (ks : List ℕ) (k a : ℕ) → IsIn a ks → IsIn a (insert_key nat_cmp ks k)
stays_inserted [] k a h = absurd (in_none a h)
stays_inserted (x ∷ xs) k a h = stays_at (nat_cmp k x) k a x xs (insert_key nat_cmp xs k) (stays_inserted xs k a) h

new_at : (o : Ordering) (k x : ℕ) (xs rest : List ℕ) → o ≡ nat_cmp k x → IsIn k rest → IsIn k (match_ordering o (k ∷ x ∷ xs) (x ∷ xs) (x ∷ rest))
new_at Less k x xs rest e h = in_head k k (x ∷ xs) refl
new_at Equal k x xs rest e h = in_head k x xs (cmp_equal k x e)
new_at Greater k x xs rest e h = in_tail k x rest h

new_inserted : (ks : List ℕ) (k : ℕ) → IsIn k (insert_key nat_cmp ks k)
new_inserted [] k = in_one k
new_inserted (x ∷ xs) k = new_at (nat_cmp k x) k x xs (insert_key nat_cmp xs k) refl (new_inserted xs k)

-- ---- several more
pub joined_none : (ks : List ℕ) → AreJoined ks [] ks
joined_none ks = record { kept = are_same ks; added = are_none ks; only = λ a h. inl h }

pub joined_more : (old more mid new : List ℕ) (k : ℕ) → AreJoined old more mid → new ≡ insert_key nat_cmp mid k → AreJoined old (more ++ k ∷ []) new
joined_more old more mid new k j e = subst (AreJoined old (more ++ k ∷ [])) (sym e) (record {
  kept = record { each = λ a h. stays_inserted mid k a (j.kept.each a h) };
  added = record {
    each = λ a h. elim (in_pushed a k more h) [
      | inl q ↦ stays_inserted mid k a (j.added.each a q)
      | inr q ↦ subst (λ b. IsIn b (insert_key nat_cmp mid k)) (sym q) (new_inserted mid k)
    ];
  };
  only = λ a h. elim (in_inserted mid k a h) [
    | inl q ↦ elim (j.only a q) [ inl r ↦ inl r | inr r ↦ inr (in_front a more (k ∷ []) r) ]
    | inr q ↦ inr (subst (λ b. IsIn b (more ++ k ∷ [])) (sym q) (in_last k more))
  ];
})

-- one turn of the loops that add
pub joined_turn : (old mid new xs : List ℕ) (i d : ℕ) → i < length xs → AreJoined old (take i xs) mid → new ≡ insert_key nat_cmp mid (get_or xs i d) → AreJoined old (take (i + 1) xs) new
joined_turn old mid new xs i d l j e = subst (λ more. AreJoined old more new) (sym (take_more xs i d l)) (joined_more old (take i xs) mid new (get_or xs i d) j e)

pub joined_turn_by : {A : Type 0} (f : A → ℕ) (old mid new : List ℕ) (xs : List A) (i : ℕ) (d : A) → i < length xs → AreJoined old (map f (take i xs)) mid → new ≡ insert_key nat_cmp mid (f (get_or xs i d))
    → AreJoined old (map f (take (i + 1) xs)) new
joined_turn_by f old mid new xs i d l j e =
    subst (λ more. AreJoined old more new) (sym (ap (map f) (take_more xs i d l) ∙ map-append f (take i xs) (get_or xs i d ∷ []))) (joined_more old (map f (take i xs)) mid new (f (get_or xs i d)) j e)

-- ---- the search
limit_pushed : (n : ℕ) (ks : List ℕ) (k : ℕ) → limit n (ks ++ k ∷ []) ≡ k
limit_pushed n [] k = refl
limit_pushed n (x ∷ ks) k = limit_pushed x ks k

pub searched_first : (steps : List Step) (id : ℕ) (P : List ℕ) → P ≡ insert_key nat_cmp [] id → IsSearched steps id P []
searched_first steps id P e = subst (λ p. IsSearched steps id p []) (sym e) (record {
  below = λ k h. (let q : k ≡ id = is_one k id h in omega (arith, q));
  falling = λ i j a b l p q. cc p;
  least = λ a h. absurd (in_none a h);
  limited = omega arith;
  pending_sound = λ k h. subst (RestsOn steps id) (sym (is_one k id h)) itself;
  found_sound = λ k h. absurd (in_none k h);
  closed = λ k p s h e i. absurd (in_none k h);
  begun = inr (in_one id);
})

pub all_less : (ks : List ℕ) (n : ℕ) → All (λ q. nat_cmp q n ≡ Less) ks → (k : ℕ) → IsIn k ks → k < n
all_less ks n a k h =
    let l : h.place < length ks = slice_get_within ks h.place k h.is in
    let e : nat_cmp (get_or ks h.place k) n ≡ Less = a h.place k l in
    let g : get_or ks h.place k ≡ k = read ks h.place k h.is in
    cmp_below k n (sym (ap (λ b. nat_cmp b n) (sym g) ∙ e))
  where
    read : (ks : List ℕ) (i k : ℕ) → slice_get ks i ≡ Some k → get_or ks i k ≡ k
    read [] i k e = cc e
    read (x ∷ ks) zero k e = cc e
    read (x ∷ ks) (suc i) k e = read ks i k e

module _ (steps : List Step) (rest : RestOnEarlier steps) (id : ℕ) (P Q R F : List ℕ) (k : ℕ) (s : Step) (h : IsSearched steps id P F) (popped : P ≡ Q ++ k ∷ []) (less : (q : ℕ) → IsIn q Q → q < k) (at : slice_get steps k ≡ Some s)
    (joined : AreJoined Q (premises s.rule) R) where
  was : (q : ℕ) → IsIn q Q → IsIn q P
  was q i = subst (IsIn q) (sym popped) (in_front q Q (k ∷ []) i)

  here : IsIn k P
  here = subst (IsIn k) (sym popped) (in_last k Q)

  low : k < limit (id + 1) F
  low = h.below k here

  now_limit : limit (id + 1) (F ++ k ∷ []) ≡ k
  now_limit = limit_pushed (id + 1) F k

  earlier : (p : ℕ) → IsIn p (premises s.rule) → p < k
  earlier p i = all_at (λ p. p < k) (premises s.rule) i.place p (rest.each k s at) i.is

  below_now : (q : ℕ) → IsIn q R → q < k
  below_now q i = elim (joined.only q i) [ inl a ↦ less q a | inr a ↦ earlier q a ]

  pub searched_next : IsSearched steps id R (F ++ k ∷ [])
  searched_next = record {
    below = λ q i. subst (λ n. q < n) (sym now_limit) (below_now q i);
    falling = λ i j a b l p q. falls i j a b l p q;
    least = λ a i. (let w = above a i in omega (arith, now_limit, w));
    limited = (let w = h.limited in omega (arith, now_limit, low, w));
    pending_sound = λ q i. elim (joined.only q i) [ inl a ↦ h.pending_sound q (was q a) | inr a ↦ premise k q s (h.pending_sound k here) at a ];
    found_sound = λ q i. elim (in_pushed q k F i) [ inl a ↦ h.found_sound q a | inr a ↦ subst (RestsOn steps id) (sym a) (h.pending_sound k here) ];
    closed = λ q p t i e m. close q p t (in_pushed q k F i) e m;
    begun = elim h.begun [
      | inl a ↦ inl (in_front id F (k ∷ []) a)
      | inr a ↦ elim (in_pushed id k Q (subst (IsIn id) popped a)) [
        | inl b ↦ inr (joined.kept.each id b)
        | inr b ↦ inl (subst (λ n. IsIn n (F ++ k ∷ [])) (sym b) (in_last k F))
      ]
    ];
  }
    where
      above : (a : ℕ) → IsIn a (F ++ k ∷ []) → k < a + 1
      above a i = elim (in_pushed a k F i) [ inl b ↦ (let w = h.least a b in omega (arith, w, low)) | inr b ↦ omega (arith, b) ]

      falls : (i j a b : ℕ) → i < j → slice_get (F ++ k ∷ []) i ≡ Some a → slice_get (F ++ k ∷ []) j ≡ Some b → b < a
      falls i j a b l p q = elim (get_pushed F k j b q) [
        | inl y ↦ elim (get_pushed F k i a p) [
          | inl x ↦ h.falling i j a b l x y
          | inr x ↦ absurd (let w : j < length F = slice_get_within F j b y in let u : i ≡ length F = x.0 in omega (arith, w, u, l))
        ]
        | inr y ↦ elim (get_pushed F k i a p) [
          | inl x ↦ (let v : k ≡ b = y.1 in let w = h.least a (record { place = i; is = x }) in omega (arith, v, w, low))
          | inr x ↦ absurd (let u : i ≡ length F = x.0 in let v : j ≡ length F = y.0 in omega (arith, u, v, l))
        ]
      ]

      close : (q p : ℕ) (t : Step) → (IsIn q F ⊎ (q ≡ k)) → slice_get steps q ≡ Some t → IsIn p (premises t.rule) → IsIn p (F ++ k ∷ []) ⊎ IsIn p R
      close q p t (inl a) e m = elim (h.closed q p t a e m) [
        | inl b ↦ inl (in_front p F (k ∷ []) b)
        | inr b ↦ elim (in_pushed p k Q (subst (IsIn p) popped b)) [ inl d ↦ inr (joined.kept.each p d) | inr d ↦ inl (subst (λ n. IsIn n (F ++ k ∷ [])) (sym d) (in_last k F)) ]
      ]
      close q p t (inr a) e m =
          let same : t ≡ s = (let u : ◌≡◌ {A = Option Step} (Some t) (Some s) = sym e ∙ ap (slice_get steps) a ∙ at in cc u) in
          inr (joined.added.each p (subst (λ (z : Step). IsIn p (premises z.rule)) same m))

  pub falls_next : limit (id + 1) (F ++ k ∷ []) < limit (id + 1) F
  falls_next = subst (λ n. n < limit (id + 1) F) (sym now_limit) low

-- ---- turned round
rising_pushed : (zs : List ℕ) (x : ℕ) → IsRising zs → ((a : ℕ) → IsIn a zs → a < x) → IsRising (zs ++ x ∷ [])
rising_pushed zs x r h = record { each = each }
  where
    each : (i j a b : ℕ) → i < j → slice_get (zs ++ x ∷ []) i ≡ Some a → slice_get (zs ++ x ∷ []) j ≡ Some b → a < b
    each i j a b l p q = elim (get_pushed zs x j b q) [
      | inl y ↦ elim (get_pushed zs x i a p) [
        | inl z ↦ r.each i j a b l z y
        | inr z ↦ absurd (let w : j < length zs = slice_get_within zs j b y in let u : i ≡ length zs = z.0 in omega (arith, w, u, l))
      ]
      | inr y ↦ elim (get_pushed zs x i a p) [
        | inl z ↦ (let v : x ≡ b = y.1 in let w = h a (record { place = i; is = z }) in omega (arith, v, w))
        | inr z ↦ absurd (let u : i ≡ length zs = z.0 in let v : j ≡ length zs = y.0 in omega (arith, u, v, l))
      ]
    ]

in_reverse : (xs : List ℕ) (a : ℕ) → IsIn a (reverse xs) → IsIn a xs
in_reverse [] a h = h
in_reverse (x ∷ xs) a h = elim (in_pushed a x (reverse xs) (subst (IsIn a) (reverse-append (x ∷ []) xs) h)) [ inl q ↦ in_tail a x xs (in_reverse xs a q) | inr q ↦ in_head a x xs q ]

of_reverse : (xs : List ℕ) (a : ℕ) → IsIn a xs → IsIn a (reverse xs)
of_reverse [] a h = h
of_reverse (x ∷ xs) a h = subst (IsIn a) (sym (reverse-append (x ∷ []) xs)) (elim (in_cons a x xs h) [
  | inl q ↦ subst (λ b. IsIn b (reverse xs ++ x ∷ [])) (sym q) (in_last x (reverse xs))
  | inr q ↦ in_front a (reverse xs) (x ∷ []) (of_reverse xs a q)
])

rising_reverse : (xs : List ℕ) → ((i j a b : ℕ) → i < j → slice_get xs i ≡ Some a → slice_get xs j ≡ Some b → b < a) → IsRising (reverse xs)
rising_reverse [] f = record { each = λ i j a b l p q. cc p }
rising_reverse (x ∷ xs) f =
    subst IsRising (sym (reverse-append (x ∷ []) xs)) (rising_pushed (reverse xs) x (rising_reverse xs (λ i j a b l p q. f (suc i) (suc j) a b (omega (arith, l)) p q))
    (λ a h. (let g = in_reverse xs a h in f 0 (suc g.place) x a (omega arith) refl g.is)))

pub searched_all : (steps : List Step) (id : ℕ) (P F ks : List ℕ) → IsSearched steps id P F → P ≡ [] → ks ≡ reverse F → AreNeeded steps id ks
searched_all steps id P F ks h e r = subst (AreNeeded steps id) (sym r) (record {
  rising = rising_reverse F h.falling;
  sound = λ k i. h.found_sound k (in_reverse F k i);
  all = λ k i. of_reverse F k (reached k i);
})
  where
    found_of : (k : ℕ) → IsIn k F ⊎ IsIn k P → IsIn k F
    found_of k (inl a) = a
    found_of k (inr a) = absurd (in_none k (subst (IsIn k) e a))

    reached : (k : ℕ) → RestsOn steps id k → IsIn k F
    reached k itself = found_of id h.begun
    reached k (premise j p s q at m) = found_of k (h.closed j k s (reached j q) at m)

-- ---- needed steps are steps up to id
pub needed_low : (steps : List Step) → RestOnEarlier steps → (id k : ℕ) → RestsOn steps id k → k ≤ id
needed_low steps rest id k itself = omega arith
needed_low steps rest id k (premise j p s q at m) =
    let l : k < j = all_at (λ p. p < j) (premises s.rule) m.place k (rest.each j s at) m.is in
    let b = needed_low steps rest id j q in
    omega (arith, l, b)

-- id is the last one
pub last_needed : (steps : List Step) (rest : RestOnEarlier steps) (id : ℕ) (ks : List ℕ) → AreNeeded steps id ks → (n : ℕ) (k : ℕ) → length ks ≡ suc n → slice_get ks n ≡ Some k → k ≡ id
last_needed steps rest id ks a n k l e =
    let i = a.all id itself in
    let w : i.place < length ks = slice_get_within ks i.place id i.is in
    elim (cases_lt i.place n) [
      | inl b ↦ absurd (let u : id < k = a.rising.each i.place n id k b i.is e in let v = needed_low steps rest id k (a.sound k (record { place = n; is = e })) in omega (arith, u, v))
      | inr b ↦ (let q : i.place ≡ n = omega (arith, w, l, b) in let u : ◌≡◌ {A = Option ℕ} (Some k) (Some id) = sym e ∙ ap (slice_get ks) (sym q) ∙ i.is in cc u)
    ]

pub needed_within : (steps : List Step) (rest : RestOnEarlier steps) (id : ℕ) (ks : List ℕ) → id < length steps → AreNeeded steps id ks → AllByRecursion (λ k. k < length steps) ks
needed_within steps rest id ks l a = from ks (λ k h. (let b = needed_low steps rest id k (a.sound k h) in omega (arith, b, l)))
  where
    from : (ks : List ℕ) → ((k : ℕ) → IsIn k ks → k < length steps) → AllByRecursion (λ k. k < length steps) ks
    from [] f = tt
    from (k ∷ ks) f = (f k (in_head k k ks refl), from ks (λ j h. f j (in_tail j k ks h)))

-- what is taken next is a step up to id
pub popped_low : (steps : List Step) (id : ℕ) (P Q F : List ℕ) (k : ℕ) → IsSearched steps id P F → P ≡ Q ++ k ∷ [] → k < id + 1
popped_low steps id P Q F k h e =
    let l : k < limit (id + 1) F = h.below k (subst (IsIn k) (sym e) (in_last k Q)) in
    let m = h.limited in
    omega (arith, l, m)

pub none_left : (P : List ℕ) → ¬ (0 < length P) → P ≡ []
none_left [] n = refl
none_left (k ∷ P) n = absurd (n (omega arith))

pub within_at : (ks : List ℕ) (n i d : ℕ) → AllByRecursion (λ k. k < n) ks → i < length ks → get_or ks i d < n
within_at ks n i d a l = all_at (λ k. k < n) ks i (get_or ks i d) a (slice_get-get_or ks i d l)

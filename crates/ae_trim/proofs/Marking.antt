-- The marks of used lines.
use Rattle.std.specs.Prelude.{ℕ, zero, suc, ◌+◌, ◌-◌, ◌<◌, ◌⊎◌, Bool, true, false, List, [], ◌∷◌, ◌++◌, ◌≡◌, length, take, set, get_or, replicate, Some}
use Rattle.std.specs.List.{Contains}
use Rattle.std.specs.List.Sorted.{IsStrictlyIncreasing}
use Rattle.std.proofs.Common.{refl, sym, ap, ◌∙◌, subst, arith, inl, inr, get_or-set_same, get_or-set_other, length-set}
use Rattle.std.proofs.lemmas.Bool.{cases_eq, cases_lt}
use Rattle.std.proofs.lemmas.List.{take_more, get_or_default, get_or_append_left, get_or_at, length_push, length-replicate}
use Rattle.std.proofs.lemmas.List.Elements.{Contains-push_cases, Contains-append_left, Contains-push}
use Rattle.std.proofs.lemmas.Option.{slice_get-get_or}
use Rattle.ae_base.specs.Options.{or_else, ◌>>=◌}
use Rattle.ae_base.proofs.Tests.{false_true}
use Rattle.ae_core.specs.declared.proofs.ClauseLine.{ClauseLine}
use Rattle.ae_trim.specs.Used.{hints_of, hints_at, HintEarlier, IsUsed, last, hinted, AreUsed}
use Rattle.ae_trim.specs.Inner.Marks.{marked, AreMarked, IsPassedOn, IsSearched, MarkUsed}

-- ---- one mark more
mark_same : (ms : List Bool) (n : ℕ) → n < length ms → marked (set ms n true) n ≡ true
mark_same ms n b = get_or-set_same ms n true false b

mark_other : (ms : List Bool) (n k : ℕ) → (k ≡ n → ⊥) → marked (set ms n true) k ≡ marked ms k
mark_other ms n k d = get_or-set_other ms n k true false d

mark_kept : (ms : List Bool) (n k : ℕ) → n < length ms → marked ms k ≡ true → marked (set ms n true) k ≡ true
mark_kept ms n k b e = elim (cases_eq k n) [
  | inl q ↦ subst (λ j. marked (set ms n true) j ≡ true) (sym q) (mark_same ms n b)
  | inr q ↦ mark_other ms n k q ∙ e
]

mark_only : (ms : List Bool) (n k : ℕ) → marked (set ms n true) k ≡ true → (marked ms k ≡ true) ⊎ (n ≡ k)
mark_only ms n k e = elim (cases_eq k n) [
  | inl q ↦ inr (sym q)
  | inr q ↦ inl (sym (mark_other ms n k q) ∙ e)
]

-- ---- several marks more
pub marked_none : (ms : List Bool) → AreMarked ms [] ms
marked_none ms = record {
  size = refl;
  kept = λ k e. e;
  added = λ k c. absurd (let b : c.0 < 0 = c.1 in omega (arith, b));
  only = λ k e. inl e;
}

pub marked_turn : (old mid : List Bool) (xs : List ℕ) (i d : ℕ) → i < length xs → get_or xs i d < length mid → AreMarked old (take i xs) mid → AreMarked old (take (i + 1) xs) (set mid (get_or xs i d) true)
marked_turn old mid xs i d l b m = subst (λ more. AreMarked old more (set mid n true)) (sym (take_more xs i d l)) (record {
  size = length-set mid n true ∙ m.size;
  kept = λ k e. mark_kept mid n k b (m.kept k e);
  added = λ k c. elim (Contains-push_cases (take i xs) n k c) [
    | inl w ↦ mark_kept mid n k b (m.added k w)
    | inr q ↦ subst (λ j. marked (set mid n true) j ≡ true) q (mark_same mid n b)
  ];
  only = λ k e. elim (mark_only mid n k e) [
    | inl w ↦ elim (m.only k w) [ inl v ↦ inl v | inr v ↦ inr (Contains-append_left (take i xs) (n ∷ []) k v) ]
    | inr q ↦ inr (subst (Contains (take i xs ++ n ∷ [])) q (Contains-push (take i xs) n))
  ];
})
  where
    n : ℕ
    n = get_or xs i d

-- ---- hints passed on
pub hints_read : (ls : List ClauseLine) (k : ℕ) (d : ClauseLine) → k < length ls → hints_at ls k ≡ hints_of (get_or ls k d)
hints_read ls k d b = ap (λ o. or_else (o >>= λ l. Some (hints_of l)) []) (slice_get-get_or ls k d b)

pub hints_here : (ls : List ClauseLine) (k : ℕ) (l : ClauseLine) (hs : List ℕ) → k < length ls → l ≡ get_or ls k l → hs ≡ hints_of l → hints_at ls k ≡ hs
hints_here ls k l hs b is e = hints_read ls k l b ∙ sym (e ∙ ap hints_of is)

pub passed_marked : (ls : List ClauseLine) (place : ℕ) (old new : List Bool) → AreMarked old (hints_at ls place) new → marked old place ≡ true → IsPassedOn ls place old new
passed_marked ls place old new m e = record {
  size = m.size;
  kept = m.kept;
  added = λ k y c. m.added k c;
  only = λ k y. elim (m.only k y) [ inl v ↦ inl v | inr v ↦ inr (e, v) ];
}

pub passed_unmarked : (ls : List ClauseLine) (place : ℕ) (ms : List Bool) → marked ms place ≡ false → IsPassedOn ls place ms ms
passed_unmarked ls place ms e = record {
  size = refl;
  kept = λ k y. y;
  added = λ k y c. false_true (sym e ∙ y);
  only = λ k y. inl y;
}

-- ---- the search
none_marked : (n k : ℕ) → marked (replicate n false) k ≡ false
none_marked zero k = refl
none_marked (suc n) zero = refl
none_marked (suc n) (suc k) = none_marked n k

pub searched_first : (ls : List ClauseLine) (ms : List Bool) → 0 < length ls → ms ≡ replicate (length ls) false → IsSearched ls 0 (set ms (length ls - 1) true)
searched_first ls ms some is = record {
  size = length-set ms n true ∙ size;
  last = λ k e. subst (λ j. marked (set ms n true) j ≡ true) (omega (arith, e)) (mark_same ms n (omega (arith, size, some)));
  sound = λ k e. elim (mark_only ms n k e) [
    | inl w ↦ false_true (sym (ap (λ z. marked z k) is ∙ none_marked (length ls) k) ∙ w)
    | inr q ↦ last k (omega (arith, q, some))
  ];
  closed = λ j k b e c. elim (mark_only ms n j e) [
    | inl w ↦ false_true (sym (ap (λ z. marked z j) is ∙ none_marked (length ls) j) ∙ w)
    | inr q ↦ absurd (omega (arith, q, b, some))
  ];
}
  where
    n : ℕ
    n = length ls - 1

    size : length ms ≡ length ls
    size = ap length is ∙ length-replicate (length ls) false

pub searched_next : (ls : List ClauseLine) → HintEarlier ls → (done place : ℕ) → place + done + 1 ≡ length ls → (old new : List Bool) → IsSearched ls done old → IsPassedOn ls place old new → IsSearched ls (done + 1) new
searched_next ls rest done place at old new s p = record {
  size = p.size ∙ s.size;
  last = λ k e. p.kept k (s.last k e);
  sound = λ k e. elim (p.only k e) [
    | inl w ↦ s.sound k w
    | inr w ↦ hinted place k (s.sound place w.0) w.1
  ];
  closed = λ j k b e c. elim (p.only j e) [
    | inl w ↦ elim (cases_lt place j) [
      | inl l ↦ p.kept k (s.closed j k (omega (arith, l, at)) w c)
      | inr l ↦ (let q : j ≡ place = omega (arith, l, b, at) in
          p.added k (subst (λ z. marked old z ≡ true) q w) (subst (λ z. Contains (hints_at ls z) k) q c))
    ]
    | inr w ↦ absurd (let l = rest.each place j w.1 in omega (arith, l, b, at))
  ];
}

pub searched_all : (ls : List ClauseLine) (ms : List Bool) → IsSearched ls (length ls) ms → MarkUsed ls ms
searched_all ls ms s = record { size = s.size; sound = s.sound; all = all }
  where
    all : (k : ℕ) → IsUsed ls k → marked ms k ≡ true
    all k (last n e) = s.last n e
    all k (hinted j n u c) = s.closed j n (omega arith) (all j u) c

-- ---- the places of marks
pub record ArePlaces (ms : List Bool) (i : ℕ) (ks : List ℕ) : Type 0 where
  pub rising : IsStrictlyIncreasing ks
  pub low : (k : ℕ) → Contains ks k → k < i
  pub are_marked : (k : ℕ) → Contains ks k → marked ms k ≡ true
  pub all : (k : ℕ) → k < i → marked ms k ≡ true → Contains ks k

pub places_none : (ms : List Bool) → ArePlaces ms 0 []
places_none ms = record {
  rising = λ k b. absurd (let c : k + 1 < 0 = b in omega (arith, c));
  low = λ k c. absurd (let b : c.0 < 0 = c.1 in omega (arith, b));
  are_marked = λ k c. absurd (let b : c.0 < 0 = c.1 in omega (arith, b));
  all = λ k b e. absurd (omega (arith, b));
}

rising_push : (ks : List ℕ) (n : ℕ) → IsStrictlyIncreasing ks → ((k : ℕ) → Contains ks k → k < n) → IsStrictlyIncreasing (ks ++ n ∷ [])
rising_push ks n r low k b = elim (cases_lt (k + 1) (length ks)) [
  | inl l ↦ (
      let p = get_or_append_left ks (n ∷ []) 0 k (omega (arith, l)) in
      let q = get_or_append_left ks (n ∷ []) 0 (k + 1) l in
      let w = r k l in
      omega (arith, p, q, w))
  | inr l ↦ (
      let long = length_push ks n in
      let p = get_or_append_left ks (n ∷ []) 0 k (omega (arith, b, l, long)) in
      let q = get_or_at ks n [] 0 (k + 1) (omega (arith, b, l, long)) in
      let w = low (get_or ks k 0) (k, omega (arith, b, l, long), get_or_default ks k (get_or ks k 0) 0 (omega (arith, b, l, long))) in
      omega (arith, p, q, w))
]

pub places_marked : (ms : List Bool) (i : ℕ) (ks : List ℕ) → marked ms i ≡ true → ArePlaces ms i ks → ArePlaces ms (i + 1) (ks ++ i ∷ [])
places_marked ms i ks e a = record {
  rising = rising_push ks i a.rising a.low;
  low = λ k c. elim (Contains-push_cases ks i k c) [ inl w ↦ (let l = a.low k w in omega (arith, l)) | inr q ↦ omega (arith, q) ];
  are_marked = λ k c. elim (Contains-push_cases ks i k c) [ inl w ↦ a.are_marked k w | inr q ↦ subst (λ j. marked ms j ≡ true) q e ];
  all = λ k b y. elim (cases_lt k i) [
    | inl l ↦ Contains-append_left ks (i ∷ []) k (a.all k l y)
    | inr l ↦ subst (Contains (ks ++ i ∷ [])) (omega (arith, l, b)) (Contains-push ks i)
  ];
}

pub places_unmarked : (ms : List Bool) (i : ℕ) (ks : List ℕ) → marked ms i ≡ false → ArePlaces ms i ks → ArePlaces ms (i + 1) ks
places_unmarked ms i ks e a = record {
  rising = a.rising;
  low = λ k c. (let l = a.low k c in omega (arith, l));
  are_marked = a.are_marked;
  all = λ k b y. elim (cases_lt k i) [
    | inl l ↦ a.all k l y
    | inr l ↦ (let q : i ≡ k = omega (arith, l, b) in false_true (sym e ∙ subst (λ j. marked ms j ≡ true) (sym q) y))
  ];
}

pub places_used : (ls : List ClauseLine) (ms : List Bool) (ks : List ℕ) → MarkUsed ls ms → ArePlaces ms (length ms) ks → AreUsed ls ks
places_used ls ms ks m a = record {
  rising = a.rising;
  used = λ k c. m.sound k (a.are_marked k c);
  all = λ k u. (let y = m.all k u in a.all k (within ms k y) y);
}
  where
    within : (ms : List Bool) (k : ℕ) → marked ms k ≡ true → k < length ms
    within [] k e = false_true e
    within (x ∷ ms) zero e = omega arith
    within (x ∷ ms) (suc k) e = (let l = within ms k e in omega (arith, l))

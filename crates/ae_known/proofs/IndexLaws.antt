-- What is answered after a name was entered.
use Rattle.std.specs.Prelude.{ℕ, zero, suc, ◌+◌, ◌-◌, ◌≡◌, ◌<◌, Bool, true, false, cond, ◌&&◌, nat_lt, List, [], ◌∷◌, ◌++◌, length, take, slice_get, slice_set, Option, Some, None}
use Rattle.std.specs.List.{AllByRecursion, filter, list_any}
use Rattle.std.proofs.Common.{refl, sym, ap, ◌∙◌, subst, arith, inl, inr}
use Rattle.std.proofs.lemmas.Bool.{cases_Bool, or_parts, lt-ltb, ltb-true, ltb-false}
use Rattle.std.proofs.lemmas.List.{append-nil}
use Rattle.std.proofs.lemmas.List.Elements.{filter-append}
use Rattle.std.proofs.lemmas.Option.{same_Some}
use Rattle.ae_base.specs.Decided.{decided}
use Rattle.ae_base.specs.Options.{or_else, ◌>>=◌}
use Rattle.ae_base.proofs.Decided.{decided_of, decided_yes}
use Rattle.ae_base.proofs.AllOf.{all_at, all_push, all_weaker}
use Rattle.ae_core.specs.Decided.{Sorts_discrete}
use Rattle.ae_core.specs.Sorts.{same_sorts}
use Rattle.ae_core.specs.declared.terms.Sort.{Sort}
use Rattle.ae_journal.specs.Triggers.{numbers_below}
use Rattle.ae_store.specs.declared.nodes.Node.{Node}
use Rattle.ae_store.specs.declared.nodes.NodeHead.{NodeHead}
use Rattle.ae_store.specs.Keys.{is_same, Shape_discrete}
use Rattle.ae_known.specs.declared.known.Known.{Known}
use Rattle.ae_known.specs.declared.rows.Group.{Group}
use Rattle.ae_known.specs.Index.{NodeHead_discrete, has_head, passes_at, is_listed, is_behind, below, above, with_name, entered_groups, group_names, key, with_head, with_argument}
use Rattle.ae_known.specs.Inner.{front, IsPlace}

pub front_push : (ns : List ℕ) (n : ℕ) → front (ns ++ n ∷ []) ≡ ns
front_push [] n = refl
front_push (m ∷ []) n = refl
front_push (m ∷ k ∷ ns) n = ap (λ l. m ∷ l) (front_push (k ∷ ns) n)

sorts_of : (xs ys : List Sort) → same_sorts xs ys ≡ true → xs ≡ ys
sorts_of xs ys e = decided_yes (Sorts_discrete xs ys) e

-- ---- groups
module _ (ss : List Sort) (n : ℕ) where
  abbrev test : Group → Bool
  test g = same_sorts g.sorts ss

  -- with another in the place of the group of these sorts
  pub placed : (gs : List Group) (i : ℕ) (g new : Group) → IsPlace ss gs i → slice_get gs i ≡ Some g → new.sorts ≡ g.sorts → new.names ≡ with_name n g.names → slice_set gs i new ≡ entered_groups ss n gs
  placed [] i g new p at s e = cc at
  placed (x ∷ gs) zero g new p at s e =
      let own : x ≡ g = same_Some x g at in
      let is : new ≡ record { sorts = x.sorts; names = with_name n x.names } = λ i. record { sorts = (s ∙ ap (λ (y : Group). y.sorts) (sym own)) i; names = (e ∙ ap (λ (y : Group). with_name n y.names) (sym own)) i } in
      ap (λ y. y ∷ gs) is ∙ sym (ap (λ b. cond b (record { sorts = x.sorts; names = with_name n x.names } ∷ gs) (x ∷ entered_groups ss n gs)) (p.2 x refl))
  placed (x ∷ gs) (suc i) g new p at s e =
      let q = or_parts (test x) (list_any test (take i gs)) p.0 in
      ap (λ l. x ∷ l) (placed gs i g new (q.1, omega (arith, p.1), p.2) at s e) ∙ sym (ap (λ b. cond b (record { sorts = x.sorts; names = with_name n x.names } ∷ gs) (x ∷ entered_groups ss n gs)) q.0)

  pub kept_place : (gs : List Group) (i : ℕ) (g new : Group) → slice_get gs i ≡ Some g → new.sorts ≡ g.sorts → new.names ≡ g.names → slice_set gs i new ≡ gs
  kept_place [] i g new at s e = cc at
  kept_place (x ∷ gs) zero g new at s e =
      let is : new ≡ g = λ i. record { sorts = s i; names = e i } in
      ap (λ y. y ∷ gs) (is ∙ sym (same_Some x g at))
  kept_place (x ∷ gs) (suc i) g new at s e = ap (λ l. x ∷ l) (kept_place gs i g new at s e)

  pub behind_all : (gs : List Group) → list_any test gs ≡ false → gs ++ record { sorts = ss; names = n ∷ [] } ∷ [] ≡ entered_groups ss n gs
  behind_all [] e = refl
  behind_all (x ∷ gs) e =
      let q = or_parts (test x) (list_any test gs) e in
      ap (λ l. x ∷ l) (behind_all gs q.1) ∙ sym (ap (λ b. cond b (record { sorts = x.sorts; names = with_name n x.names } ∷ gs) (x ∷ entered_groups ss n gs)) q.0)

  -- the names of the group of any sorts
  module _ (ts : List Sort) where
    abbrev after : Bool → List ℕ → List ℕ
    after b ns = cond b (with_name n ns) ns

    empty_case : (b : Bool) → cond b (n ∷ []) [] ≡ after b []
    empty_case true = refl
    empty_case false = refl

    both : (b d : Bool) (xs ys : List ℕ) → d ≡ b → cond b (with_name n xs) ys ≡ after d (cond b xs ys)
    both true d xs ys e = sym (ap (λ z. after z xs) e)
    both false d xs ys e = sym (ap (λ z. after z ys) e)

    differ : (g : Group) → test g ≡ false → same_sorts g.sorts ts ≡ true → same_sorts ss ts ≡ false
    differ g m t = elim (cases_Bool (same_sorts ss ts)) as (λ _. same_sorts ss ts ≡ false) [
      | inl z ↦ let w : ◌≡◌ {A = Bool} true false = sym (decided_of (Sorts_discrete g.sorts ss) (sorts_of g.sorts ts t ∙ sym (sorts_of ss ts z))) ∙ m in cc w
      | inr z ↦ z
    ]

    -- where the first group is of other sorts
    later : (g : Group) (xs ys : List ℕ) → test g ≡ false → xs ≡ after (same_sorts ss ts) ys → cond (same_sorts g.sorts ts) g.names xs ≡ after (same_sorts ss ts) (cond (same_sorts g.sorts ts) g.names ys)
    later g xs ys m e = elim (cases_Bool (same_sorts g.sorts ts)) as (λ _. cond (same_sorts g.sorts ts) g.names xs ≡ after (same_sorts ss ts) (cond (same_sorts g.sorts ts) g.names ys)) [
      | inl t ↦ ap (λ b. cond b g.names xs) t ∙ sym (ap (λ b. after (same_sorts ss ts) (cond b g.names ys)) t ∙ ap (λ b. after b g.names) (differ g m t))
      | inr f ↦ ap (λ b. cond b g.names xs) f ∙ e ∙ sym (ap (λ b. after (same_sorts ss ts) (cond b g.names ys)) f)
    ]

    pub group_entered : (gs : List Group) → group_names ts (entered_groups ss n gs) ≡ after (same_sorts ss ts) (group_names ts gs)
    group_entered [] = empty_case (same_sorts ss ts)
    group_entered (g ∷ gs) = elim (cases_Bool (test g)) as (λ _. group_names ts (entered_groups ss n (g ∷ gs)) ≡ after (same_sorts ss ts) (group_names ts (g ∷ gs))) [
      | inl y ↦
          ap (λ b. group_names ts (cond b (record { sorts = g.sorts; names = with_name n g.names } ∷ gs) (g ∷ entered_groups ss n gs))) y
          ∙ both (same_sorts g.sorts ts) (same_sorts ss ts) g.names (group_names ts gs) (ap (λ l. same_sorts l ts) (sym (sorts_of g.sorts ss y)))
      | inr m ↦
          ap (λ b. group_names ts (cond b (record { sorts = g.sorts; names = with_name n g.names } ∷ gs) (g ∷ entered_groups ss n gs))) m
          ∙ later g (group_names ts (entered_groups ss n gs)) (group_names ts gs) m (group_entered gs)
    ]

pub sorts_entered : (us ss : List Sort) (n : ℕ) (b : Bool) (gs : List Group) → group_names ss (cond b (entered_groups us n gs) gs) ≡ cond (b && same_sorts us ss) (with_name n (group_names ss gs)) (group_names ss gs)
sorts_entered us ss n true gs = group_entered us n ss gs
sorts_entered us ss n false gs = refl

-- ---- heads
pub head_keys : (a b : NodeHead) → is_same (key a) (key b) ≡ decided (NodeHead_discrete a b)
head_keys a b = elim (NodeHead_discrete a b) as (λ d. is_same (key a) (key b) ≡ decided d) [
  | yes p ↦ decided_of (Shape_discrete (key a) (key b)) (ap key p)
  | no n ↦ elim (Shape_discrete (key a) (key b)) as (λ d. decided d ≡ false) [ yes p ↦ absurd (n (ap (λ s. s.head) p)) | no m ↦ refl ]
]

-- ---- the names of a store one after another
under_behind : (n : ℕ) (xs : List ℕ) → AllByRecursion (λ m. m < n) xs → is_behind n xs ≡ true
under_behind n xs a = go (slice_get xs (length xs - 1)) refl
  where
    go : (o : Option ℕ) → slice_get xs (length xs - 1) ≡ o → or_else (o >>= λ m. Some (nat_lt m n)) true ≡ true
    go None e = refl
    go (Some m) e = lt-ltb m n (all_at (λ k. k < n) xs (length xs - 1) m a e)

filter_more : (f : ℕ → Bool) (xs : List ℕ) (n : ℕ) → filter f (xs ++ n ∷ []) ≡ filter f xs ++ cond (f n) (n ∷ []) []
filter_more f xs n = filter-append f xs (n ∷ [])

filtered_under : (f : ℕ → Bool) (xs : List ℕ) (n : ℕ) → AllByRecursion (λ m. m < n) xs → AllByRecursion (λ m. m < n) (filter f xs)
filtered_under f [] n a = tt
filtered_under f (x ∷ xs) n a = by (f x) (filtered_under f xs n a.1)
  where
    by : (b : Bool) → AllByRecursion (λ m. m < n) (filter f xs) → AllByRecursion (λ m. m < n) (cond b (x ∷ filter f xs) (filter f xs))
    by true r = (a.0, r)
    by false r = r

numbers_under : (n : ℕ) → AllByRecursion (λ m. m < n) (numbers_below n)
numbers_under zero = tt
numbers_under (suc n) = all_push (λ m. m < suc n) (numbers_below n) n (all_weaker (λ m. m < n) (λ m. m < suc n) (λ m l. omega (arith, l)) (numbers_below n) (numbers_under n)) (omega arith)

-- so many names of a store are entered
abbrev pub AreEntered : List Node → ℕ → Known → Type 0
AreEntered ns n k = (h : NodeHead) → with_head k h ≡ filter (passes_at (has_head h) ns) (numbers_below n)

pub one_more : (ns : List Node) (n : ℕ) (old new : Known) (x : Node) → slice_get ns n ≡ Some x → AreEntered ns n old
    → ((h : NodeHead) → with_head new h ≡ cond (has_head h x) (with_name n (with_head old h)) (with_head old h)) → AreEntered ns (n + 1) new
one_more ns n old new x at a e h =
    let f = passes_at (has_head h) ns in
    let here : f n ≡ has_head h x = ap (λ o. or_else (o >>= λ y. Some (has_head h y)) false) at in
    let under = filtered_under f (numbers_below n) n (numbers_under n) in
    e h ∙ (λ i. cond (has_head h x) (with_name n (a h i)) (a h i)) ∙ by (has_head h x) (filter f (numbers_below n)) (under_behind n (filter f (numbers_below n)) under)
    ∙ (λ i. filter f (numbers_below n) ++ cond (sym here i) (n ∷ []) []) ∙ sym (filter_more f (numbers_below n) n) ∙ ap (λ m. filter f (numbers_below m)) next
  where
    by : (b : Bool) (xs : List ℕ) → is_behind n xs ≡ true → cond b (with_name n xs) xs ≡ xs ++ cond b (n ∷ []) []
    by true xs t = ap (λ c. cond c (xs ++ n ∷ []) ((below n xs ++ n ∷ []) ++ above n xs)) t
    by false xs t = sym (append-nil xs)

    next : suc n ≡ n + 1
    next = omega arith

-- each of so many names stands under its arguments
abbrev pub HaveArguments : List Node → ℕ → Known → Type 0
HaveArguments ns n k = (m : ℕ) (x : Node) → m < n → slice_get ns m ≡ Some x → (place a : ℕ) → slice_get x.args place ≡ Some a → is_listed m (with_argument k x.head place a) ≡ true

pub arguments_more : (ns : List Node) (n : ℕ) (old new : Known) (x : Node) → slice_get ns n ≡ Some x → HaveArguments ns n old
    → ((place a : ℕ) → slice_get x.args place ≡ Some a → is_listed n (with_argument new x.head place a) ≡ true)
    → ((h : NodeHead) (place a m : ℕ) → is_listed m (with_argument old h place a) ≡ true → is_listed m (with_argument new h place a) ≡ true) → HaveArguments ns (n + 1) new
arguments_more ns n old new x at have own more m y l here place a arg = elim (cases_Bool (nat_lt m n)) as (λ _. is_listed m (with_argument new y.head place a) ≡ true) [
  | inl t ↦ more y.head place a m (have m y (ltb-true m n t) here place a arg)
  | inr f ↦
      let e : n ≡ m = omega (arith, l, ltb-false m n f) in
      let z : x ≡ y = same_Some x y (sym at ∙ ap (slice_get ns) e ∙ here) in
      subst (λ k. is_listed k (with_argument new y.head place a) ≡ true) e
      (subst (λ (w : Node). (b : ℕ) → slice_get w.args place ≡ Some b → is_listed n (with_argument new w.head place b) ≡ true) z (own place) a arg)
]

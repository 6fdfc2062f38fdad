-- Values that may be absent, in order and together. The library has lemmas.Option (none-some, same_Some, slice_get-map, slice_get-get_or,
-- slice_get_within, slice_get_past, get_or_from_slice_get, ..).
use Rattle.std.specs.Prelude.{ℕ, zero, suc, ◌+◌, ◌<◌, ◌≡◌, Bool, true, false, List, [], ◌∷◌, ◌++◌, map, length, reverse, slice_get, Option, Some, None}
use Rattle.std.specs.List.{AllByRecursion}
use Rattle.std.specs.Option.{option_map}
use Rattle.std.proofs.Common.{refl, sym, ap, ◌∙◌, arith, get_or, take}
use Rattle.std.proofs.lemmas.Option.{none-some, same_Some, slice_get-map}
use Rattle.std.proofs.lemmas.List.{map_push, take_more}
use Rattle.ae_base.specs.Options.{◌>>=◌, only, when, all_known, known}
use Rattle.ae_base.proofs.Tests.{false_true}
use Rattle.ae_base.proofs.ListFacts.{map_reverse}

-- none isn't a value, to show anything
pub never_some : {A P : Type 0} (x : A) → ◌≡◌ {A = Option A} None (Some x) → P
never_some x e = absurd (none-some x e)

-- ---- one value after the other
pub bind_some : {A B : Type 0} (o : Option A) (f : A → Option B) (y : B) → (o >>= f) ≡ Some y → (x : A) × (o ≡ Some x) × (f x ≡ Some y)
bind_some (Some x) f y e = (x, refl, e)
bind_some None f y e = never_some y e

pub only_some : {A : Type 0} (b : Bool) (o : Option A) (y : A) → only b o ≡ Some y → (b ≡ true) × (o ≡ Some y)
only_some true o y e = (refl, e)
only_some false o y e = never_some y e

pub when_some : {A : Type 0} (b : Bool) (x y : A) → when b x ≡ Some y → (b ≡ true) × (x ≡ y)
when_some b x y e = let o = only_some b (Some x) y e in (o.0, same_Some x y o.1)

pub known_some : {A : Type 0} (o : Option A) → known o ≡ true → (x : A) × (o ≡ Some x)
known_some (Some x) e = (x, refl)
known_some None e = false_true e

pub mapped_some : {X A : Type 0} (f : X → A) (o : Option X) (y : A) → option_map f o ≡ Some y → (x : X) × (o ≡ Some x) × (f x ≡ y)
mapped_some f (Some x) y e = (x, refl, same_Some (f x) y e)
mapped_some f None y e = never_some y e

-- ---- all values of a list
pub cons_some : {A : Type 0} (o : Option A) (os : Option (List A)) (zs : List A) → (o >>= λ x. os >>= λ xs. Some (x ∷ xs)) ≡ Some zs → (x : A) × (xs : List A) × (o ≡ Some x) × (os ≡ Some xs) × (x ∷ xs ≡ zs)
cons_some (Some x) (Some xs) zs e = (x, xs, refl, refl, same_Some (x ∷ xs) zs e)
cons_some (Some x) None zs e = never_some zs e
cons_some None os zs e = never_some zs e

pub known_each : {X A : Type 0} (f : X → Option A) (xs : List X) (ys : List A) → all_known (map f xs) ≡ Some ys → map f xs ≡ map Some ys
known_each f [] ys e = ap (map Some) (same_Some [] ys e)
known_each f (x ∷ xs) ys e =
    let parts = cons_some (f x) (all_known (map f xs)) ys e in
    (λ i. parts.2 i ∷ known_each f xs parts.1 parts.3 i) ∙ ap (map Some) parts.4

pub each_known : {X A : Type 0} (f : X → Option A) (xs : List X) (ys : List A) → all_known (map f xs) ≡ Some ys → AllByRecursion (λ x. (y : A) × (f x ≡ Some y)) xs
each_known f [] ys e = tt
each_known f (x ∷ xs) ys e =
    let parts = cons_some (f x) (all_known (map f xs)) ys e in
    ((parts.0, parts.2), each_known f xs parts.1 parts.3)

-- the value at a place, counted from the last
pub known_at : {X A : Type 0} (f : X → Option A) (xs : List X) (ys : List A) (k : ℕ) (y : A) → all_known (map f xs) ≡ Some ys → slice_get (reverse ys) k ≡ Some y → (x : X) × (slice_get (reverse xs) k ≡ Some x) × (f x ≡ Some y)
known_at f xs ys k y all at =
    let turned : map f (reverse xs) ≡ map Some (reverse ys) = map_reverse f xs ∙ ap reverse (known_each f xs ys all) ∙ sym (map_reverse Some ys) in
    mapped_some f (slice_get (reverse xs) k) (Some y) (sym (slice_get-map f (reverse xs) k) ∙ ap (λ zs. slice_get zs k) turned ∙ slice_get-map Some (reverse ys) k ∙ ap (option_map Some) at)

known_push : {B : Type 0} (x y : B) (o : Option (List B)) → ((o >>= λ ys. Some (ys ++ y ∷ [])) >>= λ xs. Some (x ∷ xs)) ≡ ((o >>= λ xs. Some (x ∷ xs)) >>= λ ys. Some (ys ++ y ∷ []))
known_push x y None = refl
known_push x y (Some zs) = refl

pub known_append : {B : Type 0} (os : List (Option B)) (y : B) → all_known (os ++ Some y ∷ []) ≡ (all_known os >>= λ ys. Some (ys ++ y ∷ []))
known_append [] y = refl
known_append (None ∷ os) y = refl
known_append (Some x ∷ os) y = ap (λ o. o >>= λ xs. Some (x ∷ xs)) (known_append os y) ∙ known_push x y (all_known os)

-- one more value that is known
pub known_step : {A B : Type 0} (f : A → Option B) (xs : List A) (i : ℕ) (d : A) (ys : List B) (y : B) → i < length xs → all_known (map f (take i xs)) ≡ Some ys → f (get_or xs i d) ≡ Some y
    → all_known (map f (take (i + 1) xs)) ≡ Some (ys ++ y ∷ [])
known_step f xs i d ys y b p q =
    ap (λ zs. all_known (map f zs)) (take_more xs i d b) ∙ ap all_known (map_push f (take i xs) (get_or xs i d)) ∙ ap (λ o. all_known (map f (take i xs) ++ o ∷ [])) q
    ∙ known_append (map f (take i xs)) y ∙ ap (λ o. o >>= λ ys. Some (ys ++ y ∷ [])) p

none_after : {B : Type 0} (o : Option B) → ◌≡◌ {A = Option (List B)} (o >>= λ x. None >>= λ xs. Some (x ∷ xs)) None
none_after None = refl
none_after (Some x) = refl

-- one value that isn't known
pub known_stop : {A B : Type 0} (f : A → Option B) (xs : List A) (i : ℕ) (d : A) → i < length xs → f (get_or xs i d) ≡ None → all_known (map f xs) ≡ None
known_stop f [] i d b q = absurd (omega (arith, b))
known_stop f (x ∷ xs) zero d b q = ap (λ o. o >>= λ y. all_known (map f xs) >>= λ ys. Some (y ∷ ys)) q
known_stop f (x ∷ xs) (suc i) d b q =
    ap (λ t. f x >>= λ y. t >>= λ ys. Some (y ∷ ys)) (known_stop f xs i d (omega (arith, b)) q) ∙ none_after (f x)

-- ---- where the first is known, so is the second, and it is the same
abbrev pub Refines : {A : Type 0} → Option A → Option A → Type 0
Refines {A} o p = (x : A) → o ≡ Some x → p ≡ Some x

pub bind_refines : {A B : Type 0} (o p : Option A) (f : A → Option B) → Refines o p → Refines (o >>= f) (p >>= f)
bind_refines (Some x) p f r y e = ap (λ q. q >>= f) (r x refl) ∙ e
bind_refines None p f r y e = never_some y e

pub only_refines : {A : Type 0} (b : Bool) (o p : Option A) → Refines o p → Refines (only b o) (only b p)
only_refines true o p r y e = r y e
only_refines false o p r y e = never_some y e

pub cons_refines : {A : Type 0} (o p : Option A) (os ps : Option (List A)) → Refines o p → Refines os ps → Refines (o >>= λ x. os >>= λ xs. Some (x ∷ xs)) (p >>= λ x. ps >>= λ xs. Some (x ∷ xs))
cons_refines (Some x) p (Some xs) ps r q y e = (λ i. r x refl i >>= λ x. q xs refl i >>= λ xs. Some (x ∷ xs)) ∙ e
cons_refines (Some x) p None ps r q y e = never_some y e
cons_refines None p os ps r q y e = never_some y e

pub known_refines : {X A : Type 0} (f k : X → Option A) (g : X → X) (us : List X) → AllByRecursion (λ u. Refines (f u) (k (g u))) us → Refines (all_known (map f us)) (all_known (map k (map g us)))
known_refines f k g [] a y e = e
known_refines f k g (u ∷ us) a y e = cons_refines (f u) (k (g u)) (all_known (map f us)) (all_known (map k (map g us))) a.0 (known_refines f k g us a.1) y e

pub known_refine : {A : Type 0} (o p : Option A) → Refines o p → known o ≡ true → known p ≡ true
known_refine o p r e = let x = known_some o e in ap known (r x.0 x.1)

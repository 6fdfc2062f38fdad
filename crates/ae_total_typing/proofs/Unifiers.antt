-- Most general unifiers: what is known of them, and how one of some pairs is had from one of others.
use native.Mathlib.Decide.{ℕ_discrete}
use Rattle.std.proofs.Common.{◌≡◌, ℕ, ◌<◌, ◌≤◌, ◌⊎◌, inl, inr, List, [], ◌∷◌, refl, ap, sym, ◌∙◌, subst, arith}
use Rattle.ae_base.specs.Decided.{pick}
use Rattle.ae_base.proofs.Decided.{pick_yes, pick_no}
use Rattle.ae_core.specs.declared.terms.Sort.{Sort, Var}
use Rattle.ae_types.specs.declared.pairs.SortPair.{SortPair}
use Rattle.ae_types.specs.Substitutions.{put, MakesEqual, Unifies, Respects, IsIdempotent}
use Rattle.ae_types.specs.Clashes.{count_of}
use Rattle.ae_types.proofs.SortLaws.{put_var, put_put, put_own, size, within_larger}
use Rattle.ae_total_typing.proofs.SortForms.{agree}

abbrev pub pair : Sort → Sort → SortPair
pair s t = record { left = s; right = t }

-- a unifier of pairs of which all others are instances
pub record General (qs : List SortPair) : Type 0 where
  pub unifier : ℕ → Sort
  pub unifies : Unifies unifier qs
  pub general : (f : ℕ → Sort) → Unifies f qs → Respects f unifier

-- there is one, or no unifier
abbrev pub Answered : List SortPair → Type 0
Answered qs = General qs ⊎ ((f : ℕ → Sort) → Unifies f qs → ⊥)

-- pairs that have the same unifiers
pub turned : (ps qs : List SortPair) → ((f : ℕ → Sort) → Unifies f ps → Unifies f qs) → ((f : ℕ → Sort) → Unifies f qs → Unifies f ps)
    → Answered ps → Answered qs
turned ps qs a b (inl s) = inl (record { unifier = s.unifier; unifies = a s.unifier s.unifies; general = λ f h. s.general f (b f h) })
turned ps qs a b (inr refutes) = inr (λ f h. refutes f (b f h))

pub dropped : (s t : Sort) (qs : List SortPair) → s ≡ t → Answered qs → Answered (pair s t ∷ qs)
dropped s t qs e = turned qs (pair s t ∷ qs) (λ f h. (ap (put f) e, h)) (λ f h. h.1)

pub swapped : (s t : Sort) (qs : List SortPair) → Answered (pair s t ∷ qs) → Answered (pair t s ∷ qs)
swapped s t qs = turned (pair s t ∷ qs) (pair t s ∷ qs) (λ f h. (sym h.0, h.1)) (λ f h. (sym h.0, h.1))

pub refused : (s t : Sort) (qs : List SortPair) → ((f : ℕ → Sort) → MakesEqual f s t → ⊥) → Answered (pair s t ∷ qs)
refused s t qs n = inr (λ f h. n f h.0)

-- ---- under a substitution
abbrev pub put_pairs : (ℕ → Sort) → List SortPair → List SortPair
put_pairs m [] = []
put_pairs m (q ∷ qs) = pair (put m q.left) (put m q.right) ∷ put_pairs m qs

moved : (m f : ℕ → Sort) → Respects f m → (qs : List SortPair) → Unifies f qs → Unifies f (put_pairs m qs)
moved m f r [] a = tt
moved m f r (q ∷ qs) a = (put_put f m f r q.left ∙ a.0 ∙ sym (put_put f m f r q.right), moved m f r qs a.1)

after : (m u : ℕ → Sort) (qs : List SortPair) → Unifies u (put_pairs m qs) → Unifies (λ n. put u (m n)) qs
after m u [] a = tt
after m u (q ∷ qs) a =
    (sym (put_put u m (λ n. put u (m n)) (λ n. refl) q.left) ∙ a.0 ∙ put_put u m (λ n. put u (m n)) (λ n. refl) q.right, after m u qs a.1)

-- an instance of what unifies pairs unifies them
pub instance : (u f : ℕ → Sort) → Respects f u → (qs : List SortPair) → Unifies u qs → Unifies f qs
instance u f r [] a = tt
instance u f r (q ∷ qs) a = (sym (put_put f u f r q.left) ∙ ap (put f) a.0 ∙ put_put f u f r q.right, instance u f r qs a.1)

-- a unifier that is an instance of m, and of which all others of these are instances
pub record Extends (m : ℕ → Sort) (qs : List SortPair) : Type 0 where
  pub unifier : ℕ → Sort
  pub respects : Respects unifier m
  pub unifies : Unifies unifier qs
  pub general : (f : ℕ → Sort) → Respects f m → Unifies f qs → Respects f unifier

abbrev pub Extended : (ℕ → Sort) → List SortPair → Type 0
Extended m qs = Extends m qs ⊎ ((f : ℕ → Sort) → Respects f m → Unifies f qs → ⊥)

pub under : (m : ℕ → Sort) → IsIdempotent m → (qs : List SortPair) → Answered (put_pairs m qs) → Extended m qs
under m i qs (inl s) = inl (record {
  unifier = λ n. put s.unifier (m n);
  respects = λ n. sym (put_put s.unifier m (λ k. put s.unifier (m k)) (λ k. refl) (m n)) ∙ ap (put s.unifier) (i n);
  unifies = after m s.unifier qs s.unifies;
  general = λ f r h n. put_put f s.unifier f (s.general f (moved m f r qs h)) (m n) ∙ r n;
})
under m i qs (inr refutes) = inr (λ f r h. refutes f (moved m f r qs h))

-- an instance of an extension is one of what it extends
pub further : (m u f : ℕ → Sort) → Respects u m → Respects f u → Respects f m
further m u f r h n = sym (put_put f u f h (m n)) ∙ ap (put f) (r n) ∙ h n

-- ---- a sort for one unknown
abbrev pub bind : ℕ → Sort → ℕ → Sort
bind x t n = pick (ℕ_discrete n x) t (Var n)

pub bind_here : (x n : ℕ) (t : Sort) → n ≡ x → bind x t n ≡ t
bind_here x n t e = pick_yes (ℕ_discrete n x) t (Var n) e

pub bind_other : (x n : ℕ) (t : Sort) → ¬ (n ≡ x) → bind x t n ≡ Var n
bind_other x n t d = pick_no (ℕ_discrete n x) t (Var n) d

-- it is a most general substitution that makes the two equal
respects_at : (f : ℕ → Sort) (x : ℕ) (t : Sort) → MakesEqual f (Var x) t → (n : ℕ) → Dec (n ≡ x) → put f (bind x t n) ≡ f n
respects_at f x t e n (yes i) = ap (put f) (bind_here x n t i) ∙ sym e ∙ put_var f x ∙ ap f (sym i)
respects_at f x t e n (no d) = ap (put f) (bind_other x n t d) ∙ put_var f n

pub respects_bind : (f : ℕ → Sort) (x : ℕ) (t : Sort) → MakesEqual f (Var x) t → Respects f (bind x t)
respects_bind f x t e n = respects_at f x t e n (ℕ_discrete n x)

pub bind_equal : (f : ℕ → Sort) (x : ℕ) (t : Sort) → Respects f (bind x t) → MakesEqual f (Var x) t
bind_equal f x t r = put_var f x ∙ sym (r x) ∙ ap (put f) (bind_here x x t refl)

bind_stays : (x : ℕ) (t : Sort) → count_of x t ≤ 0 → put (bind x t) t ≡ t
bind_stays x t h =
    agree (bind x t) Var t (λ y p. bind_other x y t (λ e. (let q = subst (λ z. 0 < count_of z t) e p in omega arith))) ∙ put_own t

pub bind_idempotent : (x : ℕ) (t : Sort) → count_of x t ≤ 0 → IsIdempotent (bind x t)
bind_idempotent x t h = respects_bind (bind x t) x t (put_var (bind x t) x ∙ bind_here x x t refl ∙ sym (bind_stays x t h))

-- an unknown is never made equal to a sort that it is a part of
pub never_within : (x : ℕ) (t : Sort) → 0 < count_of x t → ¬ (t ≡ Var x) → (f : ℕ → Sort) → MakesEqual f (Var x) t → ⊥
never_within x t h d f e =
    let q = within_larger f x t h d in
    let m = ap size (sym (put_var f x) ∙ e) in
    omega arith

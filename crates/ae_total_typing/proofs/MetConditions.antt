-- Conditions have a most general typing, or the first of them that has none is refused.
use Rattle.std.proofs.Common.{◌≡◌, ℕ, ◌↔◌, ◌⊎◌, inl, inr, true, false, List, [], ◌∷◌, ◌++◌, append_assoc, refl, sym, subst, true≢false}
use Rattle.std.proofs.lemmas.List.{append-nil}
use Rattle.ae_core.specs.declared.terms.Sort.{Sort, Var, Int}
use Rattle.ae_types.specs.Substitutions.{put, MakesEqual, Respects, IsIdempotent}
use Rattle.ae_types.proofs.SortLaws.{put_var}
use Rattle.ae_elab.specs.declared.numbers.Numbers.{Numbers}
use Rattle.ae_elab.specs.declared.faults.TypeFault.{TypeFault}
use Rattle.ae_elab.specs.Conditions.{Demand, Test, Same, Possible, First, Meets, Condition, demands, IsPrincipal, IsRefused, shown}
use Rattle.ae_elab.specs.Steps.{with_one}
use Rattle.ae_elab.proofs.StepLaws.{Best, kept, same_taken, same_refused, open_is_taken, possible_open, first_open, possible_int, first_int, possible_real, first_real, possible_none, first_none, as_best, met, not_met, refused_on}
use Rattle.ae_elab.proofs.NumberLaws.{Stands, open_, at_int, at_real, never, stands}
use Rattle.ae_total_typing.proofs.Unifiers.{pair, Extends, Extended, put_pairs, under, further, instance}
use Rattle.ae_total_typing.proofs.Unification.{unification}

-- ---- two sorts made equal, beside what was known
abbrev Joined : (ℕ → Sort) → Sort → Sort → Type 0
Joined m s t = (u : ℕ → Sort) × IsIdempotent u × ((f : ℕ → Sort) → Respects f u ↔ (Respects f m × MakesEqual f s t))

joined_by : (m : ℕ → Sort) (s t : Sort) → Extends m (pair s t ∷ []) → Joined m s t
joined_by m s t e = (
  e.unifier,
  e.general e.unifier e.respects e.unifies,
  λ f. (λ r. (further m e.unifier f e.respects r, (instance e.unifier f r (pair s t ∷ []) e.unifies).0), λ r. e.general f r.0 (r.1, tt)),
)

abbrev MayJoin : (ℕ → Sort) → Sort → Sort → Type 0
MayJoin m s t = Joined m s t ⊎ ((f : ℕ → Sort) × Respects f m × MakesEqual f s t → ⊥)

joined_at : (m : ℕ → Sort) (s t : Sort) → Extended m (pair s t ∷ []) → MayJoin m s t
joined_at m s t (inl e) = inl (joined_by m s t e)
joined_at m s t (inr refutes) = inr (λ f. refutes f.0 f.1 (f.2, tt))

joined : (m : ℕ → Sort) (s t : Sort) → IsIdempotent m → MayJoin m s t
joined m s t i = joined_at m s t (under m i (pair s t ∷ []) (unification (put_pairs m (pair s t ∷ []))))

-- ---- one demand more
abbrev Next : List Demand → Demand → Type 0
Next before d = ((w : ℕ → Sort) × Best (d ∷ before) w) ⊎ ((f : ℕ → Sort) → Meets (d ∷ before) f → ⊥)

module _ (before : List Demand) (m : ℕ → Sort) (b : Best before m) where
  idempotent : IsIdempotent m
  idempotent = b.general m b.meets

  next_same : (s t : Sort) → MayJoin m s t → Next before (Same s t)
  next_same s t (inl u) = inl (u.0, same_taken before m u.0 s t b u.1 u.2)
  next_same s t (inr refutes) = inr (same_refused before m s t b refutes)

  next_possible : (n : Numbers) (s : Sort) → Stands n (put m s) → Next before (Possible n s)
  next_possible n s (open_ x e k) = inl (m, possible_open before m n s x b e)
  next_possible n s (at_int e k) = inl (m, possible_int before m n s b e)
  next_possible n s (at_real i e k) = inl (m, subst (λ z. Best (Possible z s ∷ before) m) (sym i) (possible_real before m s b e))
  next_possible n s (never f k) = inr (possible_none before m n s b f)

  becomes_int : (n : Numbers) (s : Sort) (x : ℕ) → put m s ≡ Var x → MayJoin m s Int → Next before (First n s)
  becomes_int n s x e (inl u) = inl (u.0, first_open before m u.0 n s x b e u.1 u.2)
  becomes_int n s x e (inr refutes) = absurd (refutes (open_is_taken before m s x b e))

  next_first : (n : Numbers) (s : Sort) → Stands n (put m s) → Next before (First n s)
  next_first n s (open_ x e k) = becomes_int n s x e (joined m s Int idempotent)
  next_first n s (at_int e k) = inl (m, first_int before m n s b e)
  next_first n s (at_real i e k) = inl (m, subst (λ z. Best (First z s ∷ before) m) (sym i) (first_real before m s b e))
  next_first n s (never f k) = inr (first_none before m n s b f)

  next : (d : Demand) → Next before d
  next (Test true) = inl (m, kept (Test true) before m b (b.meets, refl))
  next (Test false) = inr (λ f h. true≢false (sym h.1))
  next (Same s t) = next_same s t (joined m s t idempotent)
  next (Possible n s) = next_possible n s (stands n (put m s))
  next (First n s) = next_first n s (stands n (put m s))

-- ---- one condition more
abbrev OneMore : List Condition → (ℕ → Sort) → Condition → Type 0
OneMore cs m c = ((w : ℕ → Sort) × IsPrincipal (with_one cs c) w) ⊎ IsRefused (with_one cs c) (c.refusal (shown m))

one_more_by : (cs : List Condition) (m : ℕ → Sort) (c : Condition) → IsPrincipal cs m → Next (demands cs) c.demand → OneMore cs m c
one_more_by cs m c p (inl w) = inl (w.0, met cs c w.0 w.1)
one_more_by cs m c p (inr refutes) = inr (not_met cs c m p refutes (c.refusal (shown m)) refl)

one_more : (cs : List Condition) (m : ℕ → Sort) (c : Condition) → IsPrincipal cs m → OneMore cs m c
one_more cs m c p = one_more_by cs m c p (next (demands cs) m (as_best cs m p) c.demand)

-- ---- all conditions
abbrev pub AreAnswered : List Condition → Type 0
AreAnswered cs = ((m : ℕ → Sort) × IsPrincipal cs m) ⊎ ((e : TypeFault) × IsRefused cs e)

going_on : (done : List Condition) (m : ℕ → Sort) (c : Condition) (rest : List Condition) → OneMore done m c
    → ((w : ℕ → Sort) → IsPrincipal (with_one done c) w → AreAnswered (with_one done c ++ rest)) → AreAnswered (with_one done c ++ rest)
going_on done m c rest (inl w) on = on w.0 w.1
going_on done m c rest (inr r) on = inr (c.refusal (shown m), refused_on (with_one done c) rest (c.refusal (shown m)) r)

answered_from : (done : List Condition) (m : ℕ → Sort) → IsPrincipal done m → (rest : List Condition) → AreAnswered (done ++ rest)
answered_from done m p [] = inl (m, subst (λ cs. IsPrincipal cs m) (sym (append-nil done)) p)
answered_from done m p (c ∷ rest) =
    subst AreAnswered (append_assoc done (c ∷ []) rest)
    (going_on done m c rest (one_more done m c p) (λ w q. answered_from (with_one done c) w q rest))

pub conditions_answered : (cs : List Condition) → AreAnswered cs
conditions_answered cs = answered_from [] Var (record { typing = tt; general = λ f h n. put_var f n }) cs

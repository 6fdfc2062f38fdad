-- The equations that wait: one more, and the oldest gone.
use Rattle.std.specs.Prelude.{ℕ, ◌+◌, ◌<◌, ◌≤◌, ◌≡◌, List, [], ◌∷◌, ◌++◌, map, drop, take, length, get_or, Some, None, Result, Ok, Err, OnErr, if◌then◌else◌}
use Rattle.std.specs.List.{AllByRecursion}
use Rattle.std.specs.Option.{option_map}
use Rattle.std.proofs.Common.{refl, sym, ap, ◌∙◌, subst, arith}
use Rattle.std.proofs.lemmas.Bool.{eq-eqb}
use Rattle.std.proofs.lemmas.Bool.Decides.{nat_tests}
use Rattle.std.proofs.lemmas.List.{map-append, append-nil, append_assoc, take_more, take_all}
use Rattle.std.proofs.lemmas.Option.{none-some, same_Some}
use Rattle.ae_base.proofs.AllOf.{all_weaker, all_push}
use Rattle.ae_pmap.specs.Forest.{present}
use Rattle.ae_pmap.specs.Pairs.{put_in, take_out}
use Rattle.ae_pmap.specs.Walk.{first_of}
use Rattle.ae_monoid.specs.declared.pending.PendingPair.{PendingPair}
use Rattle.ae_equations.specs.declared.queue.Queue.{Queue}
use Rattle.ae_equations.specs.declared.queue.Waiting.{Waiting}
use Rattle.ae_equations.specs.Queued.{waiting, equation_of}
use Rattle.ae_equations.specs.Inner.Placed.{ArePlaced}

-- what holds in any case
pub on_err_always : {T E P : Type 0} (r : Result T E) → P → OnErr r P
on_err_always (Ok x) p = tt
on_err_always (Err e) p = p

-- what is put at a place above all others comes last
pub put_last : {A : Type 0} (key : ℕ) (x : A) (ps : List (ℕ × A)) → AllByRecursion (λ (p : ℕ × A). p.0 < key) ps → put_in key x ps ≡ ps ++ (key, x) ∷ []
put_last key x [] a = refl
put_last key x (p ∷ ps) a = grind (arith, nat_tests, put_last key x ps a.1, a.0)

-- without the first place
out_first : {A : Type 0} (p : ℕ × A) (ps : List (ℕ × A)) → take_out p.0 (p ∷ ps) ≡ ps
out_first p ps = ap (λ b. if b then ps else p ∷ take_out p.0 ps) (eq-eqb p.0 p.0 refl)

pub first_mapped : {A B : Type 0} (f : A → B) (xs : List A) → option_map f (first_of xs) ≡ first_of (map f xs)
first_mapped f [] = refl
first_mapped f (x ∷ xs) = refl

pub placed_none : (q : Queue) → present q.places ≡ [] → ArePlaced q
placed_none q e = record { below = subst (λ (ps : List (ℕ × Waiting)). AllByRecursion (λ (p : ℕ × Waiting). p.0 < q.next) ps) (sym e) tt }

-- the same places, below the same number
pub placed_as : (q r : Queue) → ArePlaced q → present r.places ≡ present q.places → r.next ≡ q.next → ArePlaced r
placed_as q r a e n =
    record {
      below =
          subst (λ (ps : List (ℕ × Waiting)). AllByRecursion (λ (p : ℕ × Waiting). p.0 < r.next) ps) (sym e)
          (all_weaker (λ (p : ℕ × Waiting). p.0 < q.next) (λ (p : ℕ × Waiting). p.0 < r.next) (λ p l. omega (arith, l, n)) (present q.places) a.below);
    }

pub waiting_as : (q r : Queue) → present r.places ≡ present q.places → waiting r ≡ waiting q
waiting_as q r e = ap (map (λ (p : ℕ × Waiting). p.1)) e

-- ---- one more
module _ (q r : Queue) (w : Waiting) (a : ArePlaced q) (put : present r.places ≡ put_in q.next w (present q.places)) where
  behind : present r.places ≡ present q.places ++ (q.next, w) ∷ []
  behind = put ∙ put_last q.next w (present q.places) a.below

  pub placed_more : r.next ≡ q.next + 1 → ArePlaced r
  placed_more n =
      record {
        below =
            subst (λ (ps : List (ℕ × Waiting)). AllByRecursion (λ (p : ℕ × Waiting). p.0 < r.next) ps) (sym behind)
            (all_push (λ (p : ℕ × Waiting). p.0 < r.next) (present q.places) (q.next, w)
            (all_weaker (λ (p : ℕ × Waiting). p.0 < q.next) (λ (p : ℕ × Waiting). p.0 < r.next) (λ p l. omega (arith, l, n)) (present q.places) a.below) (omega (arith, n)));
      }

  pub waiting_more : waiting r ≡ waiting q ++ w ∷ []
  waiting_more = ap (map (λ (p : ℕ × Waiting). p.1)) behind ∙ map-append (λ (p : ℕ × Waiting). p.1) (present q.places) ((q.next, w) ∷ [])

-- ---- the oldest gone
gone_by : (ps : List (ℕ × Waiting)) (place : ℕ) → Some place ≡ option_map (λ (p : ℕ × Waiting). p.0) (first_of ps) → take_out place ps ≡ drop 1 ps
gone_by [] place e = absurd (none-some place (sym e))
gone_by (p ∷ ps) place e = ap (λ (k : ℕ). take_out k (p ∷ ps)) (same_Some place p.0 e) ∙ out_first p ps

all_dropped : (P : ℕ × Waiting → Type 0) (ps : List (ℕ × Waiting)) → AllByRecursion P ps → AllByRecursion P (drop 1 ps)
all_dropped P [] a = tt
all_dropped P (p ∷ ps) a = a.1

map_dropped : (ps : List (ℕ × Waiting)) → map (λ (p : ℕ × Waiting). p.1) (drop 1 ps) ≡ drop 1 (map (λ (p : ℕ × Waiting). p.1) ps)
map_dropped [] = refl
map_dropped (p ∷ ps) = refl

module _ (q r : Queue) (place : ℕ) (first : Some place ≡ option_map (λ (p : ℕ × Waiting). p.0) (first_of (present q.places))) (out : present r.places ≡ take_out place (present q.places)) where
  pub placed_fewer : ArePlaced q → r.next ≡ q.next → ArePlaced r
  placed_fewer a n =
      record {
        below =
            subst (λ (ps : List (ℕ × Waiting)). AllByRecursion (λ (p : ℕ × Waiting). p.0 < r.next) ps) (sym (out ∙ gone_by (present q.places) place first))
            (all_dropped (λ (p : ℕ × Waiting). p.0 < r.next) (present q.places) (all_weaker (λ (p : ℕ × Waiting). p.0 < q.next) (λ (p : ℕ × Waiting). p.0 < r.next) (λ p l. omega (arith, l, n)) (present q.places) a.below));
      }

  pub waiting_fewer : waiting r ≡ drop 1 (waiting q)
  waiting_fewer = ap (map (λ (p : ℕ × Waiting). p.1)) (out ∙ gone_by (present q.places) place first) ∙ map_dropped (present q.places)

-- where there is no oldest, none is left without it
pub none_fewer : (ps : List (ℕ × Waiting)) → None ≡ option_map (λ (p : ℕ × Waiting). p.0) (first_of ps) → map (λ (p : ℕ × Waiting). p.1) ps ≡ drop 1 (map (λ (p : ℕ × Waiting). p.1) ps)
none_fewer [] e = refl
none_fewer (p ∷ ps) e = absurd (none-some p.0 e)

-- ---- each of a list behind the others
pub record IsPushing (q now : Queue) (pairs : List PendingPair) (i : ℕ) : Type 0 where
  pub placed : ArePlaced now
  pub is : waiting now ≡ waiting q ++ map equation_of (take i pairs)

pub pushing_none : (q : Queue) (pairs : List PendingPair) → ArePlaced q → IsPushing q q pairs 0
pushing_none q pairs a = record { placed = a; is = sym (append-nil (waiting q)) }

pub pushing_more : (q now new : Queue) (pairs : List PendingPair) (i : ℕ) (pair : PendingPair) (w : Waiting) → i < length pairs → pair ≡ get_or pairs i pair → w ≡ equation_of pair → IsPushing q now pairs i
    → ArePlaced new → waiting new ≡ waiting now ++ w ∷ [] → IsPushing q new pairs (i + 1)
pushing_more q now new pairs i pair w l e f s a g =
    record {
      placed = a;
      is =
          g ∙ ap (λ (ws : List Waiting). ws ++ w ∷ []) s.is ∙ append_assoc (waiting q) (map equation_of (take i pairs)) (w ∷ [])
          ∙ ap (λ (x : Waiting). waiting q ++ (map equation_of (take i pairs) ++ x ∷ [])) f
          ∙ ap (λ (ws : List Waiting). waiting q ++ ws) (sym (map-append equation_of (take i pairs) (pair ∷ [])))
          ∙ ap (λ (ps : List PendingPair). waiting q ++ map equation_of ps) (ap (λ (p : PendingPair). take i pairs ++ p ∷ []) e ∙ sym (take_more pairs i pair l));
    }

pub pushing_all : (q now : Queue) (pairs : List PendingPair) (i : ℕ) → IsPushing q now pairs i → length pairs ≤ i → waiting now ≡ waiting q ++ map equation_of pairs
pushing_all q now pairs i s l = s.is ∙ ap (λ (ps : List PendingPair). waiting q ++ map equation_of ps) (take_all i pairs l)

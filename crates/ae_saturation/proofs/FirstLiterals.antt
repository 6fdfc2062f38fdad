-- What is complete for the first of the assumed literals, so many: where it comes from, and where it goes on.
use Rattle.std.specs.Prelude.{ℕ, zero, suc, ◌<◌, ◌≤◌, true, List, [], ◌∷◌, ◌++◌, ◌≡◌, length, take, slice_get, Some, Result, Ok, Err, OnOk, OnErr}
use Rattle.std.specs.List.{Contains}
use Rattle.std.proofs.Common.{sym, ap, ◌∙◌, subst, arith}
use Rattle.std.proofs.lemmas.List.{append-nil, length-append, length-map, map-append, take_all, take-append-le}
use Rattle.std.proofs.lemmas.Option.{none-some, slice_get-get_or}
use Rattle.ae_base.proofs.ListFacts.{get_front}
use Rattle.ae_core.specs.Sorts.{formula_ok}
use Rattle.ae_core.specs.declared.formulas.Lit.{Lit}
use Rattle.ae_core.specs.declared.problems.Signature.{Signature}
use Rattle.ae_journal.specs.Systems.{IsCompleted}
use Rattle.ae_journal.specs.declared.systems.System.{System}
use Rattle.ae_journal.proofs.Splits.{contains_at}
use Rattle.ae_settled.specs.Held.{entries}
use Rattle.ae_settled.specs.Met.{Satisfies}
use Rattle.ae_store.specs.Growing.{IsFront}
use Rattle.ae_theory.specs.Noting.{literals}
use Rattle.ae_theory.specs.Tagged.{Tagged}
use Rattle.ae_value_table.specs.Table.{values}
use Rattle.ae_state.specs.declared.holding.Holding.{Holding}
use Rattle.ae_state.specs.Names.{all_terms, assumed_in, rules_now, system_now, terms_now}
use Rattle.ae_state.specs.Right.{IsRight}
use Rattle.ae_state.specs.Complete.{IsComplete}
use Rattle.ae_state.proofs.Growing.{front_keeps, take_kept}
use Rattle.ae_unmet.proofs.SaidPlaces.{literals_long}
use Rattle.ae_saturation.specs.Lasting.{first_literals, IsCompleteFor}

-- ---- the first of a list
pub front_there : {X : Type 0} (xs : List X) (n k : ℕ) (x : X) → k < n → slice_get xs k ≡ Some x → slice_get (take n xs) k ≡ Some x
front_there [] n k x l e = absurd (none-some x e)
front_there (y ∷ xs) zero k x l e = absurd (omega (arith, l))
front_there (y ∷ xs) (suc n) zero x l e = e
front_there (y ∷ xs) (suc n) (suc k) x l e = front_there xs n k x (omega (arith, l)) e

pub of_front : {X : Type 0} (xs : List X) (n : ℕ) (x : X) → Contains (take n xs) x → Contains xs x
of_front xs n x (k, l, e) = contains_at xs k x (get_front xs n k x (slice_get-get_or (take n xs) k _ l ∙ ap Some e)).0

-- ---- where the system and the first literals are the same
module _ (count : ℕ) (o p : Holding) (signature : p.signature ≡ o.signature) (system : system_now p ≡ system_now o) (first : first_literals count p ≡ first_literals count o) where
  pub for_like : count ≤ length (assumed_in p) → IsCompleteFor count o → IsCompleteFor count p
  for_like long c =
      record {
        within = long;
        completed = subst (λ (x : Signature × System). IsCompleted x.0 x.1) (λ i. (sym signature i, sym system i)) c.completed;
        satisfied = subst (λ (x : Signature × System × List Lit). ((l : Lit) → Contains x.2 l → formula_ok x.0 l.formula ≡ true) → Satisfies x.0 x.1 x.2)
            (λ i. (sym signature i, sym system i, sym first i)) c.satisfied;
      }

-- where all literals are the same
pub for_same : (count : ℕ) (o p : Holding) → p.signature ≡ o.signature → system_now p ≡ system_now o → assumed_in p ≡ assumed_in o → IsCompleteFor count o → IsCompleteFor count p
for_same count o p signature system same c =
    for_like count o p signature system (ap (λ (ts : List Tagged). take count (literals ts)) same) (let long = ap length same in omega (arith, long, c.within)) c

-- where it is complete for all
pub for_all : (o : Holding) → IsRight o → IsComplete o → IsCompleteFor o.next o
for_all o holds c =
    let long : length (literals (assumed_in o)) ≡ o.next = literals_long o holds in
    let all : first_literals o.next o ≡ literals (assumed_in o) = take_all o.next (literals (assumed_in o)) (omega (arith, long)) in
    record {
      within = omega (arith, long, length-map (assumed_in o) (λ (t : Tagged). t.lit));
      completed = c.completed;
      satisfied = subst (λ (ls : List Lit). ((l : Lit) → Contains ls l → formula_ok o.signature l.formula ≡ true) → Satisfies o.signature (system_now o) ls) (sym all) c.satisfied;
    }

-- ---- where literals are assumed, and names come
module _ (count : ℕ) (o p : Holding) (holds : IsRight o) (front : IsFront o.shapes p.shapes)
    (others : p ≡ record o { shapes = p.shapes; assumed = p.assumed; said = p.said; next = p.next }) where
  names_same : terms_now p ≡ terms_now o
  names_same =
      ap (λ (x : Holding). take x.values.taken (all_terms p)) others
      ∙ take_kept o.values.taken (all_terms o) (all_terms p) (front_keeps o.shapes p.shapes front) (omega (arith, holds.within, (holds.entries).within))

  system_same : system_now p ≡ system_now o
  system_same = λ i. record { names = names_same i; values = values (others i).values; rules = entries (rules_now (others i)) (others i).equations.rules.next }

  for_more : (more : List Tagged) → assumed_in p ≡ assumed_in o ++ more → IsCompleteFor count o → IsCompleteFor count p
  for_more more added c =
      let long : length (literals (assumed_in o)) ≡ length (assumed_in o) = length-map (assumed_in o) (λ (t : Tagged). t.lit) in
      let first : first_literals count p ≡ first_literals count o =
      ap (λ (ts : List Tagged). take count (literals ts)) added ∙ ap (take count) (map-append (λ (t : Tagged). t.lit) (assumed_in o) more)
      ∙ take-append-le count (literals (assumed_in o)) (literals more) (omega (arith, long, c.within)) in
      let all = ap length added in
      for_like count o p (ap (λ (x : Holding). x.signature) others) system_same first (omega (arith, all, length-append (assumed_in o) more, c.within)) c

  pub for_assumed : {T E : Type 0} (r : Result T E) (x : Tagged) → OnOk r (assumed_in p ≡ assumed_in o ++ x ∷ []) → OnErr r (assumed_in p ≡ assumed_in o) → IsCompleteFor count o → IsCompleteFor count p
  for_assumed (Ok y) x ok err c = for_more (x ∷ []) ok c
  for_assumed (Err e) x ok err c = for_more [] (err ∙ sym (append-nil (assumed_in o))) c

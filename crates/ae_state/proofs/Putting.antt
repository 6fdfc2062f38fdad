-- One more literal that is assumed.
use Rattle.std.specs.Prelude.{ℕ, ◌+◌, ◌<◌, ◌≤◌, ◌≢◌, ◌⊎◌, Bool, true, false, List, [], ◌∷◌, ◌++◌, ◌≡◌, ◌==◌, length, slice_get, Option, Some, None, if◌then◌else◌}
use Rattle.std.specs.List.{AllByRecursion}
use Rattle.std.proofs.Common.{refl, sym, ap, ◌∙◌, subst, arith, inl, inr}
use Rattle.std.proofs.lemmas.Bool.{cases_lt, eqb-true, ne_eqb}
use Rattle.std.proofs.lemmas.List.{map-append, append-nil, length_push}
use Rattle.std.proofs.lemmas.Option.{none-some, same_Some, slice_get_within}
use Rattle.ae_base.proofs.AllOf.{all_from_places}
use Rattle.ae_base.proofs.ListFacts.{get_before, get_seam}
use Rattle.ae_base.proofs.Tests.{nat_eq_itself}
use Rattle.ae_equations.proofs.QueueLaws.{put_last}
use Rattle.ae_pmap.specs.Forest.{Forest, present}
use Rattle.ae_pmap.specs.Pairs.{found, put_in, with_at}
use Rattle.ae_store.specs.Stores.{Stored, IsStore}
use Rattle.ae_just.specs.declared.steps.Step.{Step}
use Rattle.ae_conflicts.specs.declared.assumed.Assumed.{Assumed}
use Rattle.ae_conflicts.specs.Saying.{tagged, AreKept, RestsOnAssumed}
use Rattle.ae_conflicts.specs.Conflicting.{IsConflict}
use Rattle.ae_conflicts.proofs.Kept.{conflict_kept}
use Rattle.ae_literals.specs.declared.said.Said.{Said}
use Rattle.ae_literals.specs.Said.{Says}
use Rattle.ae_theory.specs.Names.{AreNamed}
use Rattle.ae_state.specs.declared.holding.Holding.{Holding}
use Rattle.ae_state.specs.Names.{all_terms, assumed_in}
use Rattle.ae_state.specs.Right.{IsReason, of_value, of_rule, of_equation, AreNumbered, HasTerms, IsRead, IsRight}
use Rattle.ae_state.specs.Complete.{IsOwnConflict}

-- ---- a map changed at a key
pub put_other : {A : Type 0} (m : ℕ → Option A) (key : ℕ) (o : Option A) (q : ℕ) → q ≢ key → with_at m key o q ≡ m q
put_other m key o q apart = ap (λ b. if b then o else m q) (ne_eqb key q (λ e. apart (sym e)))

pub put_here : {A : Type 0} (m : ℕ → Option A) (key : ℕ) (o : Option A) → with_at m key o key ≡ o
put_here m key o = ap (λ b. if b then o else m key) (nat_eq_itself key)

-- ---- pairs behind others
front_by : {A : Type 0} (b : Bool) (x e : A) (o q : Option A) → (o ≡ Some e → q ≡ Some e) → (if b then Some x else o) ≡ Some e → (if b then Some x else q) ≡ Some e
front_by true x e o q k h = h
front_by false x e o q k h = k h

found_front : {A : Type 0} (ps qs : List (ℕ × A)) (q : ℕ) (e : A) → found ps q ≡ Some e → found (ps ++ qs) q ≡ Some e
found_front [] qs q e h = absurd (none-some e h)
found_front (p ∷ ps) qs q e h = front_by (p.0 == q) p.1 e (found ps q) (found (ps ++ qs) q) (found_front ps qs q e) h

below_by : {A : Type 0} (b : Bool) (x e : A) (o : Option A) (key k q : ℕ) → (b ≡ true → k ≡ q) → k < key → (o ≡ Some e → q < key) → (if b then Some x else o) ≡ Some e → q < key
below_by true x e o key k q same l rest h = omega (arith, same refl, l)
below_by false x e o key k q same l rest h = rest h

found_below : {A : Type 0} (key : ℕ) (ps : List (ℕ × A)) (q : ℕ) (e : A) → AllByRecursion (λ (p : ℕ × A). p.0 < key) ps → found ps q ≡ Some e → q < key
found_below key [] q e a h = absurd (none-some e h)
found_below key (p ∷ ps) q e a h = below_by (p.0 == q) p.1 e (found ps q) key p.0 q (eqb-true p.0 q) a.0 (found_below key ps q e a.1) h

-- one of the first, or the last
last_by : {A P : Type 0} (b : Bool) (x e : A) (o q : Option A) → (q ≡ Some e → (o ≡ Some e) ⊎ P) → (if b then Some x else q) ≡ Some e → ((if b then Some x else o) ≡ Some e) ⊎ P
last_by true x e o q k h = inl h
last_by false x e o q k h = k h

only_by : {A : Type 0} (b : Bool) (k q : ℕ) (x e : A) → (b ≡ true → k ≡ q) → ◌≡◌ {A = Option A} (if b then Some x else None) (Some e) → (k ≡ q) × (x ≡ e)
only_by true k q x e same h = (same refl, same_Some x e h)
only_by false k q x e same h = absurd (none-some e h)

found_last : {A : Type 0} (ps : List (ℕ × A)) (key : ℕ) (x : A) (q : ℕ) (e : A) → found (ps ++ (key, x) ∷ []) q ≡ Some e → (found ps q ≡ Some e) ⊎ ((key ≡ q) × (x ≡ e))
found_last [] key x q e h = inr (only_by (key == q) key q x e (eqb-true key q) h)
found_last (p ∷ ps) key x q e h = last_by (p.0 == q) p.1 e (found ps q) (found (ps ++ (key, x) ∷ []) q) (found_last ps key x q e) h

-- ---- places that are numbered
all_below : (next : ℕ) (ps : List (ℕ × Assumed)) → AreNumbered next ps → AllByRecursion (λ (p : ℕ × Assumed). p.0 < next) ps
all_below next ps a = all_from_places (λ (p : ℕ × Assumed). p.0 < next) ps (λ k p e. omega (arith, a.places k p e, a.many, slice_get_within ps k p e))

numbered_more : (next : ℕ) (ps : List (ℕ × Assumed)) (x : Assumed) → AreNumbered next ps → AreNumbered (next + 1) (ps ++ (next, x) ∷ [])
numbered_more next ps x a = record { many = length_push ps (next, x) ∙ ap (λ n. n + 1) a.many; places = λ k p e. by_order k p e (cases_lt k (length ps)) }
  where
    by_order : (k : ℕ) (p : ℕ × Assumed) → slice_get (ps ++ (next, x) ∷ []) k ≡ Some p → (k < length ps) ⊎ (length ps ≤ k) → p.0 ≡ k
    by_order k p e (inl l) = a.places k p (sym (get_before ps ((next, x) ∷ []) k l) ∙ e)
    by_order k p e (inr l) =
        let w = slice_get_within (ps ++ (next, x) ∷ []) k p e in
        let k_is : k ≡ length ps = omega (arith, w, l, length_push ps (next, x)) in
        let same : (next, x) ≡ p = same_Some (next, x) p (sym (get_seam ps [] (next, x)) ∙ ap (slice_get (ps ++ (next, x) ∷ [])) (sym k_is) ∙ e) in
        sym (ap (λ (z : ℕ × Assumed). z.0) same) ∙ sym a.many ∙ sym k_is

-- ---- the literal is put
module _ (o : Holding) (right : IsRight o) (held : Forest Assumed) (said : Forest Said) (a : Assumed) (d : Said) (put : present held ≡ put_in o.next a (present o.assumed)) where
  behind : present held ≡ present o.assumed ++ (o.next, a) ∷ []
  behind = put ∙ put_last o.next a (present o.assumed) (all_below o.next (present o.assumed) right.numbered)

  pub assumed_more : tagged (present held) ≡ assumed_in o ++ record { lit = a.lit; tag = a.tag } ∷ []
  assumed_more = ap tagged behind ∙ map-append (λ (p : ℕ × Assumed). record { lit = (p.1).lit; tag = (p.1).tag }) (present o.assumed) ((o.next, a) ∷ [])

  kept : AreKept (present o.assumed) (present held)
  kept = record { each = λ place e at. ap (λ ps. found ps place) behind ∙ found_front (present o.assumed) ((o.next, a) ∷ []) place e at }

  abbrev pub next_one : Holding
  next_one = record o { assumed = held; said = said; next = o.next + 1 }

  reason_same : (id : ℕ) → IsReason next_one id → IsReason o id
  reason_same id (of_value s) = of_value s
  reason_same id (of_rule n rule e j) = of_rule n rule e j
  reason_same id (of_equation w e j) = of_equation w e j

  rests_more : (id : ℕ) → RestsOnAssumed (all_terms o) o.justs (present o.assumed) id → RestsOnAssumed (all_terms o) o.justs (present held) id
  rests_more id r =
      record {
        each = λ k tag s on at rule.
            let b = r.each k tag s on at rule in
            (b.0, record { entry = (b.1).entry; at = kept.each b.0 (b.1).entry (b.1).at; lit_is = (b.1).lit_is; tag_is = (b.1).tag_is });
      }

  module _ (here : found (present said) o.next ≡ Some d) (before : (place : ℕ) → place ≢ o.next → found (present said) place ≡ found (present o.said) place)
      (named : (s : Stored) → HasTerms o s → AreNamed s a.lit.formula) (says : (s : Stored) → IsStore s.signature s.nodes → HasTerms o s → Says s a.lit d) where
    terms_same : (s : Stored) → HasTerms next_one s → HasTerms o s
    terms_same s t = record { signature = t.signature; keeps = t.keeps }

    read_by : (place : ℕ) (b : Assumed) → (found (present o.assumed) place ≡ Some b) ⊎ ((o.next ≡ place) × (a ≡ b)) → IsRead next_one place b
    read_by place b (inl e) =
        let r = right.read place b e in
        let l = found_below o.next (present o.assumed) place b (all_below o.next (present o.assumed) right.numbered) e in
        record { what = r.what; at = before place (λ q. omega (arith, l, q)) ∙ r.at; named = λ s t. r.named s (terms_same s t); says = λ s store t. r.says s store (terms_same s t) }
    read_by place b (inr (e, f)) =
        record {
          what = d;
          at = ap (found (present said)) (sym e) ∙ here;
          named = λ s t. subst (λ (z : Assumed). AreNamed s z.lit.formula) f (named s (terms_same s t));
          says = λ s store t. subst (λ (z : Assumed). Says s z.lit d) f (says s store (terms_same s t));
        }

    pub right_put : IsRight next_one
    right_put =
        record {
          entries = right.entries;
          within = right.within;
          closed = right.closed;
          steps = right.steps;
          valued = right.valued;
          said = right.said;
          ruled = right.ruled;
          grounded = λ id r. rests_more id (right.grounded id (reason_same id r));
          numbered = subst (AreNumbered (o.next + 1)) (sym behind) (numbered_more o.next (present o.assumed) a right.numbered);
          read = λ place b e. read_by place b (found_last (present o.assumed) o.next a place b (ap (λ ps. found ps place) (sym behind) ∙ e));
        }

  pub conflict_put : (k : ℕ) → IsOwnConflict o k → IsOwnConflict next_one k
  conflict_put k c =
      record {
        conflict = c.conflict;
        at = c.at;
        is =
            subst (λ (steps : List Step). IsConflict o.signature (all_terms o) steps (present held) c.conflict) (append-nil o.justs)
            (conflict_kept (present o.assumed) (present held) kept o.signature (all_terms o) (all_terms o) o.justs [] (λ i t e. e) right.steps c.conflict c.is);
      }

-- a refusal leaves the literals, and what the places below the next one say
module _ (o : Holding) (right : IsRight o) (held : Forest Assumed) (said : Forest Said) (same : present held ≡ present o.assumed)
    (before : (place : ℕ) → place ≢ o.next → found (present said) place ≡ found (present o.said) place) where
  abbrev pub refused : Holding
  refused = record o { assumed = held; said = said }

  reason_left : (id : ℕ) → IsReason refused id → IsReason o id
  reason_left id (of_value s) = of_value s
  reason_left id (of_rule n rule e j) = of_rule n rule e j
  reason_left id (of_equation w e j) = of_equation w e j

  read_left : (place : ℕ) (b : Assumed) → found (present held) place ≡ Some b → IsRead refused place b
  read_left place b e =
      let f = ap (λ ps. found ps place) (sym same) ∙ e in
      let r = right.read place b f in
      let l = found_below o.next (present o.assumed) place b (all_below o.next (present o.assumed) right.numbered) f in
      record {
        what = r.what;
        at = before place (λ q. omega (arith, l, q)) ∙ r.at;
        named = λ s t. r.named s (record { signature = t.signature; keeps = t.keeps });
        says = λ s store t. r.says s store (record { signature = t.signature; keeps = t.keeps });
      }

  pub right_left : IsRight refused
  right_left =
      record {
        entries = right.entries;
        within = right.within;
        closed = right.closed;
        steps = right.steps;
        valued = right.valued;
        said = right.said;
        ruled = right.ruled;
        grounded = λ id r. subst (λ (ps : List (ℕ × Assumed)). RestsOnAssumed (all_terms o) o.justs ps id) (sym same) (right.grounded id (reason_left id r));
        numbered = subst (AreNumbered o.next) (sym same) right.numbered;
        read = read_left;
      }

  pub conflict_left : (k : ℕ) → IsOwnConflict o k → IsOwnConflict refused k
  conflict_left k c =
      record { conflict = c.conflict; at = c.at; is = subst (λ (ps : List (ℕ × Assumed)). IsConflict o.signature (all_terms o) o.justs ps c.conflict) (sym same) c.is }

-- A literal that is assumed, or refused.
use Rattle.std.specs.Prelude.{ℕ, ◌+◌, ◌≢◌, List, [], ◌≡◌, Some, Result, Ok, Err, OnOk, OnErr}
use Rattle.std.proofs.Common.{refl, sym, ap, ◌∙◌, subst}
use Rattle.std.proofs.lemmas.List.{append-nil}
use Rattle.ae_core.specs.declared.terms.Term.{Term}
use Rattle.ae_journal.specs.declared.lines.Line.{Line}
use Rattle.ae_pmap.specs.Forest.{present, Lasts as MapLasts}
use Rattle.ae_pmap.specs.Pairs.{found, put_in}
use Rattle.ae_store.specs.Growing.{IsFront}
use Rattle.ae_store.specs.Stores.{Stored, IsStore}
use Rattle.ae_store.specs.Terms.{Keeps}
use Rattle.ae_theory.specs.Names.{AreNamed, terms_in}
use Rattle.ae_conflicts.specs.declared.assumed.Assumed.{Assumed}
use Rattle.ae_literals.specs.declared.said.Said.{Said}
use Rattle.ae_literals.specs.Said.{Says}
use Rattle.ae_state.specs.declared.holding.Holding.{Holding}
use Rattle.ae_state.specs.declared.holding.Mark.{Mark}
use Rattle.ae_state.specs.Names.{all_terms}
use Rattle.ae_state.specs.Right.{HasTerms, IsRight}
use Rattle.ae_state.specs.Marks.{FitsMark}
use Rattle.ae_state.specs.Stepping.{IsInStep}
use Rattle.ae_state.specs.Complete.{IsOwnConflict}
use Rattle.ae_state.proofs.Lasting.{marks_last}
use Rattle.ae_state.proofs.Putting.{right_put, right_left, conflict_put, conflict_left}
use Rattle.ae_state.proofs.Reading.{names_more, says_more}

-- ---- results
pub both_ok : {T E : Type 0} (P Q : Type 0) (r : Result T E) → OnOk r P → OnOk r Q → OnOk r (P × Q)
both_ok P Q (Ok x) p q = (p, q)
both_ok P Q (Err e) p q = tt

pub both_err : {T E : Type 0} (P Q : Type 0) (r : Result T E) → OnErr r P → OnErr r Q → OnErr r (P × Q)
both_err P Q (Ok x) p q = tt
both_err P Q (Err e) p q = (p, q)

pub by_result : {T E P Q R : Type 0} (r : Result T E) → (P → R) → (Q → R) → OnOk r P → OnErr r Q → R
by_result (Ok x) f g p q = f p
by_result (Err e) f g p q = g q

-- what a call that puts a literal leaves as it was
abbrev pub with_literals : Holding → Holding → Holding
with_literals p q = record p { assumed = q.assumed; said = q.said; next = q.next }

-- ---- all else is the same
-- where names came, and then a literal or a part of one
pub others_kept : (o p q : Holding) → p ≡ record o { shapes = p.shapes } → q ≡ with_literals p q → q ≡ record (with_literals o q) { shapes = q.shapes }
others_kept o p q learnt put =
    put ∙ (λ i. record (learnt i) { assumed = q.assumed; said = q.said; next = q.next })
    ∙ (λ i. record o { shapes = (sym put i).shapes; assumed = q.assumed; said = q.said; next = q.next })

pub shapes_kept : (o p q : Holding) → IsFront o.shapes p.shapes → q ≡ with_literals p q → IsFront o.shapes q.shapes
shapes_kept o p q front put = subst (IsFront o.shapes) (sym (ap (λ (x : Holding). x.shapes) put)) front

-- ---- lines, steps and values are the same
module _ (p q : Holding) (others : q ≡ with_literals p q) where
  pub step_kept : (js : List Line) → IsInStep p js → IsInStep q js
  step_kept js s = subst (λ (x : Holding). IsInStep x js) (sym others) (record { valued = s.valued; solved = s.solved; ruled = s.ruled })

  pub marks_kept : MapLasts p.assumed q.assumed → MapLasts p.said q.said → (m : Mark) (then : Holding) → FitsMark p m then → FitsMark q m then
  marks_kept a d m then h =
      subst (λ (x : Holding). FitsMark x m then) (sym others)
      (marks_last p (with_literals p q)
      (record {
        values = λ shared c s. s;
        equations = λ shared c s. s;
        assumed = a;
        said = d;
        signature = refl;
        shapes = ([], sym (append-nil p.shapes));
        justs = ([], sym (append-nil p.justs));
        conflicts = ([], sym (append-nil p.conflicts));
      }) m then h)

  pub terms_kept : (s : Stored) → HasTerms p s → HasTerms q s
  terms_kept s t = subst (λ (x : Holding). HasTerms x s) (sym others) (record { signature = t.signature; keeps = t.keeps })

  module _ (right : IsRight p) (before : (place : ℕ) → place ≢ p.next → found (present q.said) place ≡ found (present p.said) place) where
    -- a refusal
    left_is : q.next ≡ p.next → q ≡ record p { assumed = q.assumed; said = q.said }
    left_is e = others ∙ (λ i. record p { assumed = q.assumed; said = q.said; next = e i })

    pub right_refused : (present q.assumed ≡ present p.assumed) × (q.next ≡ p.next) → IsRight q
    right_refused e = subst IsRight (sym (left_is e.1)) (right_left p right q.assumed q.said e.0 before)

    pub conflict_refused : (k : ℕ) → IsOwnConflict p k → (present q.assumed ≡ present p.assumed) × (q.next ≡ p.next) → IsOwnConflict q k
    conflict_refused k c e = subst (λ (x : Holding). IsOwnConflict x k) (sym (left_is e.1)) (conflict_left p right q.assumed q.said e.0 before k c)

    -- the literal stands
    module _ (a : Assumed) (d : Said) where
      more_is : q.next ≡ p.next + 1 → q ≡ record p { assumed = q.assumed; said = q.said; next = p.next + 1 }
      more_is e = others ∙ (λ i. record p { assumed = q.assumed; said = q.said; next = e i })

      pub conflict_assumed : (k : ℕ) → IsOwnConflict p k → (present q.assumed ≡ put_in p.next a (present p.assumed)) × (q.next ≡ p.next + 1) → IsOwnConflict q k
      conflict_assumed k c e = subst (λ (x : Holding). IsOwnConflict x k) (sym (more_is e.1)) (conflict_put p right q.assumed q.said a d e.0 k c)

      pub right_assumed : (s : Stored) → IsStore s.signature s.nodes → HasTerms p s → all_terms p ≡ terms_in s → AreNamed s (a.lit).formula → Says s a.lit d
          → ((present q.assumed ≡ put_in p.next a (present p.assumed)) × (q.next ≡ p.next + 1)) × (found (present q.said) p.next ≡ Some d) → IsRight q
      right_assumed s store t all names says e =
          subst IsRight (sym (more_is e.0.1))
          (right_put p right q.assumed q.said a d e.0.0 e.1 before
          (λ u h. names_more s u (subst (λ (ts : List Term). Keeps ts (terms_in u)) all h.keeps) (a.lit).formula names)
          (λ u more h. says_more s u store more (h.signature ∙ sym t.signature) (subst (λ (ts : List Term). Keeps ts (terms_in u)) all h.keeps) a.lit names d says))

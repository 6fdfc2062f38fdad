-- Records: a field of a record has the value in its place, and the fields tell the record.
use Rattle.std.specs.Prelude.{Bool, ℕ, zero, suc, ◌+◌, ◌<◌, List, [], ◌∷◌, ◌≡◌, map, length, slice_get, Option, Some}
use mathlib.Core.Path.{refl, sym, ap, ◌∙◌, subst}
use native.Mathlib.Omega.{arith}
use Rattle.ae_base.specs.Options.{or_else}
use Rattle.ae_rules.specs.Lines.{fields_from}
use Rattle.ae_core.specs.declared.terms.Sort.{Sort, Sort-F, out-Sort}
use Rattle.ae_core.specs.declared.terms.Sort.TheOpen as sort_layer
use Rattle.ae_core.specs.declared.terms.Term.{Term, Apply}
use Rattle.ae_core.specs.declared.terms.Head.{Head}
use Rattle.ae_core.specs.declared.terms.Head.TheVariants as head
use Rattle.ae_core.specs.declared.problems.Signature.{Signature}
use Rattle.ae_journal.specs.Values.{Val, fields, nothing, vals, val_at}
use Rattle.ae_journal.specs.Systems.{record_fields, fields_of, field_terms, field_terms_of}
use Rattle.ae_journal.specs.Keys.{Numbering}
use Rattle.ae_journal.specs.Evaluation.{ev, field_at}
use Rattle.ae_evaluation.specs.Shapes.{IsRecordValue}
use Rattle.ae_evaluation.proofs.Linear.{ev-Apply}
use Rattle.ae_journal.specs.declared.systems.System.{System}

val_of_map : (f : Term → Val) (ts : List Term) (i : ℕ) (t : Term) → slice_get ts i ≡ Some t → val_at (vals (map f ts)) i ≡ Some (f t)
val_of_map f [] i t e = absurd (cc)
val_of_map f (u ∷ us) zero t e = let g : u ≡ t = cc in ap (λ v. Some (f v)) g
val_of_map f (u ∷ us) (suc i) t e = val_of_map f us i t e

lists_same : (vs ws : List Val) → length vs ≡ length ws
    → ((i : ℕ) → i < length vs → or_else (val_at (vals vs) i) nothing ≡ or_else (val_at (vals ws) i) nothing) → vs ≡ ws
lists_same [] [] e h = refl
lists_same [] (w ∷ ws) e h = absurd (omega (arith, e))
lists_same (v ∷ vs) [] e h = absurd (omega (arith, e))
lists_same (v ∷ vs) (w ∷ ws) e h = λ i. h 0 (omega arith) i ∷ lists_same vs ws (omega (arith, e)) (λ j p. h (suc j) (omega (arith, p))) i

module _ (sig : Signature) (y : System) (num : Numbering) (reduce : Head → List Sort → List ℕ → List ℕ) (choosing : Bool)
    (assigned : ℕ → Sort → Option Val) where
  pub ev-Field : (n i : ℕ) (ss : List Sort) (t : Term)
      → ev sig y num reduce choosing assigned (Apply (head.Field n i) ss (t ∷ [])) ≡ field_at sig y num reduce choosing
      (ev sig y num reduce choosing assigned t) i
  ev-Field n i ss t = ev-Apply sig y num reduce choosing assigned (head.Field n i) ss (t ∷ [])

  pub field_of_written : (n i : ℕ) (ss : List Sort) (ts : List Term) (t : Term) → slice_get ts i ≡ Some t
      → ev sig y num reduce choosing assigned
      (Apply (head.Field n i) ss (Apply (head.Build n) ss ts ∷ [])) ≡ ev sig y num reduce choosing assigned t
  field_of_written n i ss ts t e =
      ev-Field n i ss (Apply (head.Build n) ss ts) ∙ ap (λ v. field_at sig y num reduce choosing v i)
      (ev-Apply sig y num reduce choosing assigned (head.Build n) ss ts)
      ∙ ap (λ o. or_else o nothing) (val_of_map (ev sig y num reduce choosing assigned) ts i t e)

  each_field : (n : ℕ) (ss : List Sort) (s t : Term) (i k m : ℕ) → m < k
      → map (ev sig y num reduce choosing assigned) (fields_from n ss s i k) ≡ map (ev sig y num reduce choosing assigned)
      (fields_from n ss t i k)
      → field_at sig y num reduce choosing (ev sig y num reduce choosing assigned s) (m + i) ≡ field_at sig y num reduce choosing
      (ev sig y num reduce choosing assigned t) (m + i)
  each_field n ss s t i zero m p e = absurd (omega (arith, p))
  each_field n ss s t i (suc k) zero p e =
      let first : ev sig y num reduce choosing assigned (Apply (head.Field n i) ss (s ∷ [])) ≡ ev sig y num reduce choosing assigned
      (Apply (head.Field n i) ss (t ∷ [])) =
      cc in
      let z : i ≡ zero + i = omega arith in
      subst (λ (j : ℕ). field_at sig y num reduce choosing (ev sig y num reduce choosing assigned s) j ≡ field_at sig y num reduce choosing
      (ev sig y num reduce choosing assigned t) j) z
      (sym (ev-Field n i ss s) ∙ first ∙ ev-Field n i ss t)
  each_field n ss s t i (suc k) (suc m) p e =
      let rest : map (ev sig y num reduce choosing assigned) (fields_from n ss s (suc i) k) ≡ map (ev sig y num reduce choosing assigned)
      (fields_from n ss t (suc i) k) =
      cc in
      let z : m + suc i ≡ suc m + i = omega arith in
      subst (λ (j : ℕ). field_at sig y num reduce choosing (ev sig y num reduce choosing assigned s) j ≡ field_at sig y num reduce choosing
      (ev sig y num reduce choosing assigned t) j) z
      (each_field n ss s t (suc i) k m (omega (arith, p)) rest)

  by_layer : (f : Sort-F Sort) (ss : List Sort) (s t : Term) → fields_of sig f ≡ Some ss
      → map (ev sig y num reduce choosing assigned) (field_terms_of f s (length ss)) ≡ map (ev sig y num reduce choosing assigned)
      (field_terms_of f t (length ss))
      → (m : ℕ) → m < length ss
      → field_at sig y num reduce choosing (ev sig y num reduce choosing assigned s) m ≡ field_at sig y num reduce choosing
      (ev sig y num reduce choosing assigned t) m
  by_layer (sort_layer.Var i) ss s t e h m p = absurd (cc)
  by_layer (sort_layer.Rigid i) ss s t e h m p = absurd (cc)
  by_layer sort_layer.Int ss s t e h m p = absurd (cc)
  by_layer sort_layer.Real ss s t e h m p = absurd (cc)
  by_layer sort_layer.Bool ss s t e h m p = absurd (cc)
  by_layer sort_layer.Unit ss s t e h m p = absurd (cc)
  by_layer (sort_layer.Named n us) ss s t e h m p =
      let z : m + 0 ≡ m = omega arith in
      subst (λ (j : ℕ). field_at sig y num reduce choosing (ev sig y num reduce choosing assigned s) j ≡ field_at sig y num reduce choosing
      (ev sig y num reduce choosing assigned t) j) z
      (each_field n us s t 0 (length ss) m p h)

  pub fields_tell : (o : Sort) (ss : List Sort) (s t : Term) → record_fields sig o ≡ Some ss
      → IsRecordValue ss (ev sig y num reduce choosing assigned s) → IsRecordValue ss (ev sig y num reduce choosing assigned t)
      → map (ev sig y num reduce choosing assigned) (field_terms o s (length ss)) ≡ map (ev sig y num reduce choosing assigned)
      (field_terms o t (length ss))
      → ev sig y num reduce choosing assigned s ≡ ev sig y num reduce choosing assigned t
  fields_tell o ss s t e p q h =
      let each = by_layer (out-Sort o) ss s t e h in
      let long : length p.0 ≡ length q.0 = omega (arith, p.2, q.2) in
      p.1 ∙ ap (λ vs. fields (vals vs)) (lists_same p.0 q.0 long (λ i l.
      ap (λ v. field_at sig y num reduce choosing v i) (sym p.1) ∙ each i (omega (arith, l, p.2)) ∙ ap
      (λ v. field_at sig y num reduce choosing v i) q.1)) ∙ sym q.1

-- No inequality stands in the clauses that formulas without one give.
use Rattle.std.specs.Prelude.{ℕ, Bool, true, false, List, [], ◌∷◌, ◌≡◌, map, Some}
use Rattle.std.specs.List.{AllByRecursion, Contains}
use Rattle.std.proofs.Common.{refl, sym, ap, ◌∙◌, subst}
use Rattle.ae_base.specs.Options.{◌>>=◌}
use Rattle.ae_base.proofs.AllOf.{all_always, all_of_map}
use Rattle.ae_base.proofs.Options.{bind_some, never_some, when_some}
use Rattle.std.proofs.lemmas.Option.{same_Some}
use Rattle.ae_core.specs.Putting.{put_formula}
use Rattle.ae_core.specs.Sorts.{sort_of}
use Rattle.ae_core.specs.declared.formulas.Formula.{Formula, Formula-F, Eq, out-Formula, roll-Formula, roll-out-Formula}
use Rattle.ae_core.specs.declared.formulas.Formula.TheOpen as layer
use Rattle.ae_core.specs.declared.formulas.Formula.TheVariants.{rolls-All, rolls-Ex}
use Rattle.ae_core.specs.declared.formulas.Lit.{Lit}
use Rattle.ae_core.specs.declared.formulas.Quant.{Quant}
use Rattle.ae_core.specs.declared.problems.Signature.{Signature}
use Rattle.ae_core.specs.declared.terms.Head.{Head}
use Rattle.ae_core.specs.declared.terms.Sort.{out-Sort}
use Rattle.ae_core.specs.declared.terms.Term.{Term, Apply}
use Rattle.ae_journal.proofs.RowParts.{literal_part, row_part}
use Rattle.ae_journal.proofs.Splits.{all_contained}
use Rattle.ae_rules.specs.Clauses.{Clause, literal, yes_of, no_of, is_true, is_false, row}
use Rattle.ae_rules.specs.Instances.{have_sorts, instance_clause, count_from, are_numbered, fresh_clause, choices_of, exhaustion}
use Rattle.ae_orderless.specs.Orderless.{is_orderless}
use Rattle.ae_orderless.proofs.Forms.{IsOrderless, orderless_part, orderless_put, orderless_all, orderless_ex, orderless_eq}

abbrev pub HasNoOrder : Lit → Type 0
HasNoOrder l = IsOrderless l.formula

abbrev pub IsOrderlessClause : Clause → Type 0
IsOrderlessClause c = (l : Lit) → Contains c l → HasNoOrder l

pub literal_orderless : (f : Formula) (sign : Bool) → IsOrderless f → HasNoOrder (literal sign f)
literal_orderless f sign w = literal_part IsOrderless orderless_part f w sign

pub row_orderless : (f : Formula) (r : ℕ) (c : Clause) → IsOrderless f → row r f ≡ Some c → IsOrderlessClause c
row_orderless f r c w e = row_part IsOrderless orderless_part f w r c e

same_clause : (c d : Clause) → c ≡ d → AllByRecursion HasNoOrder c → IsOrderlessClause d
same_clause c d e a l i = all_contained HasNoOrder d l (subst (AllByRecursion HasNoOrder) e a) i

-- ---- a block, and its body with terms put
body_of_all : (f : Formula) (q : Quant) → out-Formula f ≡ layer.All q → IsOrderless f → IsOrderless q.body
body_of_all f q o w = sym (orderless_all q) ∙ ap is_orderless (sym (sym (roll-out-Formula f) ∙ ap roll-Formula o ∙ rolls-All q)) ∙ w

body_of_ex : (f : Formula) (q : Quant) → out-Formula f ≡ layer.Ex q → IsOrderless f → IsOrderless q.body
body_of_ex f q o w = sym (orderless_ex q) ∙ ap is_orderless (sym (sym (roll-out-Formula f) ∙ ap roll-Formula o ∙ rolls-Ex q)) ∙ w

with_body : (f : Formula) (q : Quant) (sign turn : Bool) (ts : List Term) → IsOrderless f → IsOrderless q.body
    → AllByRecursion HasNoOrder (record { positive = sign; formula = f } ∷ literal turn (put_formula ts q.body) ∷ [])
with_body f q sign turn ts w b = (w, (literal_orderless (put_formula ts q.body) turn (orderless_put ts q.body 0 ∙ b), tt))

pub instance_orderless : (sig : Signature) (f : Formula) (ts : List Term) (c : Clause) → IsOrderless f → instance_clause sig f ts (out-Formula f) ≡ Some c → IsOrderlessClause c
instance_orderless sig f ts c w e = by_layer (out-Formula f) refl e
  where
    by_layer : (l : Formula-F Formula Quant) → out-Formula f ≡ l → instance_clause sig f ts l ≡ Some c → IsOrderlessClause c
    by_layer (layer.All q) o h =
        let x = when_some (have_sorts sig ts q.sorts) (is_false f ∷ yes_of (put_formula ts q.body) ∷ []) c h in
        same_clause _ c x.1 (with_body f q false true ts w (body_of_all f q o w))
    by_layer (layer.Ex q) o h =
        let x = when_some (have_sorts sig ts q.sorts) (is_true f ∷ no_of (put_formula ts q.body) ∷ []) c h in
        same_clause _ c x.1 (with_body f q true false ts w (body_of_ex f q o w))
    by_layer layer.True o h = never_some c h
    by_layer layer.False o h = never_some c h
    by_layer (layer.Eq x y) o h = never_some c h
    by_layer (layer.Lt x y) o h = never_some c h
    by_layer (layer.Le x y) o h = never_some c h
    by_layer (layer.Pred p ss us) o h = never_some c h
    by_layer (layer.Not x) o h = never_some c h
    by_layer (layer.And x y) o h = never_some c h
    by_layer (layer.Or x y) o h = never_some c h
    by_layer (layer.Xor x y) o h = never_some c h
    by_layer (layer.Iff x y) o h = never_some c h

pub fresh_orderless : (f : Formula) (m : ℕ) (c : Clause) → IsOrderless f → fresh_clause f m (out-Formula f) ≡ Some c → IsOrderlessClause c
fresh_orderless f m c w e = by_layer (out-Formula f) refl e
  where
    by_layer : (l : Formula-F Formula Quant) → out-Formula f ≡ l → fresh_clause f m l ≡ Some c → IsOrderlessClause c
    by_layer (layer.Ex q) o h =
        let x = when_some (are_numbered m q.sorts) (is_false f ∷ yes_of (put_formula (count_from m q.sorts) q.body) ∷ []) c h in
        same_clause _ c x.1 (with_body f q false true (count_from m q.sorts) w (body_of_ex f q o w))
    by_layer (layer.All q) o h =
        let x = when_some (are_numbered m q.sorts) (is_true f ∷ no_of (put_formula (count_from m q.sorts) q.body) ∷ []) c h in
        same_clause _ c x.1 (with_body f q true false (count_from m q.sorts) w (body_of_all f q o w))
    by_layer layer.True o h = never_some c h
    by_layer layer.False o h = never_some c h
    by_layer (layer.Eq x y) o h = never_some c h
    by_layer (layer.Lt x y) o h = never_some c h
    by_layer (layer.Le x y) o h = never_some c h
    by_layer (layer.Pred p ss us) o h = never_some c h
    by_layer (layer.Not x) o h = never_some c h
    by_layer (layer.And x y) o h = never_some c h
    by_layer (layer.Or x y) o h = never_some c h
    by_layer (layer.Xor x y) o h = never_some c h
    by_layer (layer.Iff x y) o h = never_some c h

-- ---- enumerations
abbrev choice : Term → Head → Lit
choice t h = is_true (Eq t (Apply h [] []))

pub choice_orderless : (sig : Signature) (t : Term) (c : Clause) → exhaustion sig t ≡ Some c → IsOrderlessClause c
choice_orderless sig t c e =
    let x = bind_some (sort_of sig t) (λ s. choices_of sig (out-Sort s) >>= λ hs. Some (map (choice t) hs)) c e in
    let y = bind_some (choices_of sig (out-Sort x.0)) (λ hs. Some (map (choice t) hs)) c x.2 in
    same_clause (map (choice t) y.0) c (same_Some (map (choice t) y.0) c y.2)
    (all_of_map HasNoOrder (choice t) y.0 (all_always (λ h. HasNoOrder (choice t h)) (λ h. orderless_eq t (Apply h [] [])) y.0))

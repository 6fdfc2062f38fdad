use Rattle.std.proofs.Common.{◌≡◌, ◌∙◌, ◌++◌, ◌∷◌, [], ℕ, List, Bool, Option, Some, None, length, set, sym, ap, subst}
use Rattle.ae_explain.specs.declared.trail.Assigned.{Assigned}
use Rattle.ae_explain.specs.Assignments.{Assignment, number_in}
use Rattle.ae_explain.specs.Inner.Index.{IsIndex}
use Rattle.ae_explain.specs.Trail.{place_in}
use Rattle.ae_explain.proofs.Valuing.{pushed}
use Rattle.ae_explain.proofs.trail.Trail.assign_numbered.Goals as goal

pub invariant_of-self-2 : goal.invariant_of-self-2
invariant_of-self-2 c =
    let number = number_in c.self.inside.numbers.entries in
    let t = c.self.inside.assigned in
    let standing = c.self.inside.standing in
    let values = c.self.inside.values in
    let places = c.self.inside.places in
    let a = c.args.assigned in
    let n = c.args.number in
    let more = c.set.new.self in
    let wider = c.set-2.new.self in
    let e : number a.lit.formula ≡ Some n = subst (λ (v : Assignment). number_in v.numbers a.lit.formula ≡ Some n) (sym c.self.view_is) c.requires.number in
    let none : place_in t a.lit.formula ≡ None = subst (λ (v : Assignment). place_in v.assigned a.lit.formula ≡ None) (sym c.self.view_is) c.requires.new in
    let placed : wider ≡ set places n (length t) = c.set-2.ensures ∙ ap (set places n) c.len-place.ensures in
    subst (λ (w : List Assigned). IsIndex number w c.push_both.new.standing more wider) (sym c.in_ok-push_both.ensures.ok) (
    subst (λ (w : List ℕ). IsIndex number (t ++ a ∷ []) w more wider) (sym c.in_ok-push_both.ensures.ok_standing) (
    subst (λ (w : List (Option Bool)). IsIndex number (t ++ a ∷ []) (standing ++ n ∷ []) w wider) (sym c.set.ensures) (
    subst (λ (w : List ℕ). IsIndex number (t ++ a ∷ []) (standing ++ n ∷ []) (set values n (Some a.lit.positive)) w) (sym placed) (pushed number t standing values places a n e none c.self.invariant)
    )))

use Rattle.std.proofs.Common.{◌≡◌, ◌≢◌, ◌<◌, ℕ, List, Some, None, length, OnOk, sym, subst, arith}
use Rattle.ae_core.specs.declared.formulas.Formula.{Formula}
use Rattle.ae_explain.specs.Assignments.{Assignment, IsGiven, number_in}
use Rattle.ae_explain.specs.Inner.Index.{IsIndex}
use Rattle.ae_explain.proofs.Valuing.{given_index, is_given, roomier, unused}
use Rattle.ae_explain.proofs.trail.Trail.give_number.Goals as goal
use Rattle.ae_explain.proofs.trail.Trail.give_number.Goals.{in-Ok, in-Err}

pub invariant_of-self-2 : goal.invariant_of-self-2
invariant_of-self-2 c =
    let entries = c.self.inside.numbers.entries in
    let old = number_in entries in
    let new = number_in c.insert.new.self.entries in
    let t = c.self.inside.assigned in
    let standing = c.self.inside.standing in
    let values = c.forget_value.new.values in
    let places = c.add_places.new.places in
    let own = c.args.formula.now in
    let n = c.args.number in
    let none : old own ≡ None = subst (λ (v : Assignment). number_in v.numbers own ≡ None) (sym c.self.view_is) c.requires.new in
    let free : (f : Formula) → old f ≢ Some n = subst (λ (v : Assignment). (f : Formula) → number_in v.numbers f ≢ Some n) (sym c.self.view_is) c.requires.free in
    let wide : IsIndex old t standing c.add_values.new.values places =
    roomier old t standing c.self.inside.values c.add_values.new.values c.self.inside.places places c.add_values.ensures.longer c.add_values.ensures.same c.add_places.ensures.longer c.add_places.ensures.same c.self.invariant in
    let before : IsIndex old t standing values places = unused old t standing c.add_values.new.values values places n free c.forget_value.ensures.room c.forget_value.ensures.others wide in
    let room : n < length values = omega (arith, c.in_ok-add_values.ensures.ok, c.forget_value.ensures.room) in
    elim c.match-insert.branch as (λ _. IsIndex new t standing values places) [
      | in-Ok w ↦
          given_index own n old new (is_given own c.in_ok-copy.copy n old new c.in_ok-copy.ensures w.in-Ok.ensures.updates.0) t standing values places none free room c.in_ok-add_places.ensures.ok c.forget_value.ensures.own before
      | in-Err w ↦ subst (λ (es : List (Formula × ℕ)). IsIndex (number_in es) t standing values places) (sym w.in-Err.ensures.err) before
    ]

pub returns-clause-ok : goal.returns-clause-ok
returns-clause-ok c =
    let own = c.args.formula.now in
    let n = c.args.number in
    let new = number_in c.insert.new.self.entries in
    elim c.match-insert.branch as (λ _. OnOk c.match-insert.result (IsGiven own n (number_in c.args.self.now.numbers) new)) [
      | in-Ok w ↦ subst (λ (r : _). OnOk r (IsGiven own n (number_in c.args.self.now.numbers) new)) (sym w.result-is) (
          subst (λ (v : Assignment). IsGiven own n (number_in v.numbers) new) c.self.view_is
          (is_given own c.in_ok-copy.copy n (number_in c.self.inside.numbers.entries) new c.in_ok-copy.ensures w.in-Ok.ensures.updates.0)
          )
      | in-Err w ↦ subst (λ (r : _). OnOk r (IsGiven own n (number_in c.args.self.now.numbers) new)) (sym w.result-is) tt
    ]

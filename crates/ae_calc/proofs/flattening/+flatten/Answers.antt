use Rattle.std.proofs.Common.{◌≡◌, ◌≢◌, ◌∙◌, ◌++◌, true, false, sym, ap}
use Rattle.ae_rules.specs.Lines.{flat}
use Rattle.ae_core.specs.declared.terms.Term.{Apply}
use Rattle.ae_calc.specs.Inner.LentTerms.{values}
use Rattle.std.proofs.lemmas.Result.{on_ok_weaker}
use Rattle.ae_calc.proofs.Flat.{flat_alone, flat_other_length, flat_inside, flat_other_head, flat_other_sorts, kept, joined}
use Rattle.ae_calc.proofs.flattening.+flatten.Goals as goal
use Rattle.ae_calc.proofs.flattening.+flatten.Goals.{else-parts-eq2-via-then-parts-eq2+then-same_head+else-same_sorts, else-parts-eq2-via-then-parts-eq2+else-same_head, else-parts-eq2-via-else-parts-eq2}

pub returns-in_ok-flatten-in-Apply : goal.returns-in_ok-flatten-in-Apply
returns-in_ok-flatten-in-Apply t c =
    let h = c.args.head in let ss = c.args.sorts.now in let before = c.args.found.now.items in
    let term = c.args.term.now in let args = c.as_slice-parts.result.now in let k = c.in-Apply.own in let us = c.in-Apply.own_sorts in
    let is : term ≡ Apply k us args = c.in-Apply.is ∙ ap (Apply k us) (sym c.as_slice-parts.ensures) in
    let whole =
    flat_inside h ss term k us args c.index-parts-0.result c.index-parts-1.result is c.if-parts-eq2.true c.index-parts-0.is c.index-parts-1.is
    (c.same_head.ensures.0 c.if-same_head.true) (c.same_sorts.ensures.0 c.if-same_sorts.true ∙ c.as_slice.ensures) in
    let middle = values c.flatten.new.found.items in let after = values c.flatten-then-same_sorts.new.found.items in
    on_ok_weaker {P = after ≡ middle ++ flat h ss c.index-parts-1.result} {Q = after ≡ values before ++ flat h ss term} c.flatten-then-same_sorts.result
    (joined h ss before middle after term c.index-parts-0.result c.index-parts-1.result whole c.in_ok-flatten-in-Apply.ensures) c.flatten-then-same_sorts.ensures

pub returns-in_ok-push-in-Apply : goal.returns-in_ok-push-in-Apply
returns-in_ok-push-in-Apply t c =
    let h = c.args.head in let ss = c.args.sorts.now in let term = c.args.term.now in let args = c.as_slice-parts.result.now in let k = c.in-Apply.own in let us = c.in-Apply.own_sorts in
    let is : term ≡ Apply k us args = c.in-Apply.is ∙ ap (Apply k us) (sym c.as_slice-parts.ensures) in
    kept h ss c.args.found.now.items c.push.new.self.items c.args.term c.in_ok-push-in-Apply.ensures.items
    (elim c.else-parts-eq2.branch [
      | else-parts-eq2-via-then-parts-eq2+then-same_head+else-same_sorts w ↦
          let other : ss ≢ us = λ e. let p : true ≡ false = sym (w.same_sorts.ensures.1 (e ∙ sym w.as_slice.ensures)) ∙ w.if-same_sorts.false in cc p in
          flat_other_sorts h ss term k us args is w.if-parts-eq2.true other
      | else-parts-eq2-via-then-parts-eq2+else-same_head w ↦
          let other : h ≢ k = λ e. let p : true ≡ false = sym (w.same_head.ensures.1 e) ∙ w.if-same_head.false in cc p in
          flat_other_head h ss term k us args is w.if-parts-eq2.true other
      | else-parts-eq2-via-else-parts-eq2 w ↦ flat_other_length h ss term k us args is w.if-parts-eq2.false
    ])

pub returns-in_ok-push-in_default : goal.returns-in_ok-push-in_default
returns-in_ok-push-in_default t c =
    kept c.args.head c.args.sorts.now c.args.found.now.items c.push-in_default.new.self.items c.args.term c.in_ok-push-in_default.ensures.items (flat_alone c.args.head c.args.sorts.now c.args.term.now c.in_default.not-Apply)

use Rattle.std.proofs.lemmas.Result.{err_from_is_err_and}
use Rattle.ae_core.specs.declared.terms.Sort.{Sort}
use Rattle.ae_elab.specs.declared.grounds.Ground.TheVariants.{Free}
use Rattle.ae_elab.specs.Conditions.{has_sort}
use Rattle.ae_elab.specs.Rules.{Rule, Typed, give, typed, ◌⇒◌}
use Rattle.ae_elab.specs.Scope.{Scope}
use Rattle.ae_elab.specs.Typings.{locals_of}
use Rattle.ae_elab.specs.WrittenTypes.{type_rule}
use Rattle.ae_elab.proofs.TypingLaws.{with_bindings, with_passing, walks_give, walks_then, walks_demand, walks_taken, stops_first, stops_later, stops_demand, stops_halted}
use Rattle.ae_elab.proofs.term_steps.ascribed.Goals as goal

pub returns-in_err-sort : goal.returns-in_err-sort
returns-in_err-sort c x h =
    let d = c.args.context.now in
    let old = c.args.typing.now in
    let e = c.in_err-sort.field-0.0 in
    let r : Scope → Rule Sort = λ sc. type_rule c.args.written.now Free sc in
    let f : Scope → Sort → Rule Typed = λ sc s. has_sort c.args.place s c.args.inner.sort ⇒ give (typed x s) in
    let p = err_from_is_err_and c.from_residual.result c.from_residual.ensures.1 in
    rw (p.1, p.2) (stops_first d r f old e (stops_halted d r old e (c.in_err-sort.ensures.fault (locals_of old))))

pub returns-in_err-has_sort : goal.returns-in_err-has_sort
returns-in_err-has_sort c x h =
    let d = c.args.context.now in
    let old = c.args.typing.now in
    let mid = with_passing c.sort_of.new.passing old in
    let e = c.in_err-has_sort.field-0.0 in
    let s = c.in_ok-sort.sort in
    let r : Scope → Rule Sort = λ sc. type_rule c.args.written.now Free sc in
    let f : Scope → Sort → Rule Typed = λ sc s. has_sort c.args.place s c.args.inner.sort ⇒ give (typed x s) in
    let p = err_from_is_err_and c.from_residual-in_err-has_sort.result c.from_residual-in_err-has_sort.ensures.1 in
    rw (p.1, p.2) (stops_later d r f old mid s e (walks_taken d r old c.sort_of.new.passing s (c.in_ok-sort.ensures.sort (locals_of old)))
    (stops_demand d (λ sc. has_sort c.args.place s c.args.inner.sort) (λ sc. give (typed x s)) mid e c.in_err-has_sort.ensures.fault))

pub returns : goal.returns
returns c x h =
    let d = c.args.context.now in
    let old = c.args.typing.now in
    let mid = with_passing c.sort_of.new.passing old in
    let new = with_bindings c.has_sort.new.bindings mid in
    let s = c.in_ok-sort.sort in
    let r : Scope → Rule Sort = λ sc. type_rule c.args.written.now Free sc in
    let f : Scope → Sort → Rule Typed = λ sc s. has_sort c.args.place s c.args.inner.sort ⇒ give (typed x s) in
    record {
      tree = x;
      stands = h;
      walks = walks_then d r f old mid new s (typed x s) (walks_taken d r old c.sort_of.new.passing s (c.in_ok-sort.ensures.sort (locals_of old)))
          (walks_demand d (λ sc. has_sort c.args.place s c.args.inner.sort) (λ sc. give (typed x s)) mid c.has_sort.new.bindings new (typed x s) c.in_ok-has_sort.ensures.met (walks_give d new (typed x s)));
    }

use Rattle.std.proofs.Common.{◌≡◌, ◌∙◌, refl, sym, ap, subst, arith, length, get_or, Some}
use Rattle.ae_check.specs.Inner.Coding as spec
use Rattle.ae_check.specs.Inner.Coding.{AreBefore}
use Rattle.ae_check.proofs.Coding.{before_all_stamped, all_stamped_size, advanced_size, advanced_before}
use Rattle.ae_check.proofs.Stepping.{refutes_on}
use Rattle.ae_check.proofs.propagation.refutes.Goals as goal

pub loop-i-init : goal.loop-i-init
loop-i-init c =
    let now = c.args.now in let old = c.args.stamps.now.items in let ks = c.args.codes.now in
    record {
      count = refl;
      answer = ap (λ s. spec.refutes now s c.args.clauses.now c.args.hints.now) c.falsify.ensures;
      size = ap length c.falsify.ensures ∙ all_stamped_size now old ks;
      before = λ m l a. subst (AreBefore m) (sym c.falsify.ensures) (before_all_stamped now m old ks l a);
    }

pub loop-i-preserved : goal.loop-i-preserved
loop-i-preserved c =
    let now = c.args.now in let hs = c.args.hints.now in let i = c.loop-i.i in let s = c.loop-i.stamps.items in let new = c.propagate.new.stamps.items in
    let e : spec.advanced now s c.args.clauses.now (get_or hs i 0) ≡ Some new = c.if-not-propagate.ensures in
    let t = c.loop-i-test.true in
    record {
      count = refl;
      answer = sym (refutes_on now c.args.clauses.now s new hs i 0 (omega (arith, t)) e) ∙ c.loop-i.invariant.answer;
      size = advanced_size now s c.args.clauses.now (get_or hs i 0) new e ∙ c.loop-i.invariant.size;
      before = λ m l a. advanced_before now m s c.args.clauses.now (get_or hs i 0) new l (c.loop-i.invariant.before m l a) e;
    }

use Rattle.std.proofs.Common.{rules, ◌≡◌, ◌≢◌, ◌≤◌, take, length, get_or, subst, arith}
use Rattle.ae_separator.proofs.Scanning.{at_end, begun, ends_at, goes_on_at, not_parted, parted_at, parted_at_the_end}
use Rattle.ae_separator.specs.Inner.Scans.{Scanned, line_with}
use Rattle.ae_separator.specs.declared.separator.Line.TheVariants.{TwoSigns}
use Rattle.ae_separator.proofs.separator.parting.Goals as goal

pub loop-at-init : goal.loop-at-init
loop-at-init c = (begun, omega arith)

pub loop-at-preserved-then-byte-ne10 : goal.loop-at-preserved-then-byte-ne10
loop-at-preserved-then-byte-ne10 c =
    let other : get_or c.args.input.now c.loop-at.at 0 ≢ 10 = search rules in
    let is : c.longer-line.result ≡ line_with c.loop-at.line (get_or c.args.input.now c.loop-at.at 0) = search rules in
    let low = c.loop-at.invariant.1 in (
      rw is (goes_on_at c.args.input.now c.loop-at.at c.loop-at.begin c.loop-at.line c.loop-at-test.true other c.loop-at.invariant.0),
      omega (arith, low),
    )

pub returns-then-eq-clause-found : goal.returns-then-eq-clause-found
returns-then-eq-clause-found c =
    let two : c.loop-at.line ≡ TwoSigns = search rules in
    let end : get_or c.args.input.now c.loop-at.at 0 ≡ 10 = search rules in
    parted_at c.args.input.now c.loop-at.at c.loop-at.begin c.loop-at-test.true end (subst (Scanned (take c.loop-at.at c.args.input.now) c.loop-at.begin) two c.loop-at.invariant.0)

pub loop-at-preserved : goal.loop-at-preserved
loop-at-preserved c =
    let other : c.loop-at.line ≢ TwoSigns = search rules in
    let end : get_or c.args.input.now c.loop-at.at 0 ≡ 10 = search rules in
    (ends_at c.args.input.now c.loop-at.at c.loop-at.begin c.loop-at.line c.loop-at-test.true end other c.loop-at.invariant.0, omega arith)

pub returns-then-eq-2-clause-found : goal.returns-then-eq-2-clause-found
returns-then-eq-2-clause-found c =
    let two : c.loop-at.line ≡ TwoSigns = search rules in
    let all : length c.args.input.now ≤ c.loop-at.at = search rules in
    parted_at_the_end c.args.input.now c.loop-at.at c.loop-at.begin all (subst (Scanned (take c.loop-at.at c.args.input.now) c.loop-at.begin) two c.loop-at.invariant.0)

pub returns-clause-none : goal.returns-clause-none
returns-clause-none c =
    let other : c.loop-at.line ≢ TwoSigns = search rules in
    let all : length c.args.input.now ≤ c.loop-at.at = search rules in
    not_parted c.args.input.now c.loop-at.begin c.loop-at.line other (at_end c.args.input.now c.loop-at.at c.loop-at.begin c.loop-at.line all c.loop-at.invariant.0)

use Rattle.std.proofs.Common.{arith, refl, ap, ◌∙◌, subst, unsigned_abs, [], ◌∷◌, ◌+◌}
use Rattle.std.specs.Int.{IsGcd}
use Rattle.ae_valuereader.proofs.Divides.{gcd_of_two, gcd_positive, gcd_some}
use Rattle.ae_valuereader.proofs.FormReading.{parts_begin, parts_faulty, parts_end, parts_go_on, whole_back}
use Rattle.ae_valuereader.proofs.parts.read_parts.Goals as goal

pub parts-init : goal.parts-init
parts-init c = (
  omega arith,
  λ l. l,
  gcd_some c.args.den c.gcd-divisor.result (c.args.size ∷ []) c.requires (gcd_of_two c.args.den c.args.size c.gcd-divisor.result c.gcd-divisor.ensures),
  λ some. parts_begin c.args.den some c.args.size c.args.text.now c.args.from c.gcd-divisor.result c.new-parts.result c.gcd-divisor.ensures c.new-parts.ensures,
)

pub returns-in-Err-clause-read : goal.returns-in-Err-clause-read
returns-in-Err-clause-read c =
    parts_faulty c.args.den c.requires c.args.size c.args.text.now c.args.from c.parts.divisor c.parts.low c.parts.at c.parts.parts (c.parts.invariant.3 c.requires) c.in-Err.fault c.in-Err.ensures.read

pub returns-then-close-ne32-clause-read : goal.returns-then-close-ne32-clause-read
returns-then-close-ne32-clause-read c =
    parts_end c.args.den c.requires c.args.size c.args.text.now c.args.from c.parts.divisor c.parts.low c.parts.at c.parts.parts (c.parts.invariant.3 c.requires)
    c.in-Ok.found.0 c.in-Ok.found.1 c.push.new.self c.in-Ok.ensures.read c.if-close-ne32.true c.in_default.ensures.ok

pub parts-preserved : goal.parts-preserved
parts-preserved c =
    let low = c.parts.invariant.0 in
    let ahead = c.in-Ok.ensures.ahead.0 in (
      omega arith,
      λ l. c.in-Ok.ensures.ahead.1,
      gcd_positive c.parts.divisor c.size_of.result c.gcd-divisor-in-parts.result c.parts.invariant.2 c.gcd-divisor-in-parts.ensures,
      λ some. parts_go_on c.args.den some c.args.size c.args.text.now c.args.from c.parts.divisor c.parts.low c.parts.at c.parts.parts (c.parts.invariant.3 some)
          c.in-Ok.found.0 c.in-Ok.found.1 c.gcd-divisor-in-parts.result (c.in-Ok.found.0.0.key + 1) c.push.new.self c.in-Ok.ensures.read c.if-close-ne32.false
          (c.in-Ok.ensures.below c.if-close-ne32.false) c.in_default.ensures.ok
          (subst (λ n. IsGcd c.parts.divisor n c.gcd-divisor-in-parts.result) (c.size_of.ensures ∙ ap unsigned_abs (whole_back c.in-Ok.found.0.0.factor c.in-Ok.ensures.range)) c.gcd-divisor-in-parts.ensures) refl,
    )

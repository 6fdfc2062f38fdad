use Rattle.std.proofs.Common.{◌<◌, sym, subst, suc, length, arith}
use Rattle.ae_rules.specs.Linear.{ruled}
use Rattle.ae_store.specs.Shapes.{shapes}
use Rattle.ae_store.specs.Terms.{terms, named}
use Rattle.ae_constants.specs.Forms.{meaning, IsExact}
use Rattle.ae_constants.specs.Rules.{standing_for}
use Rattle.ae_constants.specs.Tables.{with_form}
use Rattle.ae_constants.proofs.TableLaws.{count_terms, head_of_name}
use Rattle.ae_constants.proofs.table.applied.Goals as goal

pub returns-in_ok-whole-in-Opaque : goal.returns-in_ok-whole-in-Opaque
returns-in_ok-whole-in-Opaque c =
    let ts = terms (shapes c.args.store.now.nodes) in
    let n = length c.args.earlier.now in
    subst (λ k. IsExact ts (suc n) (ruled (named ts n) (standing_for (with_form ts) k)) (meaning c.in_ok-whole-in-Opaque.whole)) (sym c.in-Opaque.is)
    (c.in_ok-whole-in-Opaque.ensures ts (suc n) (omega arith))

pub returns-in_ok-product-in-Product : goal.returns-in_ok-product-in-Product
returns-in_ok-product-in-Product c =
    let ts = terms (shapes c.args.store.now.nodes) in
    let n = length c.args.earlier.now in
    let inside : n < length ts = omega (arith, c.requires.inside, count_terms c.args.store.now.nodes) in
    subst (λ k. IsExact ts (suc n) (ruled (named ts n) (standing_for (with_form ts) k)) (meaning c.in_ok-product-in-Product.product)) (sym c.in-Product.is)
    (c.in_ok-product-in-Product.ensures ts c.requires.store.sound.one_name inside c.requires.forms)

pub returns-in_ok-quotient-in-Quotient : goal.returns-in_ok-quotient-in-Quotient
returns-in_ok-quotient-in-Quotient c =
    let ts = terms (shapes c.args.store.now.nodes) in
    let n = length c.args.earlier.now in
    let by = head_of_name c.args.store.now.signature c.args.store.now.nodes c.requires.store c.in-Quotient.by c.node-divisor.result.now c.node-divisor.ensures.node in
    subst (λ k. IsExact ts (suc n) (ruled (named ts n) (standing_for (with_form ts) k)) (meaning c.in_ok-quotient-in-Quotient.quotient)) (sym c.in-Quotient.is)
    (c.in_ok-quotient-in-Quotient.ensures ts (named ts c.in-Quotient.by) by c.requires.forms)

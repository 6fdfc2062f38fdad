use Rattle.std.proofs.Common.{◌+◌, List, ℕ, ◌∷◌, drop, ap, sym, ◌∙◌, arith}
use Rattle.std.proofs.lemmas.List.{drop_all, drop_more}
use Rattle.ae_parts.proofs.PartReading.{parts_end, parts_fail, parts_on}
use Rattle.ae_parts.proofs.goals.read_all.Goals as goal

pub returns-in-Err-clause-read : goal.returns-in-Err-clause-read
returns-in-Err-clause-read c =
    let sig = c.args.tables.now.terms.signature.now in
    let xs = c.args.names.now in
    let i = c.loop-name.name-index in
    let x = c.name-item.result in
    parts_fail sig xs c.args.text.now (drop i xs) c.loop-name.at c.loop-name.parts c.loop-name.invariant.1 x (drop (i + 1) xs)
    (drop_more xs i x c.loop-name-test.true ∙ ap (λ (z : List ℕ). z ∷ drop (i + 1) xs) (sym c.name-item.is)) c.in-Err.fault c.in-Err.ensures.read

pub loop-name-preserved : goal.loop-name-preserved
loop-name-preserved c =
    let sig = c.args.tables.now.terms.signature.now in
    let xs = c.args.names.now in
    let i = c.loop-name.name-index in
    let x = c.name-item.result in (
      c.in-Ok.ensures.ahead.1,
      parts_on sig xs c.args.text.now (drop i xs) c.loop-name.at c.loop-name.parts c.loop-name.invariant.1 x (drop (i + 1) xs)
          (drop_more xs i x c.loop-name-test.true ∙ ap (λ (z : List ℕ). z ∷ drop (i + 1) xs) (sym c.name-item.is)) c.in-Ok.found.0 c.in-Ok.found.1 c.push.new.self
          c.in-Ok.ensures.read c.in_default.ensures.ok,
    )

pub returns-clause-read : goal.returns-clause-read
returns-clause-read c =
    let xs = c.args.names.now in
    let i = c.loop-name.name-index in
    parts_end c.args.tables.now.terms.signature.now xs c.args.text.now (drop i xs) c.loop-name.at c.loop-name.parts c.loop-name.invariant.1
    (drop_all i xs (let t = c.loop-name-test.false in omega (arith, t)))

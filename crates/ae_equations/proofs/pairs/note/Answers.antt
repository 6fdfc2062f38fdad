use Rattle.std.specs.Prelude.{◌∷◌, []}
use Rattle.std.proofs.Common.{refl}
use Rattle.ae_pmap.specs.Forest.{present}
use Rattle.ae_equations.specs.declared.pairs.Link.{Link}
use Rattle.ae_equations.proofs.ChainLaws.{partners_kept, noted_behind, noted_more, partners_more, partners_others}
use Rattle.ae_equations.proofs.QueueLaws.{on_err_always}
use Rattle.ae_equations.proofs.pairs.note.Goals as goal

pub returns-in_err-insert-clause-noted : goal.returns-in_err-insert-clause-noted
returns-in_err-insert-clause-noted c =
    let l : Link = record { number = c.args.second; next = c.head_in-next.result } in
    noted_behind c.args.pairs.now (record { heads = c.insert.new.self; links = c.push.new.self }) l c.requires.noted c.head_in-next.ensures.within c.in_err-insert.ensures.err c.in_ok-push.ensures.ok

pub returns-in_err-insert-clause-others : goal.returns-in_err-insert-clause-others
returns-in_err-insert-clause-others c = λ n d.
    let l : Link = record { number = c.args.second; next = c.head_in-next.result } in
    partners_kept c.args.pairs.now c.push.new.self (l ∷ []) (present c.insert.new.self) c.requires.noted c.in_ok-push.ensures.ok c.in_err-insert.ensures.err n

pub returns-in_err-insert-clause-err : goal.returns-in_err-insert-clause-err
returns-in_err-insert-clause-err c =
    let l : Link = record { number = c.args.second; next = c.head_in-next.result } in
    on_err_always c.from_residual-in_err-insert.result (λ n. partners_kept c.args.pairs.now c.push.new.self (l ∷ []) (present c.insert.new.self) c.requires.noted c.in_ok-push.ensures.ok c.in_err-insert.ensures.err n)

pub returns-in_err-insert-clause-grows : goal.returns-in_err-insert-clause-grows
returns-in_err-insert-clause-grows c = ((record { number = c.args.second; next = c.head_in-next.result }) ∷ [], c.in_ok-push.ensures.ok)

pub returns-clause-noted : goal.returns-clause-noted
returns-clause-noted c =
    let l : Link = record { number = c.args.second; next = c.head_in-next.result } in
    noted_more c.args.pairs.now (record { heads = c.insert.new.self; links = c.push.new.self }) c.args.first c.args.second l c.requires.noted refl c.head_in-next.ensures.head c.in_ok-push.ensures.ok c.len.result c.len.ensures
    c.in_ok-insert.ensures.at

pub returns-clause-ok : goal.returns-clause-ok
returns-clause-ok c =
    let l : Link = record { number = c.args.second; next = c.head_in-next.result } in
    partners_more c.args.pairs.now (record { heads = c.insert.new.self; links = c.push.new.self }) c.args.first c.args.second l c.requires.noted refl c.head_in-next.ensures.head c.in_ok-push.ensures.ok c.len.result c.len.ensures
    c.in_ok-insert.ensures.at

pub returns-clause-others : goal.returns-clause-others
returns-clause-others c =
    let l : Link = record { number = c.args.second; next = c.head_in-next.result } in
    partners_others c.args.pairs.now (record { heads = c.insert.new.self; links = c.push.new.self }) c.args.first c.args.second l c.requires.noted refl c.head_in-next.ensures.head c.in_ok-push.ensures.ok c.len.result c.len.ensures
    c.in_ok-insert.ensures.at

pub returns-clause-grows : goal.returns-clause-grows
returns-clause-grows c = ((record { number = c.args.second; next = c.head_in-next.result }) ∷ [], c.in_ok-push.ensures.ok)

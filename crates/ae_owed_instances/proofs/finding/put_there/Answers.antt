use Rattle.std.proofs.Common.{sym, ◌∙◌, subst}
use Rattle.std.proofs.lemmas.Option.{same_Some}
use Rattle.ae_owed_instances.proofs.Lists.{read_at}
use Rattle.ae_owed_instances.specs.Inner.Passing.{IsThere}
use Rattle.ae_owed_instances.proofs.finding.put_there.Goals as goal

pub returns-then-not-is_there-clause-none : goal.returns-then-not-is_there-clause-none
returns-then-not-is_there-clause-none c = λ z w at there.
    let here = read_at c.args.search.now.owners c.as_slice.result.now c.args.place c.index-as_slice-place.result c.as_slice.ensures c.requires.within c.index-as_slice-place.is in
    absurd (c.if-not-is_there.ensures (subst (IsThere c.args.search.now) (same_Some w c.index-as_slice-place.result (sym at ∙ here)) there))

pub put_owed-requires-clause-there : goal.put_owed-requires-clause-there
put_owed-requires-clause-there c = λ w at.
    let here = read_at c.args.search.now.owners c.as_slice.result.now c.args.place c.index-as_slice-place.result c.as_slice.ensures c.requires.within c.index-as_slice-place.is in
    subst (IsThere c.args.search.now) (same_Some c.index-as_slice-place.result w (sym here ∙ at)) c.if-not-is_there.ensures

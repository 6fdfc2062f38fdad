use Rattle.std.specs.Prelude.{List, length}
use Rattle.std.proofs.Common.{sym, ap, ◌∙◌, subst}
use Rattle.ae_store.specs.Growing.{IsFront}
use Rattle.ae_store.specs.Shapes.{shapes}
use Rattle.ae_store.specs.Terms.{terms}
use Rattle.ae_store.proofs.EnterLaws.{front_same}
use Rattle.ae_value_table.specs.declared.patterns.Entry.{Entry}
use Rattle.ae_value_table.specs.Table.{Contents}
use Rattle.ae_patterns.specs.Patterns.{AreEntriesOf}
use Rattle.ae_take_in.proofs.Fronts.{same_as, numbers_same, leaves_same, said_held}
use Rattle.ae_take_in.proofs.Ends.{same_refused, if_wide, as_before, first_entered, below_before, said_before, width_again, values_again, values_kept_again, final_values_kept, said_again, sources_again, final_patterns, final_values, final_said, final_sources, final_kept, final_own, final_err}
use Rattle.ae_take_in.proofs.taking.take_in.Goals as goal

-- ---- where memory is refused before
pub returns-in_err-enter_all-clause-values : goal.returns-in_err-enter_all-clause-values
returns-in_err-enter_all-clause-values c =
    let s = c.args.store.now in
    let v = c.args.values.now in
    let d : Contents = c.enter_all.new.values in
    values_again v d (as_before v c.len-taken.ensures.within d c.enter_all.ensures.others c.enter_all.ensures.front) s.signature (terms (shapes s.nodes)) c.requires.values

pub returns-in_err-enter_all-clause-said : goal.returns-in_err-enter_all-clause-said
returns-in_err-enter_all-clause-said c =
    let s = c.args.store.now in
    let v = c.args.values.now in
    let d : Contents = c.enter_all.new.values in
    let js = c.args.justs.now in
    said_again v d (as_before v c.len-taken.ensures.within d c.enter_all.ensures.others c.enter_all.ensures.front) s.signature (terms (shapes s.nodes)) js js (front_same js) c.requires.said

pub returns-in_err-enter_all-clause-sources : goal.returns-in_err-enter_all-clause-sources
returns-in_err-enter_all-clause-sources c =
    let s = c.args.store.now in
    let v = c.args.values.now in
    let d : Contents = c.enter_all.new.values in
    let js = c.args.justs.now in
    let same = as_before v c.len-taken.ensures.within d c.enter_all.ensures.others c.enter_all.ensures.front in
    sources_again v d same s.signature (terms (shapes s.nodes)) js js (front_same js) c.requires.fits (said_held v s.signature (terms (shapes s.nodes)) js c.requires.said)

pub returns-in_err-enter_all-clause-unchanged : goal.returns-in_err-enter_all-clause-unchanged
returns-in_err-enter_all-clause-unchanged c = λ n l.
    let v = c.args.values.now in
    let d : Contents = c.enter_all.new.values in
    let same = same_as v d (as_before v c.len-taken.ensures.within d c.enter_all.ensures.others c.enter_all.ensures.front) in
    (numbers_same v d same n, leaves_same v d same n)

pub returns-in_err-enter_all-clause-kept : goal.returns-in_err-enter_all-clause-kept
returns-in_err-enter_all-clause-kept c =
    let s = c.args.store.now in
    let v = c.args.values.now in
    let d : Contents = c.enter_all.new.values in
    values_kept_again v d (as_before v c.len-taken.ensures.within d c.enter_all.ensures.others c.enter_all.ensures.front) s.signature (terms (shapes s.nodes))

pub returns-in_err-enter_all-clause-err : goal.returns-in_err-enter_all-clause-err
returns-in_err-enter_all-clause-err c =
    let v = c.args.values.now in
    same_refused c.from_residual.result c.enter_all.new.values v (as_before v c.len-taken.ensures.within c.enter_all.new.values c.enter_all.ensures.others c.enter_all.ensures.front)

pub returns-in_err-enter_all-clause-front : goal.returns-in_err-enter_all-clause-front
returns-in_err-enter_all-clause-front c = front_same c.args.justs.now

-- ---- names are taken in one after another
pub take_counted-requires-clause-first : goal.take_counted-requires-clause-first
take_counted-requires-clause-first c =
    let s = c.args.store.now in
    let v = c.args.values.now in
    first_entered v c.len-taken.ensures.within c.enter_all.new.values c.enter_all.ensures.others c.enter_all.ensures.front s.signature s.nodes c.len-names.ensures.store c.requires.entries c.values_of_a_system_are_first.ensures c.requires.values

pub take_counted-requires-clause-below : goal.take_counted-requires-clause-below
take_counted-requires-clause-below c =
    let s = c.args.store.now in
    let v = c.args.values.now in
    below_before v c.len-taken.ensures.within c.enter_all.new.values c.enter_all.ensures.others c.enter_all.ensures.front s.signature (terms (shapes s.nodes)) c.args.justs.now c.requires.said

pub take_counted-requires-clause-said : goal.take_counted-requires-clause-said
take_counted-requires-clause-said c =
    let s = c.args.store.now in
    let v = c.args.values.now in
    said_before v c.len-taken.ensures.within c.enter_all.new.values c.enter_all.ensures.others c.enter_all.ensures.front s.signature (terms (shapes s.nodes)) c.args.justs.now c.requires.said

pub returns-clause-patterns : goal.returns-clause-patterns
returns-clause-patterns c =
    let s = c.args.store.now in
    let v = c.args.values.now in
    let d : Contents = c.enter_all.new.values in
    final_patterns c.take_counted.result s.signature s.nodes c.len-names.ensures.store v d c.take_counted.new.values (as_before v c.len-taken.ensures.within d c.enter_all.ensures.others c.enter_all.ensures.front) c.args.justs.now c.take_counted.new.justs c.take_counted.ensures.front
    (subst (AreEntriesOf s.signature (terms (shapes s.nodes))) (sym c.take_counted.ensures.entries) c.enter_all.ensures.entries)
    (ap (λ (es : List Entry). length es) c.take_counted.ensures.entries ∙ c.in_ok-enter_all.ensures.all) c.take_counted.ensures.taken c.take_counted.ensures.all c.take_counted.ensures.err
    c.entries_of_all_names_fit.ensures

pub returns-clause-values : goal.returns-clause-values
returns-clause-values c =
    let s = c.args.store.now in
    let v = c.args.values.now in
    let d : Contents = c.enter_all.new.values in
    final_values c.take_counted.result s.signature s.nodes c.len-names.ensures.store v d c.take_counted.new.values (as_before v c.len-taken.ensures.within d c.enter_all.ensures.others c.enter_all.ensures.front) c.args.justs.now c.take_counted.new.justs c.take_counted.ensures.front
    (subst (AreEntriesOf s.signature (terms (shapes s.nodes))) (sym c.take_counted.ensures.entries) c.enter_all.ensures.entries)
    (ap (λ (es : List Entry). length es) c.take_counted.ensures.entries ∙ c.in_ok-enter_all.ensures.all) c.take_counted.ensures.taken c.take_counted.ensures.all c.take_counted.ensures.err
    c.first_values_of_all_names_are_a_systems.ensures c.requires.values

pub returns-clause-said : goal.returns-clause-said
returns-clause-said c =
    let s = c.args.store.now in
    let v = c.args.values.now in
    let d : Contents = c.enter_all.new.values in
    final_said c.take_counted.result s.signature s.nodes c.len-names.ensures.store v d c.take_counted.new.values (as_before v c.len-taken.ensures.within d c.enter_all.ensures.others c.enter_all.ensures.front) c.args.justs.now c.take_counted.new.justs c.take_counted.ensures.front
    (subst (AreEntriesOf s.signature (terms (shapes s.nodes))) (sym c.take_counted.ensures.entries) c.enter_all.ensures.entries)
    (ap (λ (es : List Entry). length es) c.take_counted.ensures.entries ∙ c.in_ok-enter_all.ensures.all) c.take_counted.ensures.taken c.take_counted.ensures.all c.take_counted.ensures.err c.requires.said

pub returns-clause-sources : goal.returns-clause-sources
returns-clause-sources c =
    let s = c.args.store.now in
    let v = c.args.values.now in
    let d : Contents = c.enter_all.new.values in
    final_sources c.take_counted.result s.signature s.nodes c.len-names.ensures.store v d c.take_counted.new.values (as_before v c.len-taken.ensures.within d c.enter_all.ensures.others c.enter_all.ensures.front) c.args.justs.now c.take_counted.new.justs c.take_counted.ensures.front
    (subst (AreEntriesOf s.signature (terms (shapes s.nodes))) (sym c.take_counted.ensures.entries) c.enter_all.ensures.entries)
    (ap (λ (es : List Entry). length es) c.take_counted.ensures.entries ∙ c.in_ok-enter_all.ensures.all) c.take_counted.ensures.taken c.take_counted.ensures.all c.take_counted.ensures.err
    c.take_counted.ensures.fits (said_held v s.signature (terms (shapes s.nodes)) c.args.justs.now c.requires.said)

pub returns-clause-unchanged : goal.returns-clause-unchanged
returns-clause-unchanged c =
    let s = c.args.store.now in
    let v = c.args.values.now in
    let d : Contents = c.enter_all.new.values in
    final_kept c.take_counted.result s.signature s.nodes c.len-names.ensures.store v d c.take_counted.new.values (as_before v c.len-taken.ensures.within d c.enter_all.ensures.others c.enter_all.ensures.front) c.args.justs.now c.take_counted.new.justs c.take_counted.ensures.front
    (subst (AreEntriesOf s.signature (terms (shapes s.nodes))) (sym c.take_counted.ensures.entries) c.enter_all.ensures.entries)
    (ap (λ (es : List Entry). length es) c.take_counted.ensures.entries ∙ c.in_ok-enter_all.ensures.all) c.take_counted.ensures.taken c.take_counted.ensures.all c.take_counted.ensures.err

pub returns-clause-kept : goal.returns-clause-kept
returns-clause-kept c =
    let s = c.args.store.now in
    let v = c.args.values.now in
    let d : Contents = c.enter_all.new.values in
    final_values_kept c.take_counted.result s.signature s.nodes c.len-names.ensures.store v d c.take_counted.new.values (as_before v c.len-taken.ensures.within d c.enter_all.ensures.others c.enter_all.ensures.front) c.args.justs.now c.take_counted.new.justs c.take_counted.ensures.front
    (subst (AreEntriesOf s.signature (terms (shapes s.nodes))) (sym c.take_counted.ensures.entries) c.enter_all.ensures.entries)
    (ap (λ (es : List Entry). length es) c.take_counted.ensures.entries ∙ c.in_ok-enter_all.ensures.all) c.take_counted.ensures.taken c.take_counted.ensures.all c.take_counted.ensures.err
    c.len-taken.ensures.within c.requires.entries (subst (IsFront v.entries) (sym c.take_counted.ensures.entries) c.enter_all.ensures.front) c.requires.values

pub returns-clause-own : goal.returns-clause-own
returns-clause-own c =
    let s = c.args.store.now in
    let v = c.args.values.now in
    let d : Contents = c.enter_all.new.values in
    final_own c.take_counted.result s.signature s.nodes c.len-names.ensures.store v d c.take_counted.new.values (as_before v c.len-taken.ensures.within d c.enter_all.ensures.others c.enter_all.ensures.front) c.args.justs.now c.take_counted.new.justs c.take_counted.ensures.front
    (subst (AreEntriesOf s.signature (terms (shapes s.nodes))) (sym c.take_counted.ensures.entries) c.enter_all.ensures.entries)
    (ap (λ (es : List Entry). length es) c.take_counted.ensures.entries ∙ c.in_ok-enter_all.ensures.all) c.take_counted.ensures.taken c.take_counted.ensures.all c.take_counted.ensures.err

pub returns-clause-err : goal.returns-clause-err
returns-clause-err c =
    let s = c.args.store.now in
    let v = c.args.values.now in
    let d : Contents = c.enter_all.new.values in
    final_err c.take_counted.result s.signature s.nodes c.len-names.ensures.store v d c.take_counted.new.values (as_before v c.len-taken.ensures.within d c.enter_all.ensures.others c.enter_all.ensures.front) c.args.justs.now c.take_counted.new.justs c.take_counted.ensures.front
    (subst (AreEntriesOf s.signature (terms (shapes s.nodes))) (sym c.take_counted.ensures.entries) c.enter_all.ensures.entries)
    (ap (λ (es : List Entry). length es) c.take_counted.ensures.entries ∙ c.in_ok-enter_all.ensures.all) c.take_counted.ensures.taken c.take_counted.ensures.all c.take_counted.ensures.err

pub returns-clause-wide : goal.returns-clause-wide
returns-clause-wide c =
    let s = c.args.store.now in
    let v = c.args.values.now in
    let d : Contents = c.enter_all.new.values in
    if_wide c.take_counted.result (width_again v d (as_before v c.len-taken.ensures.within d c.enter_all.ensures.others c.enter_all.ensures.front) s.signature (terms (shapes s.nodes))) c.take_counted.ensures.wide

pub returns-clause-entries : goal.returns-clause-entries
returns-clause-entries c =
    let s = c.args.store.now in subst (AreEntriesOf s.signature (terms (shapes s.nodes))) (sym c.take_counted.ensures.entries) c.enter_all.ensures.entries

pub returns-clause-known : goal.returns-clause-known
returns-clause-known c = subst (IsFront c.args.values.now.entries) (sym c.take_counted.ensures.entries) c.enter_all.ensures.front

pub returns-clause-lasts : goal.returns-clause-lasts
returns-clause-lasts c = λ shared then h. c.take_counted.ensures.lasts shared then (c.enter_all.ensures.lasts shared then h)

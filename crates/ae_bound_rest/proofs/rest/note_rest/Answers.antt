use Rattle.std.specs.Prelude.{List, length}
use Rattle.std.proofs.Common.{subst}
use Rattle.std.proofs.lemmas.Result.{on_ok_weaker}
use Rattle.ae_journal.proofs.Splits.{all_contained}
use Rattle.ae_num.specs.Forms.{IsNormal}
use Rattle.ae_bounds.specs.declared.rows.Row.{Row}
use Rattle.ae_bound_rest.specs.Rest.{IsGrown}
use Rattle.ae_bound_rest.specs.Rest.IsGrown.{as_it_was}
use Rattle.ae_bound_rest.specs.Inner.Pairs.{AreDoneBelow}
use Rattle.ae_bound_rest.proofs.Pairing.{all_complete}
use Rattle.ae_bound_rest.proofs.rest.note_rest.Goals as goal

pub returns-in_err-start-clause-noted : goal.returns-in_err-start-clause-noted
returns-in_err-start-clause-noted c = record { sure = _; grown = as_it_was }

pub returns-clause-noted : goal.returns-clause-noted
returns-clause-noted c = record {
  sure = c.combine_all.new.sure;
  grown = subst (λ (rs : List Row). IsGrown rs c.args.journal.now.lines c.combine_all.new.sure c.combine_all.new.journal.lines) c.in_ok-start.ensures.started c.combine_all.ensures.grown;
}

pub returns-clause-all : goal.returns-clause-all
returns-clause-all c =
    on_ok_weaker c.combine_all.result
    (λ (d : AreDoneBelow (length c.combine_all.new.sure) c.combine_all.new.sure). record {
      sure = c.combine_all.new.sure;
      grown = subst (λ (rs : List Row). IsGrown rs c.args.journal.now.lines c.combine_all.new.sure c.combine_all.new.journal.lines) c.in_ok-start.ensures.started c.combine_all.ensures.grown;
      complete = all_complete c.combine_all.new.sure d;
      normal = λ r h. all_contained (λ (t : Row). IsNormal t.lin) c.combine_all.new.sure r c.combine_all.ensures.counted.indexed.normal h;
    })
    c.combine_all.ensures.done

pub returns-clause-number : goal.returns-clause-number
returns-clause-number c = λ w e. record {
  sure = c.combine_all.new.sure;
  grown = subst (λ (rs : List Row). IsGrown rs c.args.journal.now.lines c.combine_all.new.sure c.combine_all.new.journal.lines) c.in_ok-start.ensures.started c.combine_all.ensures.grown;
  wide = c.combine_all.ensures.number w e;
}

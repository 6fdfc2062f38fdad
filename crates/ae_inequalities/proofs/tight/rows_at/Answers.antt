use Rattle.std.specs.Prelude.{ℕ, suc, [], ◌≡◌, ◌+◌, List, take, slice_index_or}
use Rattle.std.proofs.Common.{arith, sym, subst}
use Rattle.std.proofs.lemmas.List.{take_all, get_or_default}
use Rattle.std.proofs.lemmas.Option.{slice_get-get_or, slice_get_within}
use Rattle.ae_journal.proofs.Splits.{contains_at}
use Rattle.ae_inequalities.specs.Inner.Numbered.{AreRowsAt}
use Rattle.ae_inequalities.proofs.Numbered.{rows_more, tight_rows}
use Rattle.ae_inequalities.proofs.tight.rows_at.Goals as goal

pub loop-number-init : goal.loop-number-init
loop-number-init c = record {
  so_far = subst (AreRowsAt c.args.store.now (record { rows = c.args.rows.now; given = c.args.given.now; tags = c.args.tags.now }) []) (sym c.new-all.ensures) tt;
}

pub row_at-requires-clause-place : goal.row_at-requires-clause-place
row_at-requires-clause-place c =
    let numbers = c.args.numbers.now in
    let k = c.loop-number.number-index in
    let it = slice_index_or numbers k 0 in
    let t = c.requires.tight.given it (contains_at numbers k it (slice_get-get_or numbers k 0 c.loop-number-test.true)) in
    slice_get_within c.args.rows.now it t.0 t.1

pub loop-number-preserved : goal.loop-number-preserved
loop-number-preserved c =
    let k = c.loop-number.number-index in
    let it = slice_index_or c.args.numbers.now k 0 in
    let one : suc k ≡ k + 1 = omega arith in
    record {
      so_far = subst (λ (n : ℕ). AreRowsAt c.args.store.now (record { rows = c.args.rows.now; given = c.args.given.now; tags = c.args.tags.now }) (take n c.args.numbers.now) c.push.new.self) one
          (rows_more c.args.store.now (record { rows = c.args.rows.now; given = c.args.given.now; tags = c.args.tags.now }) c.args.numbers.now k it c.loop-number-test.true (get_or_default c.args.numbers.now k 0 it c.loop-number-test.true)
          c.loop-number.all c.push.new.self c.in_ok-row.row c.loop-number.invariant.so_far
          c.in_ok-row.ensures c.in_ok-push.ensures.ok);
    }

pub returns : goal.returns
returns c =
    tight_rows c.args.store.now (record { rows = c.args.rows.now; given = c.args.given.now; tags = c.args.tags.now }) c.args.numbers.now c.loop-number.all c.requires.tight
    (subst (λ (ks : List ℕ). AreRowsAt c.args.store.now (record { rows = c.args.rows.now; given = c.args.given.now; tags = c.args.tags.now }) ks c.loop-number.all)
    (take_all c.loop-number.number-index c.args.numbers.now (let t = c.loop-number-test.false in omega (arith, t))) c.loop-number.invariant.so_far)

use Rattle.std.specs.Prelude.{ℕ, ◌≡◌, false}
use Rattle.std.proofs.Common.{sym, subst}
use Rattle.ae_num.specs.Forms.{IsNormal, has_key}
use Rattle.ae_num.specs.declared.forms.Lin.{Lin}
use Rattle.ae_linear.specs.Rows.{row_at, IsFree, ArePut, FitsAt}
use Rattle.ae_values.proofs.AfterPut.{all_restatable, all_say, says, is_put, said_after, sources_after}
use Rattle.ae_values.proofs.Puttable.{free, absent, stated}
use Rattle.ae_values.proofs.Entries.{rows_keep, justs_keep, keeps_then}
use Rattle.ae_values.proofs.numbers.put_all.Goals as goal

pub put_row-requires-clause-value : goal.put_row-requires-clause-value
put_row-requires-clause-value c = subst IsNormal (sym c.requires.number) c.requires.puttable.normal

pub put_row-requires-clause-free : goal.put_row-requires-clause-free
put_row-requires-clause-free c =
    subst (λ (f : Lin). IsFree (λ n. row_at c.args.values.now.rows n) f) (sym c.requires.number)
    (free c.args.store.now c.args.justs.now c.args.values.now c.args.put.now.name c.args.put.now.value.now c.args.put.now.step c.args.real c.requires.puttable)

pub put_row-requires-clause-absent : goal.put_row-requires-clause-absent
put_row-requires-clause-absent c =
    subst (λ (f : Lin). has_key f.parts c.args.put.now.name ≡ false) (sym c.requires.number)
    (absent c.args.store.now c.args.justs.now c.args.values.now c.args.put.now.name c.args.put.now.value.now c.args.put.now.step c.args.real c.requires.puttable)

pub restate_all-requires-clause-fits : goal.restate_all-requires-clause-fits
restate_all-requires-clause-fits c = c.requires.puttable.fits

pub restate_all-requires-clause-changes : goal.restate_all-requires-clause-changes
restate_all-requires-clause-changes c =
    let p = c.args.put.now in
    all_restatable c.args.store.now c.args.justs.now c.args.values.now c.put_row.new.self c.put_just.new.self p.name p.value.now p.step c.args.real c.requires.puttable c.put_row.ensures.others c.put_just.ensures.others
    (subst (λ (f : Lin). ArePut (λ n. row_at c.args.values.now.rows n) p.name f 0 (λ n. row_at c.put_row.new.self.rows n)) c.requires.number c.in_ok-put_row.ensures.ok) c.in_ok-put_just.ensures.ok
    c.values_stay_values_when_a_number_is_put.ensures (subst (λ (f : Lin). (n : ℕ) → FitsAt (row_at c.args.values.now.rows n) p.name f) c.requires.number c.in_ok-put_row.ensures.fits) c.args.changes.now c.requires.each

pub restate_all-requires-clause-says : goal.restate_all-requires-clause-says
restate_all-requires-clause-says c =
    let p = c.args.put.now in
    all_say c.args.store.now c.args.justs.now c.args.values.now c.put_row.new.self c.put_just.new.self p.name p.value.now p.step c.args.real c.requires.puttable c.put_row.ensures.others c.put_just.ensures.others
    (subst (λ (f : Lin). ArePut (λ n. row_at c.args.values.now.rows n) p.name f 0 (λ n. row_at c.put_row.new.self.rows n)) c.requires.number c.in_ok-put_row.ensures.ok) c.in_ok-put_just.ensures.ok c.args.changes.now
    c.requires.each

pub restate_all-requires-clause-put : goal.restate_all-requires-clause-put
restate_all-requires-clause-put c = stated c.args.store.now c.args.justs.now c.args.values.now c.args.put.now.name c.args.put.now.value.now c.args.put.now.step c.args.real c.requires.puttable

pub restate_all-requires-clause-put_says : goal.restate_all-requires-clause-put_says
restate_all-requires-clause-put_says c =
    let p = c.args.put.now in
    says c.args.store.now c.args.justs.now c.args.values.now c.put_row.new.self c.put_just.new.self p.name p.value.now p.step c.args.real c.requires.puttable c.put_row.ensures.others c.put_just.ensures.others
    (subst (λ (f : Lin). ArePut (λ n. row_at c.args.values.now.rows n) p.name f 0 (λ n. row_at c.put_row.new.self.rows n)) c.requires.number c.in_ok-put_row.ensures.ok) c.in_ok-put_just.ensures.ok

pub returns-clause-put : goal.returns-clause-put
returns-clause-put c =
    let p = c.args.put.now in
    is_put c.args.store.now c.args.justs.now c.args.values.now c.put_row.new.self c.put_just.new.self p.name p.value.now p.step c.args.real c.requires.puttable c.put_row.ensures.others c.put_just.ensures.others
    (subst (λ (f : Lin). ArePut (λ n. row_at c.args.values.now.rows n) p.name f 0 (λ n. row_at c.put_row.new.self.rows n)) c.requires.number c.in_ok-put_row.ensures.ok) c.in_ok-put_just.ensures.ok
    c.restate_all.new.values c.restate_all.new.justs c.restate_all.ensures.front c.restate_all.ensures.fits c.args.changes.now c.restate_all.ensures.others c.in_ok-restate_all.ensures.restated c.requires.all

pub returns-clause-said : goal.returns-clause-said
returns-clause-said c =
    let p = c.args.put.now in
    said_after c.args.store.now c.args.justs.now c.args.values.now c.put_row.new.self c.put_just.new.self p.name p.value.now p.step c.args.real c.requires.puttable c.put_row.ensures.others c.put_just.ensures.others
    (subst (λ (f : Lin). ArePut (λ n. row_at c.args.values.now.rows n) p.name f 0 (λ n. row_at c.put_row.new.self.rows n)) c.requires.number c.in_ok-put_row.ensures.ok) c.in_ok-put_just.ensures.ok
    c.restate_all.new.values c.restate_all.new.justs c.restate_all.ensures.front c.restate_all.ensures.fits c.args.changes.now c.restate_all.ensures.others c.in_ok-restate_all.ensures.restated c.requires.all

pub returns-clause-sources : goal.returns-clause-sources
returns-clause-sources c =
    let p = c.args.put.now in
    sources_after c.args.store.now c.args.justs.now c.args.values.now c.put_row.new.self c.put_just.new.self p.name p.value.now p.step c.args.real c.requires.puttable c.put_row.ensures.others c.put_just.ensures.others
    (subst (λ (f : Lin). ArePut (λ n. row_at c.args.values.now.rows n) p.name f 0 (λ n. row_at c.put_row.new.self.rows n)) c.requires.number c.in_ok-put_row.ensures.ok) c.in_ok-put_just.ensures.ok
    c.restate_all.new.values c.restate_all.new.justs c.restate_all.ensures.front c.restate_all.ensures.fits c.args.changes.now c.restate_all.ensures.others c.in_ok-restate_all.ensures.restated c.requires.all

pub returns-in_err-put_just-clause-lasts : goal.returns-in_err-put_just-clause-lasts
returns-in_err-put_just-clause-lasts c = λ shared then h. c.put_just.ensures.lasts shared then (c.put_row.ensures.lasts shared then h)

pub returns-in_err-restate_all-clause-lasts : goal.returns-in_err-restate_all-clause-lasts
returns-in_err-restate_all-clause-lasts c = λ shared then h. c.restate_all.ensures.lasts shared then (c.put_just.ensures.lasts shared then (c.put_row.ensures.lasts shared then h))

pub returns-clause-lasts : goal.returns-clause-lasts
returns-clause-lasts c = λ shared then h. c.restate_all.ensures.lasts shared then (c.put_just.ensures.lasts shared then (c.put_row.ensures.lasts shared then h))

pub returns-in_err-put_row-clause-others : goal.returns-in_err-put_row-clause-others
returns-in_err-put_row-clause-others c = rows_keep c.args.values.now c.put_row.new.self c.put_row.ensures.others

pub returns-in_err-put_just-clause-others : goal.returns-in_err-put_just-clause-others
returns-in_err-put_just-clause-others c =
    keeps_then c.args.values.now c.put_row.new.self c.put_just.new.self (rows_keep c.args.values.now c.put_row.new.self c.put_row.ensures.others) (justs_keep c.put_row.new.self c.put_just.new.self c.put_just.ensures.others)

pub returns-in_err-restate_all-clause-others : goal.returns-in_err-restate_all-clause-others
returns-in_err-restate_all-clause-others c =
    let v = c.args.values.now in
    let r = c.put_row.new.self in
    let j = c.put_just.new.self in
    keeps_then v j c.restate_all.new.values (keeps_then v r j (rows_keep v r c.put_row.ensures.others) (justs_keep r j c.put_just.ensures.others)) (justs_keep j c.restate_all.new.values c.restate_all.ensures.others)

pub returns-clause-others : goal.returns-clause-others
returns-clause-others c =
    let v = c.args.values.now in
    let r = c.put_row.new.self in
    let j = c.put_just.new.self in
    keeps_then v j c.restate_all.new.values (keeps_then v r j (rows_keep v r c.put_row.ensures.others) (justs_keep r j c.put_just.ensures.others)) (justs_keep j c.restate_all.new.values c.restate_all.ensures.others)

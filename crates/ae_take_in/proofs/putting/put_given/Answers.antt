use Rattle.std.specs.Prelude.{◌≡◌, Some}
use Rattle.std.proofs.Common.{sym, ap, ◌∙◌, subst}
use Rattle.ae_pmap.specs.Forest.{present}
use Rattle.ae_pmap.specs.Pairs.{found, with_at}
use Rattle.ae_num.specs.Forms.{IfWide}
use Rattle.ae_num.specs.declared.numbers.NumFail.{NumFail}
use Rattle.ae_num.specs.declared.numbers.Wide.{Wide}
use Rattle.ae_linear.specs.Rows.{row_at, IsFirstWide}
use Rattle.ae_value_table.specs.Table.{Contents}
use Rattle.ae_take_in.proofs.Rows.{same_row, never_wide}
use Rattle.ae_take_in.proofs.putting.put_given.Goals as goal

pub unreachable-requires : goal.unreachable-requires
unreachable-requires c =
    let v = c.args.values.now in
    let wide = subst (λ (x : NumFail). IfWide x (λ (w : Wide). IsFirstWide (λ n. row_at v.rows n) c.args.name c.args.given.value w)) c.in-Wide.is c.in-Err.ensures.wide in
    absurd (never_wide (λ n. row_at v.rows n) c.args.name c.args.given.value c.in-Wide._wide c.requires.alone wide)

pub returns-in_ok-put_just-in-Ok-clause-row : goal.returns-in_ok-put_just-in-Ok-clause-row
returns-in_ok-put_just-in-Ok-clause-row c = ap (λ (x : Contents). row_at x.rows c.args.name) c.put_just.ensures.others ∙ c.in-Ok.ensures.ok.row

pub returns-in_ok-put_just-in-Ok-clause-others : goal.returns-in_ok-put_just-in-Ok-clause-others
returns-in_ok-put_just-in-Ok-clause-others c = λ k d.
    let v = c.args.values.now in
    ap (λ (x : Contents). row_at x.rows k) c.put_just.ensures.others
    ∙ same_row c.args.name c.args.given.value (row_at v.rows k) (row_at c.put_row.new.self.rows k) (λ row at. (c.row-row.ensures.rows.normal k row at, c.requires.alone k row at)) (c.in-Ok.ensures.ok.others k d)

pub returns-in_ok-put_just-in-Ok-clause-just : goal.returns-in_ok-put_just-in-Ok-clause-just
returns-in_ok-put_just-in-Ok-clause-just c = λ k.
    c.in_ok-put_just-in-Ok.ensures.ok k ∙ ap (λ (x : Contents). with_at (found (present x.justs)) c.args.name (Some c.args.given.step) k) c.put_row.ensures.others

pub returns-in_ok-put_just-in-Ok-clause-lasts : goal.returns-in_ok-put_just-in-Ok-clause-lasts
returns-in_ok-put_just-in-Ok-clause-lasts c = λ shared then h. c.put_just.ensures.lasts shared then (c.put_row.ensures.lasts shared then h)

pub returns-in_err-put_just-in-Ok-clause-lasts : goal.returns-in_err-put_just-in-Ok-clause-lasts
returns-in_err-put_just-in-Ok-clause-lasts c = λ shared then h. c.put_just.ensures.lasts shared then (c.put_row.ensures.lasts shared then h)

pub returns-in_ok-put_just-in-Ok-clause-rest : goal.returns-in_ok-put_just-in-Ok-clause-rest
returns-in_ok-put_just-in-Ok-clause-rest c =
    let new : Contents = c.put_just.new.self in
    let mid : Contents = c.put_row.new.self in
    let old : Contents = c.args.values.now in
    let same : mid.rows ≡ new.rows = sym (ap (λ (x : Contents). x.rows) c.put_just.ensures.others) in
    c.put_just.ensures.others ∙ ap (λ (x : Contents). record x { justs = new.justs }) c.put_row.ensures.others ∙ (λ i. record old { rows = same i; justs = new.justs })

use Rattle.std.specs.Prelude.{ℕ, []}
use Rattle.std.proofs.Common.{sym, ◌∙◌, subst}
use Rattle.std.proofs.lemmas.List.{append-nil}
use Rattle.ae_linear.specs.Rows.{row_at}
use Rattle.ae_value_table.specs.Table.{Contents}
use Rattle.ae_value_table.specs.Versions.{StandsFor, Lasts}
use Rattle.ae_value_table.proofs.Versioning.{lasts_by, values_as, back_held}
use Rattle.ae_value_table.proofs.table.Values.back.Goals as goal

pub returns-clause-held : goal.returns-clause-held
returns-clause-held g c = λ before h.
    let s = subst (λ (r : Contents). StandsFor r c.args.shared.now before) (sym c.self.view_is) h in
    record {
      names = back_held c.self.inside.entries before.entries s.entries.0 c.args.shared.now.taken before.taken s.taken s.within s.entries.1;
      rows = c.back.ensures.rows (λ (n : ℕ). row_at before.rows n) s.rows;
      leaves = c.back-2.ensures.map ∙ s.leaves.is;
      justs = c.back-3.ensures.map ∙ s.justs.is;
      taken = s.taken;
    }

pub returns-clause-values : goal.returns-clause-values
returns-clause-values g c = λ before h.
    let s = subst (λ (r : Contents). StandsFor r c.args.shared.now before) (sym c.self.view_is) h in
    values_as (record { entries = c.self.inside.entries; taken = c.args.shared.now.taken; rows = c.back.new.self; leaves = c.back-2.new.self; justs = c.back-3.new.self }) before
    (record {
      names = back_held c.self.inside.entries before.entries s.entries.0 c.args.shared.now.taken before.taken s.taken s.within s.entries.1;
      rows = c.back.ensures.rows (λ (n : ℕ). row_at before.rows n) s.rows;
      leaves = c.back-2.ensures.map ∙ s.leaves.is;
      justs = c.back-3.ensures.map ∙ s.justs.is;
      taken = s.taken;
    })

pub returns-clause-lasts : goal.returns-clause-lasts
returns-clause-lasts g c =
    let now : Contents = record { entries = c.self.inside.entries; taken = c.args.shared.now.taken; rows = c.back.new.self; leaves = c.back-2.new.self; justs = c.back-3.new.self } in
    subst (λ (r : Contents). Lasts r now) c.self.view_is
    (lasts_by (record { entries = c.self.inside.entries; taken = c.self.inside.taken; rows = c.self.inside.rows; leaves = c.self.inside.leaves; justs = c.self.inside.justs }) now
    c.back.ensures.lasts c.back-2.ensures.lasts c.back-3.ensures.lasts [] (sym (append-nil c.self.inside.entries)))

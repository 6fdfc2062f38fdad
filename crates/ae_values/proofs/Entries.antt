-- A put leaves what is known of names for good as it was, and which names have values.
use Rattle.std.specs.Prelude.{◌≡◌}
use Rattle.std.proofs.Common.{ap, ◌∙◌}
use Rattle.ae_value_table.specs.Table.{Contents}

abbrev pub KeepsEntries : Contents → Contents → Type 0
KeepsEntries old new = new ≡ record old { rows = new.rows; leaves = new.leaves; justs = new.justs }

pub keeps : (old new : Contents) → new.entries ≡ old.entries → new.taken ≡ old.taken → KeepsEntries old new
keeps old new e t = λ i. record { entries = e i; taken = t i; rows = new.rows; leaves = new.leaves; justs = new.justs }

pub rows_keep : (old new : Contents) → new ≡ record old { rows = new.rows } → KeepsEntries old new
rows_keep old new e = keeps old new (ap (λ (x : Contents). x.entries) e) (ap (λ (x : Contents). x.taken) e)

pub leaves_keep : (old new : Contents) → new ≡ record old { leaves = new.leaves } → KeepsEntries old new
leaves_keep old new e = keeps old new (ap (λ (x : Contents). x.entries) e) (ap (λ (x : Contents). x.taken) e)

pub justs_keep : (old new : Contents) → new ≡ record old { justs = new.justs } → KeepsEntries old new
justs_keep old new e = keeps old new (ap (λ (x : Contents). x.entries) e) (ap (λ (x : Contents). x.taken) e)

pub led_keep : (old new : Contents) → new ≡ record old { leaves = new.leaves; justs = new.justs } → KeepsEntries old new
led_keep old new e = keeps old new (ap (λ (x : Contents). x.entries) e) (ap (λ (x : Contents). x.taken) e)

pub keeps_then : (a b c : Contents) → KeepsEntries a b → KeepsEntries b c → KeepsEntries a c
keeps_then a b c e f = keeps a c (ap (λ (x : Contents). x.entries) f ∙ ap (λ (x : Contents). x.entries) e) (ap (λ (x : Contents). x.taken) f ∙ ap (λ (x : Contents). x.taken) e)

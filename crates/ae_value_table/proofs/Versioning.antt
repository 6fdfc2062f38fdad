-- Versions that last, and what is held again.
use Rattle.std.specs.Prelude.{ℕ, ◌≡◌, ◌≤◌, ◌++◌, List, length, map, take}
use Rattle.std.proofs.Common.{ap, ◌∙◌, append_assoc}
use Rattle.std.proofs.lemmas.List.{take-append-le}
use Rattle.ae_base.specs.Options.{or_else}
use Rattle.ae_pmap.specs.Forest.{present, Lasts as MapLasts}
use Rattle.ae_pmap.specs.Pairs.{found}
use Rattle.ae_num.specs.declared.forms.Lin.{Lin}
use Rattle.ae_linear.specs.Rows.{row_at, value_of, Lasts as RowsLast}
use Rattle.ae_value_table.specs.declared.patterns.Entry.{Entry}
use Rattle.ae_value_table.specs.Table.{Contents, value_by, values, number_at, leaf_at, own}
use Rattle.ae_value_table.specs.Versions.{Lasts, IsAs}

-- ---- each part lasts
pub lasts_by : (old new : Contents) → RowsLast old.rows new.rows → MapLasts old.leaves new.leaves → MapLasts old.justs new.justs → (more : List Entry) → new.entries ≡ old.entries ++ more → Lasts old new
lasts_by old new rows leaves justs more is shared then h =
    record {
      rows = rows shared.rows (λ n. row_at then.rows n) h.rows;
      leaves = leaves shared.leaves (present then.leaves) h.leaves;
      justs = justs shared.justs (present then.justs) h.justs;
      taken = h.taken;
      within = h.within;
      entries = (h.entries.0 ++ more, is ∙ ap (λ es. es ++ more) h.entries.1 ∙ append_assoc then.entries h.entries.0 more);
    }

-- ---- values that are made of the same numbers and leaves
numbers_as : (c d : Contents) → ((n : ℕ) → row_at c.rows n ≡ row_at d.rows n) → ◌≡◌ {A = ℕ → Lin} (λ n. number_at c n) (λ n. number_at d n)
numbers_as c d e = λ i n. or_else (value_of (e n i)) (own n)

leaves_as : (c d : Contents) → present c.leaves ≡ present d.leaves → ◌≡◌ {A = ℕ → ℕ} (λ n. leaf_at c n) (λ n. leaf_at d n)
leaves_as c d e = λ i n. or_else (found (e i) n) n

pub values_as : (c d : Contents) → IsAs c d → values c ≡ values d
values_as c d h = λ i. map (λ (e : Entry). value_by (numbers_as c d h.rows i) (leaves_as c d h.leaves i) e.pattern) (h.names i)

-- what is held after going back
pub back_held : (es then_es more : List Entry) (count taken : ℕ) → count ≡ taken → taken ≤ length then_es → es ≡ then_es ++ more → take count es ≡ take taken then_es
back_held es then_es more count taken e l is = (λ i. take (e i) (is i)) ∙ take-append-le taken then_es more l

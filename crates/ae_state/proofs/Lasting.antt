-- Marks that go on fitting.
use Rattle.std.specs.Prelude.{List, ◌++◌, ◌≡◌}
use Rattle.std.proofs.Common.{ap, ◌∙◌, append_assoc}
use Rattle.ae_pmap.specs.Forest.{present, Lasts as MapLasts}
use Rattle.ae_store.specs.Growing.{IsFront}
use Rattle.ae_value_table.specs.Versions.{Lasts as ValuesLast}
use Rattle.ae_equations.specs.Versions.{Lasts as EquationsLast}
use Rattle.ae_state.specs.declared.holding.Holding.{Holding}
use Rattle.ae_state.specs.declared.holding.Mark.{Mark}
use Rattle.ae_state.specs.Marks.{FitsMark}

pub front_then : {A : Type 0} (a b c : List A) → IsFront a b → IsFront b c → IsFront a c
front_then a b c f g = (f.0 ++ g.0, g.1 ∙ ap (λ xs. xs ++ g.0) f.1 ∙ append_assoc a f.0 g.0)

-- maps of which each version lasts, and lists that grow
pub record Lasts (o new : Holding) : Type 0 where
  pub values : ValuesLast o.values new.values
  pub equations : EquationsLast o.equations new.equations
  pub assumed : MapLasts o.assumed new.assumed
  pub said : MapLasts o.said new.said
  pub signature : new.signature ≡ o.signature
  pub shapes : IsFront o.shapes new.shapes
  pub justs : IsFront o.justs new.justs
  pub conflicts : IsFront o.conflicts new.conflicts

pub marks_last : (o new : Holding) → Lasts o new → (m : Mark) (then : Holding) → FitsMark o m then → FitsMark new m then
marks_last o new l m then h =
    record {
      values = l.values m.values then.values h.values;
      equations = l.equations m.equations then.equations h.equations;
      assumed = l.assumed m.assumed (present then.assumed) h.assumed;
      said = l.said m.said (present then.said) h.said;
      next = h.next;
      signature = l.signature ∙ h.signature;
      shapes = front_then then.shapes o.shapes new.shapes h.shapes l.shapes;
      justs = front_then then.justs o.justs new.justs h.justs l.justs;
      conflicts = front_then then.conflicts o.conflicts new.conflicts h.conflicts l.conflicts;
      right = h.right;
    }

-- What holds of each line of a journal holds of each that stands.
use Rattle.std.specs.Prelude.{ℕ, zero, suc, List, [], ◌∷◌, ◌++◌}
use Rattle.std.specs.List.{AllByRecursion}
use Rattle.ae_base.proofs.AllOf.{all_push}
use Rattle.ae_journal.specs.Journals.{before_decision, live_after}
use Rattle.ae_journal.specs.declared.lines.Line.{Line}
use Rattle.ae_journal.specs.declared.lines.Line.TheVariants as line

module _ (P : Line → Type 0) where
  abbrev All : List Line → Type 0
  All js = AllByRecursion P js

  all_before : (n : ℕ) (js : List Line) → All js → All (before_decision n js)
  all_before n [] a = tt
  all_before zero (line.Decide l ∷ js) a = tt
  all_before (suc n) (line.Decide l ∷ js) a = (a.0, all_before n js a.1)
  all_before zero (line.Orient o ∷ js) a = (a.0, all_before zero js a.1)
  all_before (suc n) (line.Orient o ∷ js) a = (a.0, all_before (suc n) js a.1)
  all_before zero (line.Drop o ∷ js) a = (a.0, all_before zero js a.1)
  all_before (suc n) (line.Drop o ∷ js) a = (a.0, all_before (suc n) js a.1)
  all_before zero (line.Pair u l m ∷ js) a = (a.0, all_before zero js a.1)
  all_before (suc n) (line.Pair u l m ∷ js) a = (a.0, all_before (suc n) js a.1)
  all_before zero (line.Learn c ∷ js) a = (a.0, all_before zero js a.1)
  all_before (suc n) (line.Learn c ∷ js) a = (a.0, all_before (suc n) js a.1)
  all_before zero (line.TypeInstance k ss ∷ js) a = (a.0, all_before zero js a.1)
  all_before (suc n) (line.TypeInstance k ss ∷ js) a = (a.0, all_before (suc n) js a.1)
  all_before zero (line.TermInstance f ts ∷ js) a = (a.0, all_before zero js a.1)
  all_before (suc n) (line.TermInstance f ts ∷ js) a = (a.0, all_before (suc n) js a.1)
  all_before zero (line.Combine b f ∷ js) a = (a.0, all_before zero js a.1)
  all_before (suc n) (line.Combine b f ∷ js) a = (a.0, all_before (suc n) js a.1)
  all_before zero (line.Back k ∷ js) a = (a.0, all_before zero js a.1)
  all_before (suc n) (line.Back k ∷ js) a = (a.0, all_before (suc n) js a.1)

  pub all_live : (kept js : List Line) → All kept → All js → All (live_after kept js)
  all_live kept [] a b = a
  all_live kept (line.Decide l ∷ js) a b = all_live (kept ++ line.Decide l ∷ []) js (all_push P kept (line.Decide l) a b.0) b.1
  all_live kept (line.Orient o ∷ js) a b = all_live (kept ++ line.Orient o ∷ []) js (all_push P kept (line.Orient o) a b.0) b.1
  all_live kept (line.Drop o ∷ js) a b = all_live (kept ++ line.Drop o ∷ []) js (all_push P kept (line.Drop o) a b.0) b.1
  all_live kept (line.Pair u l m ∷ js) a b = all_live (kept ++ line.Pair u l m ∷ []) js (all_push P kept (line.Pair u l m) a b.0) b.1
  all_live kept (line.Learn c ∷ js) a b = all_live (kept ++ line.Learn c ∷ []) js (all_push P kept (line.Learn c) a b.0) b.1
  all_live kept (line.TypeInstance k ss ∷ js) a b = all_live (kept ++ line.TypeInstance k ss ∷ []) js (all_push P kept (line.TypeInstance k ss) a b.0) b.1
  all_live kept (line.TermInstance f ts ∷ js) a b = all_live (kept ++ line.TermInstance f ts ∷ []) js (all_push P kept (line.TermInstance f ts) a b.0) b.1
  all_live kept (line.Combine s f ∷ js) a b = all_live (kept ++ line.Combine s f ∷ []) js (all_push P kept (line.Combine s f) a b.0) b.1
  all_live kept (line.Back n ∷ js) a b = all_live (before_decision n kept) js (all_before n kept a) b.1

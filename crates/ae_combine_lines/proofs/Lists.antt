-- Lists of lines with one more line.
use Rattle.std.proofs.Common.{◌≡◌, List, [], ◌∷◌, ◌++◌, sym}
use Rattle.ae_journal.specs.Journals.{OnlyCombines}
use Rattle.ae_journal.specs.declared.lines.Line.{Line}
use Rattle.ae_journal.specs.declared.lines.Line.TheVariants as line
use Rattle.std.specs.Prelude.{Bool}
use Rattle.ae_num.specs.declared.forms.Lin.{Lin}

none_is_one : (ks : List Line) (x y : Line) → [] ≡ (y ∷ ks) ++ x ∷ [] → ⊥
none_is_one ks x y e = cc

one_is_more : (ks : List Line) (x y z : Line) → x ∷ [] ≡ y ∷ (ks ++ z ∷ []) → ⊥
one_is_more [] x y z e = cc
one_is_more (k ∷ ks) x y z e = cc

pub front_same : (js ks : List Line) (x : Line) → js ++ x ∷ [] ≡ ks ++ x ∷ [] → js ≡ ks
front_same [] [] x e = cc
front_same [] (k ∷ ks) x e = absurd (one_is_more ks x k x e)
front_same (j ∷ js) [] x e = absurd (one_is_more js x j x (sym e))
front_same (j ∷ js) (k ∷ ks) x e =
    let rest : js ++ x ∷ [] ≡ ks ++ x ∷ [] = cc in
    let head : j ≡ k = cc in
    λ i. head i ∷ front_same js ks x rest i

pub only_more : (js : List Line) (strict : Bool) (f : Lin) → OnlyCombines js → OnlyCombines (js ++ line.Combine strict f ∷ [])
only_more [] strict f o = tt
only_more (line.Combine b h ∷ js) strict f o = only_more js strict f o
only_more (line.Decide l ∷ js) strict f o = absurd o
only_more (line.Orient u ∷ js) strict f o = absurd o
only_more (line.Drop u ∷ js) strict f o = absurd o
only_more (line.Pair u a b ∷ js) strict f o = absurd o
only_more (line.Learn c ∷ js) strict f o = absurd o
only_more (line.TypeInstance k ss ∷ js) strict f o = absurd o
only_more (line.TermInstance g ts ∷ js) strict f o = absurd o
only_more (line.Back n ∷ js) strict f o = absurd o

pub only_less : (js : List Line) (strict : Bool) (f : Lin) → OnlyCombines (js ++ line.Combine strict f ∷ []) → OnlyCombines js
only_less [] strict f o = tt
only_less (line.Combine b h ∷ js) strict f o = only_less js strict f o
only_less (line.Decide l ∷ js) strict f o = absurd o
only_less (line.Orient u ∷ js) strict f o = absurd o
only_less (line.Drop u ∷ js) strict f o = absurd o
only_less (line.Pair u a b ∷ js) strict f o = absurd o
only_less (line.Learn c ∷ js) strict f o = absurd o
only_less (line.TypeInstance k ss ∷ js) strict f o = absurd o
only_less (line.TermInstance g ts ∷ js) strict f o = absurd o
only_less (line.Back n ∷ js) strict f o = absurd o

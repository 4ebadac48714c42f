-- Laws of choice points and of catches.
use Rattle.std.proofs.Common.{◌≡◌, ◌-◌, suc, List, ◌∷◌, ◌++◌, length, drop, ap, ◌∙◌, arith, length-append}
use Rattle.std.proofs.Math.Seq.{drop-append_seam}
use Rattle.pl_term.specs.Tree.{Tree}
use Rattle.pl_model.specs.Resolution.{Limits, Pending, leave, Node, Choice, catch, State, up_to}
use Rattle.pl_model.specs.Control.{at_catch, caught, fitting, thrown}

pub cut_back : (more cs : List Choice) → up_to (length cs) (more ++ cs) ≡ cs
cut_back more cs =
    ap
    (λ k. drop k (more ++ cs))
    (let e : length (more ++ cs) - length cs ≡ length more = omega (arith, length-append more cs) in e)
    ∙ drop-append_seam more cs

-- The innermost exit is the first of what is still to be done; the choice points above its catch are gone.
pub caught_there : (l : Limits) (s : State) (ball : Tree) (ps : List Pending) (catcher recovery : Tree) (n : Node) (more older : List Choice)
    → s.choices ≡ more ++ catch catcher recovery n ∷ older
    → thrown l s ball (leave (length older) ∷ ps)
    ≡ at_catch (record s { choices = older }) n catcher recovery (fitting l (record s { choices = older }) n ball)
unfolding thrown
caught_there l s ball ps catcher recovery n more older is =
    ap
    (caught l s ball ps)
    (ap (up_to (suc (length older))) is ∙ cut_back more (catch catcher recovery n ∷ older))

use Rattle.std.proofs.Common.{◌≡◌, ℕ, Option, Some, None, sym, ap, ◌∙◌, codes}
use Rattle.std.specs.Prelude.{pos}
use Rattle.std.specs.Option.{IsSome}
use Rattle.std.proofs.lemmas.Result.{IfOk-weaker}
use Rattle.pl_term.specs.Tree.{Chars, Tree, atom, comp, more, none}
use Rattle.atom_api.specs.Names.{FixedStand, Names}
use Rattle.world_api.specs.Texts.{text_of}
use Rattle.counted_terms.proofs.MadeTerms.{held_some, slash_is, text_is}
use Rattle.counted_terms.proofs.made_terms.indicator_term.Goals as goal

pub returns-clause-says : goal.returns-clause-says
returns-clause-says c =
    IfOk-weaker c.paired.result _ _
    (λ e says m stand held. says m (codes "/") (text_of m c.args.p.name) stand (stand 9 (codes "/") slash_is) (text_is m c.args.p.name held) ∙ ap (λ (z : Tree). comp (codes "/") (atom (text_of m c.args.p.name)) (more z none)) (c.in_ok-arity.ensures.says m))
    c.paired.ensures.says

pub returns-clause-named : goal.returns-clause-named
returns-clause-named c =
    IfOk-weaker c.paired.result _ _
    (λ e named m stand held. named m (held_some m 9 (codes "/") (stand 9 (codes "/") slash_is)) held (c.in_ok-arity.ensures.named m stand))
    c.paired.ensures.named

use Rattle.std.proofs.Common.{◌≡◌, ◌≤◌, ◌∷◌, ◌++◌, [], refl, sym, ◌∙◌, ap, subst, arith, append-nil, List}
use Rattle.pl_consult.specs.GoalWords.{words_of}
use Rattle.toplevel.proofs.KeptLaws.{opened_all, opened_next, opened_none}
use Rattle.toplevel.proofs.StandingLaws.{length_none}
use Rattle.toplevel.proofs.kept.others_of.Goals as goal

pub loop-engine-init : goal.loop-engine-init
loop-engine-init c = (omega arith, λ p file board h first counted all cover. ([], sym (append-nil _), opened_none p h _ first _ _ c.new-parts.ensures.items cover, all))

pub loop-engine-preserved : goal.loop-engine-preserved
loop-engine-preserved c = (
  let above = c.in_ok-last.ensures.above in let one = c.loop-engine.invariant.0 in omega (arith, above, one),
  λ p file board h first counted all cover.
      let i = c.loop-engine.invariant.1 p file board h first counted all cover in
      opened_next p file board h (words_of c.args.words.now) first c.loop-engine.opened.items c.pop.new.self.items c.pop.result c.in-Some.engine c.loop-engine.last c.in_ok-last.last _ c.loop-engine.fronts.items _ i.0 c.loop-engine.parts.items _
      c.pop.ensures.items c.in-Some.is i.3 i.2 i.1
      (λ o. c.in_ok-last.ensures.put p file board h counted o),
)

pub returns : goal.returns
returns c p file board h first counted all cover =
    let i = c.loop-engine.invariant.1 p file board h first counted all cover in
    (i.0, i.1, opened_all p h (words_of c.args.words.now) first c.loop-engine.opened.items c.loop-engine.last i.0 c.loop-engine.parts.items (length_none _ _ c.loop-engine.opened.ok.0 c.in_default.ensures.cases.0) i.2)

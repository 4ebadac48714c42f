use Rattle.std.proofs.Common.{length, reverse, ap, ◌∙◌, arith}
use Rattle.iso_search.specs.Choices.{choices_at}
use Rattle.iso_search.specs.Searching.{choices_of}
use Rattle.iso_search.proofs.Budgets.{choices_budget}
use Rattle.iso_search.proofs.Heights.{choices-truncated, take_as_far}
use Rattle.iso_search.proofs.search.Search.cut_to.Goals as goal

pub returns-clause-choices : goal.returns-clause-choices
returns-clause-choices c v =
    let e = c.args.self.now in
    let d = c.loop-self.self in
    let held = c.loop-self.invariant in
    let far = c.loop-self-test.false in
    let ws = e.answer.items in
    ap (choices_of v) held.kept
    ∙ choices_budget v ws e.store e.frames.items (reverse d.choices.items) d.store.budget
    ∙ ap (λ ks. choices_at v ws e.store e.frames.items (reverse ks))
    (held.oldest ∙ take_as_far (length d.choices.items) c.args.height e.choices.items (omega (arith, far, c.len.ensures, d.choices.ok.0)) held.below held.above)
    ∙ choices-truncated v ws e.store e.frames.items c.args.height e.choices.items c.requires.rests

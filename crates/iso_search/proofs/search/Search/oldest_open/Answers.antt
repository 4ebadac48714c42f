use Rattle.std.proofs.Common.{◌≡◌, ◌<◌, ◌≤◌, flat_map, get_or, length, take, sym, ap, subst, ◌∙◌}
use Rattle.std.proofs.lemmas.List.{take_all}
use Rattle.iso_search.specs.declared.choices.ChoicePoint.{ChoicePoint}
use Rattle.iso_search.specs.Live.{IsLeast, generations_of}
use Rattle.iso_search.proofs.Oldest.{more_of}
use Rattle.iso_search.proofs.search.Search.oldest_open.Goals as goal

pub loop-choice-preserved : goal.loop-choice-preserved
loop-choice-preserved c =
    let ks = c.args.self.now.choices.items in
    let f = λ (k : ChoicePoint). generations_of k.alternative in
    let i = c.loop-choice.choice-index in
    let x = c.choice-item.result in
    let same = c.deref-choice-items.ensures.value in
    let here : x ≡ get_or ks i x = c.choice-item.is ∙ ap (λ l. get_or l i x) same in
    let few : i < length ks = subst (λ l. i < length l) same c.loop-choice-test.true in
    subst (IsLeast c.older-oldest.result) (sym (more_of f ks i x few))
    (c.older-oldest.ensures (flat_map f (take i ks)) (f (get_or ks i x)) c.loop-choice.invariant
    (subst (λ k. IsLeast c.generation_of.result (f k)) here c.generation_of.ensures))

pub returns : goal.returns
returns c =
    let ks = c.args.self.now.choices.items in
    let f = λ (k : ChoicePoint). generations_of k.alternative in
    let i = c.loop-choice.choice-index in
    let past : length ks ≤ i = subst (λ l. length l ≤ i) c.deref-choice-items.ensures.value c.loop-choice-test.false in
    subst (λ l. IsLeast c.loop-choice.oldest (flat_map f l)) (take_all i ks past) c.loop-choice.invariant

use Rattle.std.proofs.Common.{◌≡◌, ◌<◌, ◌+◌, ◌-◌, suc, [], length, take, reverse, refl, sym, ap, ◌∙◌, subst, arith, length-take}
use Rattle.pl_model.specs.Resolution.{up_to}
use Rattle.term_store.specs.Contents.{back_to}
use Rattle.iso_search.specs.declared.choices.ChoicePoint.{ChoicePoint}
use Rattle.iso_search.specs.declared.search.Search.{Search}
use Rattle.iso_search.specs.Choices.{IsAlternativeIn, choices_at, node_behind}
use Rattle.iso_search.specs.Outcomes.{limits_in, state_in}
use Rattle.iso_search.specs.Reading.{reads}
use Rattle.iso_search.specs.Searching.{choices_of, node_of}
use Rattle.iso_search.proofs.Catching.{capped, caught_by_catch, caught_by_no_catch, looked_at, newest_up_to}
use Rattle.iso_search.proofs.Over.{length_choices, same_limits}
use Rattle.iso_search.proofs.search.Search.back_to_catch.Goals as goal

pub returns-in_default : goal.returns-in_default
returns-in_default c =
    let e = c.args.self.now in
    let at = c.newest_below-at.result in
    let k = c.index.result.now in
    let lt : at < length e.choices.items = omega (arith, c.newest_below-at.ensures.below, c.len-count.ensures, e.choices.ok.0) in
    record {
      whole = c.requires.whole;
      inside = tt;
      step = λ t ball rest le.
          let v = t.view in
          let count : c.len-count.result ≡ length (choices_of v e) = omega (arith, c.len-count.ensures, e.choices.ok.0, length_choices v e) in
          let same : length (choices_of v e) - (c.args.height + 1) ≡ length (choices_of v e) - (at + 1) = omega (arith, c.newest_below-at.ensures.same, count) in
          let old = back_to k.mark e.store in
          caught_by_no_catch (limits_in t e) (state_in t e) ball (node_of v e rest).goals (up_to (suc c.args.height) (choices_of v e))
          (choices_at v e.answer.items old (take k.frames e.frames.items) (reverse (take at e.choices.items)))
          v (reads v old) (node_behind v e.answer.items e.store e.frames.items k) k.alternative
          (capped (choices_of v e) c.args.height at same
          ∙ newest_up_to v e.answer.items e.store e.frames.items e.choices.items at k lt c.requires.whole.rests c.index.ensures)
          c.in_default.ensures;
      kept = refl;
      budgets = refl;
    }

pub unreachable-requires : goal.unreachable-requires
unreachable-requires c =
    let e = c.args.self.now in
    let at = c.newest_below-at.result in
    let lt : at < length e.choices.items = omega (arith, c.newest_below-at.ensures.below, c.len-count.ensures, e.choices.ok.0) in
    let left : take (at + 1) e.choices.items ≡ [] = sym c.cut_to.ensures.oldest ∙ c.in-None.ensures.newest in
    let none : length (take (at + 1) e.choices.items) ≡ 0 = ap length left in
    omega (arith, none, lt, length-take (at + 1) e.choices.items)

pub returns-clause-inside : goal.returns-clause-inside
returns-clause-inside c =
    let e = c.args.self.now in
    let f = c.backtrack.new.self in
    let at = c.newest_below-at.result in
    let lt : at < length e.choices.items = omega (arith, c.newest_below-at.ensures.below, c.len-count.ensures, e.choices.ok.0) in
    let x : c.in-Some-backtrack.k ≡ c.index.result.now =
    looked_at e.choices.items f.choices.items at c.index.result.now c.in-Some-backtrack.k lt c.index.ensures (sym c.cut_to.ensures.oldest ∙ c.in-Some-backtrack.ensures.newest) in
    let inside = subst (IsAlternativeIn f.store) (ap (λ (y : ChoicePoint). y.alternative) x ∙ c.in-Some.ensures) c.in-Some-backtrack.ensures.words.0 in
    (inside.0, inside.1, c.in-Some-backtrack.ensures.words.1)

pub returns-clause-step : goal.returns-clause-step
returns-clause-step c t ball rest le =
    let e = c.args.self.now in
    let d = c.cut_to.new.self in
    let f = c.backtrack.new.self in
    let v = t.view in
    let at = c.newest_below-at.result in
    let lt : at < length e.choices.items = omega (arith, c.newest_below-at.ensures.below, c.len-count.ensures, e.choices.ok.0) in
    let x : c.in-Some-backtrack.k ≡ c.index.result.now =
    looked_at e.choices.items f.choices.items at c.index.result.now c.in-Some-backtrack.k lt c.index.ensures (sym c.cut_to.ensures.oldest ∙ c.in-Some-backtrack.ensures.newest) in
    let count : c.len-count.result ≡ length (choices_of v e) = omega (arith, c.len-count.ensures, e.choices.ok.0, length_choices v e) in
    let same : length (choices_of v e) - (c.args.height + 1) ≡ length (choices_of v e) - (at + 1) = omega (arith, c.newest_below-at.ensures.same, count) in
    let one : suc at ≡ at + 1 = omega arith in
    let cut = c.cut_to.ensures.kept in
    let back = c.backtrack.ensures.kept in
    caught_by_catch t e f ball (node_of v e rest).goals (up_to (suc c.args.height) (choices_of v e)) c.in-Some-backtrack.k.alternative
    (record { catcher = c.in-Some.catcher; recovery = c.in-Some.recovery; next = c.in-Some-backtrack.k.next })
    (capped (choices_of v e) c.args.height at same ∙ ap (λ n. up_to n (choices_of v e)) one ∙ sym (c.cut_to.ensures.choices v) ∙ c.in-Some-backtrack.ensures.back v)
    (ap (λ (y : ChoicePoint). y.alternative) x ∙ c.in-Some.ensures)
    (same_limits t f e (ap (λ (s : Search). s.budgets) back ∙ ap (λ (s : Search). s.budgets) cut))
    (ap (λ (s : Search). s.next_variable) back ∙ ap (λ (s : Search). s.next_variable) cut)
    (ap (λ (s : Search). s.inferences) back ∙ ap (λ (s : Search). s.inferences) cut)

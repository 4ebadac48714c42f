use Rattle.std.proofs.Common.{length, refl, arith}
use Rattle.iso_search.specs.Searching.{choices_of}
use Rattle.iso_search.proofs.Over.{not_below, is_below, length_choices}
use Rattle.iso_search.proofs.search.Search.make_choice.Goals as goal

pub returns-then-height-most-clause-made : goal.returns-then-height-most-clause-made
returns-then-height-most-clause-made c v =
    let e = c.args.self.now in (
      not_below (length (choices_of v e)) e.budgets.choices
          (omega (arith, c.if-height-most.true, c.len-height.ensures, e.choices.ok.0, length_choices v e)),
      refl,
    )

pub returns-clause-made : goal.returns-clause-made
returns-clause-made c v =
    let e = c.args.self.now in (
      is_below (length (choices_of v e)) e.budgets.choices
          (omega (arith, c.if-height-most.false, c.len-height.ensures, e.choices.ok.0, length_choices v e)),
      c.in_ok-push_choice.ensures.choices v,
      omega (arith, c.len-height.ensures, e.choices.ok.0, length_choices v e),
    )

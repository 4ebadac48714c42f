use Rattle.std.proofs.Common.{◌≡◌, length, ap, ◌∙◌}
use Rattle.atom_words.specs.Board.{laid}
use Rattle.atom_words.specs.Opening.{opening_board}
use Rattle.atom_words.proofs.Openings.{opens, opens_rule}
use Rattle.atom_words.proofs.Regions.{laid_length}
use Rattle.atom_words.proofs.words.Words.new.Goals as goal

pub of_words-requires : goal.of_words-requires
of_words-requires c = let is : c.as_slice.result.now ≡ laid c.args.size (opening_board c.args.size) = c.as_slice.ensures.value ∙ c.in_ok-words.ensures in opens_rule c.args.size c.as_slice.result.now c.requires is

pub invariant_of-result-clause-counted : goal.invariant_of-result-clause-counted
invariant_of-result-clause-counted c = let is : c.as_slice.result.now ≡ laid c.args.size (opening_board c.args.size) = c.as_slice.ensures.value ∙ c.in_ok-words.ensures in
    c.in_ok-table.ensures.0 ∙ (ap length is ∙ laid_length c.args.size (opening_board c.args.size) (opens c.args.size c.requires).sized)

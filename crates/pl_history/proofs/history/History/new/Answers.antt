use Rattle.std.proofs.Common.{◌∙◌}
use Rattle.pl_history.proofs.Moves.{opens, two_more}
use Rattle.pl_history.proofs.history.History.new.Goals as goal

pub of_words-requires : goal.of_words-requires
of_words-requires c =
    opens
    c.args.engines
    c.as_slice.result.now
    (c.as_slice.ensures.value ∙ c.in_ok-zeros.ensures.items_if_clones_equal (λ y h. h) ∙ two_more c.args.engines)

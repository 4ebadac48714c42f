use Rattle.std.proofs.Common.{rules, tests}
use Rattle.std.proofs.lemmas.Iterator.{YieldsList-from_slice, items_from_collect}
use Rattle.std.proofs.lemmas.Iterator.Consumers.{YieldsList-from_filter_map}
use Rattle.std.proofs.lemmas.Result.{IfOk-at_ok}
use Rattle.shared_builtins.specs.Replies.{flag_line}
use Rattle.shared_builtins.proofs.tables.flag_lines.Goals as goal

pub returns : goal.returns
returns c =
    IfOk-at_ok _ c.in_ok-lines.was
    (items_from_collect _ c.collect.ensures.ran
    (YieldsList-from_filter_map _ flag_line (YieldsList-from_slice c.args.all.now cc) c.filter_map.ensures.closure (λ x r q k. search (rules, tests))))

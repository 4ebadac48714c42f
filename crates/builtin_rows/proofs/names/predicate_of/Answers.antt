use Rattle.std.proofs.Common.{◌≡◌, [], get_or, ap, ◌∙◌}
use Rattle.builtin_rows.specs.Tables.{table, with_count, predicate_at}
use Rattle.builtin_rows.proofs.Telling.{named, rows, shares, constructs}
use Rattle.builtin_rows.proofs.names.predicate_of.Goals as goal

found : (c : goal.After-with_count) → c.with_count.result ≡ predicate_at c.args.name c.args.arity
unfolding table
found c = c.with_count.ensures ∙ ap (with_count c.args.arity) (c.row_at.ensures ∙ ap (λ k. get_or table k []) c.slot.ensures)

pub returns : goal.returns
returns c =
    let a = c.args.name in
    let n = c.args.arity in
    let o = c.with_count.result in
    let e = found c in
    record { named = named a n o e; rows = rows a n o e; shares = shares a n o e; constructs = constructs a n o e }

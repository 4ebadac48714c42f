use Rattle.std.proofs.Common.{◌<◌, ◌≤◌, false, length, ap, sym, ◌∙◌, arith}
use Rattle.std.specs.Option.{option_map_or}
use Rattle.clause_db.specs.Parts.{piece, without_place, has_live}
use Rattle.clause_db.proofs.Added.{on_ok}
use Rattle.clause_db.proofs.Erasing.{set_without, past_without, get_past}
use Rattle.clause_db.proofs.parts.erase_in.Goals as goal

pub returns-then-i-as_slice-clause-ok : goal.returns-then-i-as_slice-clause-ok
returns-then-i-as_slice-clause-ok g c =
    let lt : c.args.i < length c.args.parts.now.items = omega (arith, c.if-i-as_slice.true, ap (λ l. length l) c.as_slice.ensures.value) in
    on_ok c.erase.result _ _
    (λ e. set_without c.args.clause c.args.place c.args.parts.now.items c.args.i c.index_mut.result.now (record c.index_mut.result.now { clauses = c.erase.new.self }) lt
    (ap (λ ds. record { name = c.index_mut.result.now.name; access = c.index_mut.result.now.access; since = c.index_mut.result.now.since; lives = c.index_mut.result.now.lives.items; clauses = ds }) e
    ∙ ap (λ x. without_place c.args.clause c.args.place (piece x)) c.index_mut.ensures.value))
    c.erase.ensures.ok

pub returns-clause-was : goal.returns-clause-was
returns-clause-was g c =
    let le : length c.args.parts.now.items ≤ c.args.i = omega (arith, c.if-i-as_slice.false, ap (λ l. length l) c.as_slice.ensures.value) in
    sym (ap (λ o. option_map_or (λ x. has_live c.args.clause x.clauses) o false) (get_past c.args.clause c.args.place c.args.parts.now.items c.args.i le))

pub returns-clause-ok : goal.returns-clause-ok
returns-clause-ok g c =
    let le : length c.args.parts.now.items ≤ c.args.i = omega (arith, c.if-i-as_slice.false, ap (λ l. length l) c.as_slice.ensures.value) in
    sym (past_without c.args.clause c.args.place c.args.parts.now.items c.args.i le)

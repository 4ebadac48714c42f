use Rattle.std.proofs.Common.{subst}
use Rattle.gen_core.specs.Shared.{SharesWith}
use Rattle.gen_core.proofs.SharedLaws.{noted_more, shares_none, shares_one}
use Rattle.gen_core.proofs.dated.share.Goals as goal

pub returns-in-Some-clause-ok : goal.returns-in-Some-clause-ok
returns-in-Some-clause-ok g c =
    let was = c.args.shared.now in
    let first = c.insert.new.self in
    let second = c.insert-in-Some.new.self in
    let here = c.in_ok-insert-in-Some.ensures.updates in
    let there = c.in_ok-insert-in-Some-2.ensures.updates in
    subst (λ k. SharesWith g.C.Key.Ord.cmp g.C.Kept.any g.C.Kept.key_of second c.args.index.now.clauses k c.args.number) c.in_ok-key.ensures
    (shares_one g.C.Key.Ord.cmp g.C.Kept.any g.C.Kept.key_of c.args.index.now c.requires.sound was second c.in_ok-key.key c.args.number c.in-Some.one g.met.C.Key.Ord.total c.requires.shared
    (λ n e. noted_more first second c.args.number there.0 n (noted_more was first c.in-Some.one here.0 n e))
    c.in-Some.ensures.some (noted_more first second c.args.number there.0 c.in-Some.one here.1) there.1)

pub returns-clause-ok : goal.returns-clause-ok
returns-clause-ok g c =
    subst (λ k. SharesWith g.C.Key.Ord.cmp g.C.Kept.any g.C.Kept.key_of c.args.shared.now c.args.index.now.clauses k c.args.number) c.in_ok-key.ensures
    (shares_none g.C.Key.Ord.cmp g.C.Kept.any g.C.Kept.key_of c.args.index.now c.requires.sound c.args.shared.now c.in_ok-key.key c.args.number g.met.C.Key.Ord.total c.in-None.ensures.none)

use Rattle.std.proofs.Common.{codes, sym, subst}
use Rattle.std.specs.List.{All}
use Rattle.std.proofs.lemmas.List.Elements.{All-push}
use Rattle.world_builtins.specs.Naming.{IsHeldAt}
use Rattle.world_builtins.specs.Spelling.{reads}
use Rattle.shared_builtins.proofs.FixedNames.{comma_is}
use Rattle.shared_builtins.proofs.Indicating.{opened, passed_over}
use Rattle.shared_builtins.proofs.indicators.take_conjunct.Goals as goal

pub returns-in_ok-push-in-Some-2-clause-read : goal.returns-in_ok-push-in-Some-2-clause-read
returns-in_ok-push-in-Some-2-clause-read c m n held =
    opened (reads m c.args.store.now) c.args.all.now.items c.args.left.now.items c.args.next c.in-Some.both.0 c.in-Some.both.1 c.push.new.self.items
    c.push-in-Some.new.self.items (c.in-Some.ensures.read m (codes ",") n held comma_is).0 c.in_ok-push-in-Some.ensures.items c.in_ok-push-in-Some-2.ensures.items

pub returns-in_ok-push-in-Some-2-clause-left_held : goal.returns-in_ok-push-in-Some-2-clause-left_held
returns-in_ok-push-in-Some-2-clause-left_held c m n held left =
    let H = IsHeldAt m c.args.store.now in
    let r = (c.in-Some.ensures.read m (codes ",") n held comma_is).1 in
    subst (All H) (sym c.in_ok-push-in-Some-2.ensures.items)
    (All-push H c.push.new.self.items c.in-Some.both.0
    (subst (All H) (sym c.in_ok-push-in-Some.ensures.items) (All-push H c.args.left.now.items c.in-Some.both.1 left r.1)) r.0)

pub returns-in_ok-push-in-None-clause-read : goal.returns-in_ok-push-in-None-clause-read
returns-in_ok-push-in-None-clause-read c m n held =
    passed_over (reads m c.args.store.now) c.args.all.now.items c.args.left.now.items c.push-in-None.new.self.items c.args.next
    (c.in-None.ensures.read m (codes ",") n held comma_is) c.in_ok-push-in-None.ensures.items

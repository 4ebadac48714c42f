use Rattle.std.proofs.Common.{◌≡◌, false, Some, cond, length, sym, ap, ◌∙◌, rules}
use Rattle.std.specs.Ordering.{nat_cmp, is_eq}
use Rattle.pl_term.specs.Variables.{is_in}
use Rattle.pl_term.specs.NodeLists.{place_if}
use Rattle.pl_term.proofs.Places.{place_if-push, absent}
use Rattle.builtin_term.proofs.seen_variables.Seen.meet.Goals as goal

pub invariant_of-self-in-Ok : goal.invariant_of-self-in-Ok
invariant_of-self-in-Ok c =
    let n : c.len-n.result ≡ length c.self.inside.met.items = search rules in
    let gone : is_in c.args.x c.self.inside.met.items ≡ false =
    absent
    c.args.x
    c.self.inside.met.items
    (sym (c.self.invariant c.args.x) ∙ sym c.in_default.ensures.value) in
    λ q. c.in-Ok.ensures.updates.0 q
    ∙ ap (λ o. cond (is_eq (nat_cmp c.args.x q)) (Some c.len-n.result) o) (c.self.invariant q)
    ∙ place_if-push q c.args.x c.len-n.result c.self.inside.met.items gone n
    ∙ ap (place_if q) (sym c.in_ok-push.ensures.items)

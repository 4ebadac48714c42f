use Rattle.std.proofs.Common.{ap, sym, ◌∙◌}
use Rattle.std.specs.Option.{option_map}
use Rattle.gen_core.specs.Visible.{is_choice, first_choice}
use Rattle.gen_core.proofs.Listed.{first_none, hit_is}
use Rattle.gen_core.proofs.Calls.{shown_is, shown_at, is_some-mapped}
use Rattle.gen_core.proofs.clause_index.ClauseIndex.next_in_order.Goals as goal

pub returns-in_default : goal.returns-in_default
returns-in_default g c =
    sym (ap first_choice (first_none g.C.Key.Ord.cmp g.C.Kept.any g.C.Kept.key_of c.args.self.now c.requires (is_choice g.C.Key.Ord.cmp g.C.Kept.any g.C.Kept.key_of c.args.g c.args.first.now) c.args.from c.in_default.ensures.next))

pub returns : goal.returns
returns g c =
    shown_is c.in-Some.item.now.value.dated c.hit.result.place c.hit.result.clause.now c.hit.result.more c.is_some-more.result c.hit.ensures
    ∙ shown_at c.args.self.now.clauses c.in-Some.item.now.number c.in-Some.item.now.value.dated c.is_some-more.result c.in-Some.ensures.at
    ∙ hit_is g.C.Key.Ord.cmp g.C.Kept.any g.C.Kept.key_of c.args.self.now c.requires (is_choice g.C.Key.Ord.cmp g.C.Kept.any g.C.Kept.key_of c.args.g c.args.first.now) c.args.from c.in-Some.item.now.number (option_map (λ x. x.now.number) c.next_tried-2.result) c.is_some-more.result (c.is_some-more.ensures ∙ is_some-mapped (λ x. x.now.number) c.next_tried-2.result) c.in-Some.ensures.next c.next_tried-2.ensures.next
